-- Gates on what is lent, one stretch after another.
use Prim.Native.Nat.{ℕ, ◌+◌, ◌<◌, ◌≤◌}
use mathlib.Core.List.{List, [], ◌∷◌, ◌++◌, append_assoc}
use mathlib.Core.Path.{◌≡◌, ap, fun_ext, refl, sym, ◌∙◌}
use native.Mathlib.Nat.{add-zero}
use native.Mathlib.Omega.{arith}
use native.Mathlib.Numerals.{add-one}
use lib.ListN.{drop, length, length-append, length-drop, take, take-append-drop}
use lib.Seq.{drop_at, drop-drop, get_or-drop, take_at}
use Rattle.std.proofs.lemmas.List.{drop-take, take-take}
use Rattle.gate.specs.Places.{InRange, Place, Sent, p0, p1, p2, parts, three}
use Rattle.gate.specs.declared.sharing.Sharing.{Sharing}
use Rattle.gate.proofs.PlaceLaw.{each}
use Rattle.circuit.specs.Circuits.{Gate, ends, heads, sent, upto}
use Rattle.circuit.specs.Lent.{Long, Ran, Turned}
use Rattle.circuit.specs.Loans.{ItemsIn, Room, Same, Sends, Supplied, channels, gates_ran, items_next, tapes, words_sent}
use Rattle.circuit.specs.Sharings.{items_at}
use Rattle.circuit.specs.declared.lent.Lent.{Lent}
use Rattle.circuit.proofs.RunLaw.{drops, ends-append, length-sent, length-upto, sent-append}
use Rattle.circuit.proofs.TurnLaw.{no_gates, turn-ran}

-- ---- two stretches, one after the other

-- words w stand before the rest of u; from there on words q stand before their rest; so the whole has both
both_sent : (n k : ℕ) (u w q : List ℕ) {d e : List ℕ} → length w ≡ n → d ≡ w ++ drop n u → take n e ≡ take n d → drop n e ≡ q ++ drop k (drop n d)
    → e ≡ (w ++ q) ++ drop (n + k) u
both_sent n k u w q {d} {e} hw hd kept more =
    let front : take n e ≡ w = kept ∙ ap (take n) hd ∙ take_at w (drop n u) n hw in
    let rest : drop n d ≡ drop n u = ap (drop n) hd ∙ drop_at w (drop n u) n hw in
    sym (take-append-drop n e)
    ∙ ap (λ (l : List ℕ). l ++ drop n e) front
    ∙ ap (λ (l : List ℕ). w ++ l) (more ∙ ap (λ (l : List ℕ). q ++ drop k l) rest ∙ ap (λ (l : List ℕ). q ++ l) (drop-drop k n u))
    ∙ sym (append_assoc w q (drop (n + k) u))

module _ {S : Type 0} where
  pub ran_then : {G H : List (Gate S)} {s r r' : Place → S} {T c d e : Place → List ℕ} {n : ℕ}
      → length G ≡ n
      → Ran G s T c r d
      → Ran H r (drops n T) (drops n d) r' (drops n e)
      → ((i : Place) → take n (e i) ≡ take n (d i))
      → Ran (G ++ H) s T c r' e
  ran_then {G} {H} {s} {r} {r'} {T} {c} {d} {e} {n} counted a b kept =
      let states : ends (G ++ H) s T ≡ r'
      = ends-append G H s T ∙ ap (λ (k : ℕ). ends H (ends G s T) (drops k T)) counted ∙ ap (λ q. ends H q (drops n T)) a.states ∙ b.states in
      record {
        states = states;
        channels = λ i.
            let first : List ℕ = sent G s T i in
            let more : List ℕ = sent H r (drops n T) i in
            let whole : sent (G ++ H) s T i ≡ first ++ more
            = sent-append G H s T i
            ∙ ap (λ (k : ℕ). first ++ sent H (ends G s T) (drops k T) i) counted
            ∙ ap (λ q. first ++ sent H q (drops n T) i) a.states in
            both_sent n (length H) (c i) first more (length-sent G s T i ∙ counted)
            (a.channels i ∙ ap (λ (k : ℕ). first ++ drop k (c i)) counted) (kept i) (b.channels i)
            ∙ ap (λ (l : List ℕ). l ++ drop (n + length H) (c i)) (sym whole)
            ∙ ap (λ (k : ℕ). sent (G ++ H) s T i ++ drop k (c i)) (ap (λ (k : ℕ). k + length H) (sym counted) ∙ sym (length-append G H));
      }

same_then : (n : ℕ) {u v w : Lent} → v.at ≡ u.at + n → Same u v → Same v w → Same u w
same_then n {u} {v} {w} moved a b =
    record {
      m0 = b.m0 ∙ a.m0;
      m1 = b.m1 ∙ a.m1;
      m2 = b.m2 ∙ a.m2;
      c0 = b.c0 ∙ a.c0;
      c1 = b.c1 ∙ a.c1;
      c2 = b.c2 ∙ a.c2;
      long = λ i. b.long i ∙ a.long i;
      behind = λ i. less i ∙ a.behind i;
    }
  where
    both : (i : Place) → take (u.at + n) (channels w i) ≡ take (u.at + n) (channels v i)
    both i = rw moved at (b.behind i)

    shorter : (l : List ℕ) → take u.at (take (u.at + n) l) ≡ take u.at l
    shorter l = take-take u.at (u.at + n) l (omega arith)

    less : (i : Place) → take u.at (channels w i) ≡ take u.at (channels v i)
    less i = sym (shorter (channels w i)) ∙ ap (take u.at) (both i) ∙ shorter (channels v i)

pub same_now : (v : Lent) → Same v v
same_now v = record { m0 = refl; m1 = refl; m2 = refl; c0 = refl; c1 = refl; c2 = refl; long = λ i. refl; behind = λ i. refl }

same_tapes : {v w : Lent} → Same v w → tapes w ≡ tapes v
same_tapes same = rw (same.m0, same.m1, same.m2)

pub sends_then : {n k : ℕ} {P Q R : (T c d : Place → List ℕ) → Type 0} {u v w : Lent}
    → Sends n P u v
    → Sends k Q v w
    → (P (drops u.at (tapes u)) (drops u.at (channels u)) (drops u.at (channels v))
    → Q (drops n (drops u.at (tapes u))) (drops n (drops u.at (channels v))) (drops n (drops u.at (channels w)))
    → ((i : Place) → take n (drop u.at (channels w i)) ≡ take n (drop u.at (channels v i)))
    → R (drops u.at (tapes u)) (drops u.at (channels u)) (drops u.at (channels w)))
    → Sends (n + k) R u w
sends_then {n} {k} {P} {Q} {R} {u} {v} {w} a b on =
    let at : ℕ = u.at in
    let moved : (X : Place → List ℕ) → drops v.at X ≡ drops n (drops at X)
    = λ X. ap (λ (m : ℕ). drops m X) a.at ∙ sym (fun_ext (λ i. drop-drop n at (X i))) in
    let second : Q (drops n (drops at (tapes u))) (drops n (drops at (channels v))) (drops n (drops at (channels w)))
    = rw (moved (tapes v), moved (channels v), moved (channels w), same_tapes a.same) at b.ahead in
    let kept : (i : Place) → take n (drop at (channels w i)) ≡ take n (drop at (channels v i))
    = λ i. sym (drop-take at n (channels w i)) ∙ ap (drop at) (rw a.at at (b.same.behind i)) ∙ drop-take at n (channels v i) in
    record {
      ahead = on a.ahead second kept;
      at = b.at ∙ omega (arith, a.at);
      same = same_then n a.at a.same b.same;
    }

-- each channel has room for a gate's word
pub room_ahead : {k : ℕ} {v : Lent} → 0 < k → Room k v → (i : Place) → 0 < length (drops v.at (channels v) i)
room_ahead {v = v} some room =
    each (λ i. 0 < length (drops v.at (channels v) i))
    (rw length-drop (omega (arith, room.channels))) (rw length-drop (omega (arith, room.channels))) (rw length-drop (omega (arith, room.channels)))

-- what is sent, said otherwise; and with the room that there was
pub sends_said : {n : ℕ} {P Q : (T c d : Place → List ℕ) → Type 0} {v w : Lent} → Sends n P v w
    → (P (drops v.at (tapes v)) (drops v.at (channels v)) (drops v.at (channels w))
    → Q (drops v.at (tapes v)) (drops v.at (channels v)) (drops v.at (channels w)))
    → Sends n Q v w
sends_said sends said = record { ahead = said sends.ahead; at = sends.at; same = sends.same }

pub sends_roomy : {n k : ℕ} {P : (T c d : Place → List ℕ) → Type 0} {v w : Lent} → 0 < k → Room k v → Sends n P v w
    → Sends n (λ T c d. ((i : Place) → 0 < length (c i)) × P T c d) v w
sends_roomy some room sends = record { ahead = (room_ahead some room, sends.ahead); at = sends.at; same = sends.same }

pub sends_count : {n k : ℕ} {P : (T c d : Place → List ℕ) → Type 0} {v w : Lent} → n ≡ k → Sends n P v w → Sends k P v w
sends_count e sends = rw e at sends

-- ---- gates of a kind

module _ {S : Type 0} where
  -- none yet
  pub none_sent : (g : ℕ → Gate S) {s r : Place → S} (v : Lent) → s ≡ r → Sends 0 (gates_ran (upto g 0) s r) v v
  none_sent g v e =
      record {
        ahead = no_gates g e;
        at = omega arith;
        same = same_now v;
      }

  -- one more
  pub more_sent : (g : ℕ → Gate S) (k : ℕ) {s r r' : Place → S} {u v w : Lent}
      → Sends k (gates_ran (upto g k) s r) u v
      → Sends 1 (gates_ran (g k ∷ []) r r') v w
      → Sends (k + 1) (gates_ran (upto g (k + 1)) s r') u w
  unfolding upto
  more_sent g k a b = sends_then a b (λ first second kept. rw (add-one k) (ran_then (length-upto g k) first second kept))

  -- three runs, each from a position on
  three-from : {G : List (Gate S)} {s r : Place → S} (v w : Lent) (k : ℕ)
      → Ran G s (three (drop k v.m0.now) (drop k v.m1.now) (drop k v.m2.now)) (three (drop k v.c0.now) (drop k v.c1.now) (drop k v.c2.now)) r
      (three (drop k w.c0.now) (drop k w.c1.now) (drop k w.c2.now))
      → Ran G s (drops k (tapes v)) (drops k (channels v)) r (drops k (channels w))
  three-from v w k ran = rw (by k v.m0.now v.m1.now v.m2.now, by k v.c0.now v.c1.now v.c2.now, by k w.c0.now w.c1.now w.c2.now) at ran
    where
      by : (k : ℕ) (a b c : List ℕ) → three (drop k a) (drop k b) (drop k c) ≡ drops k (three a b c)
      by k a b c = fun_ext (each (λ i. three (drop k a) (drop k b) (drop k c) i ≡ drops k (three a b c) i) refl refl refl)

  -- a turn is a stretch of one gate
  pub turn_sent : {g : Gate S} {s r : Place → S} {t z : Sharing} {v w : Lent}
      → t ≡ items_next v
      → Room 1 v
      → Sends 1 (words_sent z) v w
      → ((c₀ c₁ c₂ d₀ d₁ d₂ : List ℕ) → Sent z c₀ c₁ c₂ d₀ d₁ d₂ → Turned g s t r c₀ c₁ c₂ d₀ d₁ d₂)
      → Sends 1 (gates_ran (g ∷ []) s r) v w
  turn_sent {t = t} {v = v} {w = w} items room stored turned =
      let at : ℕ = v.at in
      let first : t ≡ items_at 0 (drop at v.m0.now) (drop at v.m1.now) (drop at v.m2.now)
      = rw (get_or-drop at v.m0.now 0 0, get_or-drop at v.m1.now 0 0, get_or-drop at v.m2.now 0 0, add-zero) items in
      let long : Long 1 (drop at v.c0.now) (drop at v.c1.now) (drop at v.c2.now)
      = record { zero = rw length-drop (omega (arith, room.channels)); one = rw length-drop (omega (arith, room.channels)); two = rw length-drop (omega (arith, room.channels)) } in
      record { ahead = three-from v w at (turn-ran first long (turned _ _ _ _ _ _ stored.ahead)); at = stored.at; same = stored.same }

-- ---- what is lent is enough for what comes later

pub room_later : {all : ℕ} (n k : ℕ) {P : (T c d : Place → List ℕ) → Type 0} {v w : Lent} → n + k ≤ all → Room all v → Sends n P v w → Room k w
room_later n k {v = v} {w = w} less room sends =
    let same = sends.same in
    let l₀ : length w.c0.now ≡ length v.c0.now = same.long p0 in
    let l₁ : length w.c1.now ≡ length v.c1.now = same.long p1 in
    let l₂ : length w.c2.now ≡ length v.c2.now = same.long p2 in
    record {
      masks = rw (same.m0, same.m1, same.m2) (record { zero = omega arith; one = omega arith; two = omega arith });
      channels = record { zero = omega arith; one = omega arith; two = omega arith };
    }

pub items_later : {m k all : ℕ} (n i : ℕ) {P : (T c d : Place → List ℕ) → Type 0} {v w : Lent} → all ≡ n + i → ItemsIn m all k v → Sends n P v w → ItemsIn m i k w
items_later n i {v = v} {w = w} e items sends =
    let same = sends.same in
    let here = rw e at items in
    record {
      below = λ j h.
          let at : w.at + i + j ≡ v.at + (n + i) + j = omega (arith, sends.at) in
          rw (at, same.m0, same.m1, same.m2) (here.below j h);
    }

pub items_less : (m n i k : ℕ) {v : Lent} → i + k ≤ n → ItemsIn m 0 n v → ItemsIn m i k v
items_less m n i k {v} less items =
    record {
      below = λ j h.
          let at : v.at + i + j ≡ v.at + 0 + (i + j) = omega arith in
          rw at (items.below (i + j) (omega arith));
    }

pub supplied_later : {m all : ℕ} (n k : ℕ) {P : (T c d : Place → List ℕ) → Type 0} {v w : Lent} → n + k ≤ all → Supplied m all v → Sends n P v w → Supplied m k w
supplied_later {m} {all} n k less supplied sends =
    record {
      room = room_later n k less supplied.room sends;
      items = items_later n 0 refl (items_less m all (n + 0) k (omega arith) supplied.items) sends;
    }

-- the next items are the heads of the tapes
pub heads_next : (v : Lent) → heads (drops v.at (tapes v)) ≡ parts (items_next v)
heads_next v =
    rw (get_or-drop v.at v.m0.now 0 0, get_or-drop v.at v.m1.now 0 0, get_or-drop v.at v.m2.now 0 0, add-zero)

-- the items of a gate are in range
pub next_in : {m n : ℕ} {t : Sharing} {v : Lent} → 0 < n → ItemsIn m 0 n v → t ≡ items_next v → InRange m t
next_in {m} {v = v} some items is =
    let at : v.at + 0 + 0 ≡ v.at = omega arith in
    rw is (rw at at (items.below 0 some))

pub next_below : {m n : ℕ} {v : Lent} → 0 < n → Supplied m n v → InRange m (items_next v)
next_below some supplied = next_in some supplied.items refl
