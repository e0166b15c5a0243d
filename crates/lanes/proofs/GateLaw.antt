-- Gates of words are gates of bits for each figure: one, and one stretch after another.
use Prim.Native.Nat.{ℕ, zero, suc, ◌+◌, ◌≤◌}
use mathlib.Core.List.{List, [], ◌∷◌, ◌++◌, map}
use mathlib.Core.Path.{◌≡◌, ap, fun_ext, refl, sym, ◌∙◌}
use native.Mathlib.Nat.{add-zero}
use native.Mathlib.Numerals.{add-one}
use native.Mathlib.Omega.{arith}
use lib.ListN.{drop, get_or, length, length-drop, set, take}
use lib.Seq.{get_or-drop}
use Rattle.ring.specs.Rings.{bit_of}
use Rattle.gate.specs.Places.{Place, Sent, p0, p1, p2}
use Rattle.gate.specs.declared.sharing.Sharing.{Sharing}
use Rattle.gate.proofs.PlaceLaw.{each}
use Rattle.circuit.specs.Circuits.{Gate, upto}
use Rattle.circuit.specs.Decompose.{Digits}
use Rattle.circuit.specs.Lent.{Long, Turned}
use Rattle.circuit.specs.Loans.{Room, Sends, channels, items_next, tapes, words_sent}
use Rattle.circuit.specs.Sharings.{items_at}
use Rattle.circuit.specs.declared.lent.Lent.{Lent}
use Rattle.circuit.proofs.LoanLaw.{ran_then}
use Rattle.circuit.proofs.RunLaw.{drops, length-upto}
use Rattle.circuit.proofs.TurnLaw.{no_gates, turn-ran}
use Rattle.decompose.specs.Words.{bits_at}
use Rattle.lanes.specs.Lanes.{lane, lanes}
use Rattle.lanes.specs.Stages.{EachRan}
use Rattle.lanes.proofs.LaneLaw.{get_or-lane, lane-drop, lane-take, length-lane}

map-set : (f : ℕ → ℕ) (l : List ℕ) (i a : ℕ) → map f (set l i a) ≡ set (map f l) i (f a)
map-set f [] i a = refl
map-set f (x ∷ xs) zero a = refl
map-set f (x ∷ xs) (suc i) a = ap (λ (l : List ℕ). f x ∷ l) (map-set f xs i a)

-- ---- one stretch after another

pub lanes-drop : (k n : ℕ) (X : Place → List ℕ) → lanes k (drops n X) ≡ drops n (lanes k X)
lanes-drop k n X =
    fun_ext (each (λ i. lanes k (drops n X) i ≡ drops n (lanes k X) i) (lane-drop k n (X p0)) (lane-drop k n (X p1)) (lane-drop k n (X p2)))

pub lanes_kept : (k n : ℕ) (e d : Place → List ℕ) → ((i : Place) → take n (e i) ≡ take n (d i)) → (i : Place) → take n (lanes k e i) ≡ take n (lanes k d i)
lanes_kept k n e d kept = each (λ i. take n (lanes k e i) ≡ take n (lanes k d i)) (by p0) (by p1) (by p2)
  where
    by : (i : Place) → take n (lane k (e i)) ≡ take n (lane k (d i))
    by i = sym (lane-take k n (e i)) ∙ ap (lane k) (kept i) ∙ lane-take k n (d i)

pub each_then : {G H : List (Gate Digits)} {s r r' : ℕ → Place → Digits} {T c d e : Place → List ℕ} {n : ℕ}
    → length G ≡ n
    → EachRan G s r T c d
    → EachRan H r r' (drops n T) (drops n d) (drops n e)
    → ((i : Place) → take n (e i) ≡ take n (d i))
    → EachRan (G ++ H) s r' T c e
each_then {T = T} {d = d} {e = e} {n = n} counted a b kept = record {
  on = λ k. ran_then counted (a.on k) (rw (lanes-drop k n T, lanes-drop k n d, lanes-drop k n e) at (b.on k)) (lanes_kept k n e d kept);
}

-- no gate of a kind yet, and one more
pub each_none : (g : ℕ → Gate Digits) {s r : ℕ → Place → Digits} {T c : Place → List ℕ} → ((k : ℕ) → s k ≡ r k) → EachRan (upto g 0) s r T c c
each_none g same = record { on = λ k. no_gates g (same k) }

pub each_more : (g : ℕ → Gate Digits) (n : ℕ) {s r r' : ℕ → Place → Digits} {T c d e : Place → List ℕ}
    → EachRan (upto g n) s r T c d
    → EachRan (g n ∷ []) r r' (drops n T) (drops n d) (drops n e)
    → ((i : Place) → take n (e i) ≡ take n (d i))
    → EachRan (upto g (n + 1)) s r' T c e
unfolding upto
each_more g n a b kept = rw (add-one n) (each_then (length-upto g n) a b kept)

pub nothing_sent : {P : (T c d : Place → List ℕ) → Type 0} (v : Lent)
    → P (drops v.at (tapes v)) (drops v.at (channels v)) (drops v.at (channels v)) → Sends 0 P v v
nothing_sent v holds =
    record {
      ahead = holds;
      at = omega arith;
      same = record { m0 = refl; m1 = refl; m2 = refl; c0 = refl; c1 = refl; c2 = refl; long = λ i. refl; behind = λ i. refl };
    }

-- what follows from what was sent
pub sends_of : {n : ℕ} {P Q : (T c d : Place → List ℕ) → Type 0} {v w : Lent} → Sends n P v w
    → (P (drops v.at (tapes v)) (drops v.at (channels v)) (drops v.at (channels w)) → Q (drops v.at (tapes v)) (drops v.at (channels v)) (drops v.at (channels w)))
    → Sends n Q v w
sends_of a on = record { ahead = on a.ahead; at = a.at; same = a.same }

-- ---- one gate

-- for each figure, a gate with items t and words z takes states s to r
pub record Takes (g : Gate Digits) (s r : ℕ → Place → Digits) (t z : Sharing) : Type 0 where
  pub turned : (k : ℕ) (c₀ c₁ c₂ d₀ d₁ d₂ : List ℕ) → Sent (bits_at z k) c₀ c₁ c₂ d₀ d₁ d₂ → Turned g (s k) (bits_at t k) (r k) c₀ c₁ c₂ d₀ d₁ d₂

-- words z were sent with items t: whatever gate they are of ran
pub record OneSent (t z : Sharing) (T c d : Place → List ℕ) : Type 0 where
  pub on : {g : Gate Digits} {s r : ℕ → Place → Digits} → Takes g s r t z → EachRan (g ∷ []) s r T c d

pub one_sent : {t z : Sharing} {v w : Lent} → t ≡ items_next v → Room 1 v → Sends 1 (words_sent z) v w → Sends 1 (OneSent t z) v w
one_sent {t} {z} {v} {w} items room sent =
    record { ahead = record { on = λ takes. record { on = λ k. turn-ran (taken k) (long k) (takes.turned k _ _ _ _ _ _ (stored k)) } }; at = sent.at; same = sent.same }
  where
    first : (k : ℕ) (l : List ℕ) → get_or (lane k (drop v.at l)) 0 0 ≡ bit_of (get_or l v.at 0) k
    first k l = get_or-lane k (drop v.at l) 0 ∙ ap (λ (w : ℕ). bit_of w k) (get_or-drop v.at l 0 0 ∙ ap (λ (n : ℕ). get_or l n 0) (add-zero v.at))

    taken : (k : ℕ) → bits_at t k ≡ items_at 0 (lane k (drop v.at v.m0.now)) (lane k (drop v.at v.m1.now)) (lane k (drop v.at v.m2.now))
    taken k = rw (first k v.m0.now, first k v.m1.now, first k v.m2.now) (ap (λ (w : Sharing). bits_at w k) items)

    one : (k : ℕ) (l : List ℕ) → v.at + 1 ≤ length l → 1 ≤ length (lane k (drop v.at l))
    one k l h = rw (length-lane k (drop v.at l), length-drop v.at l) (omega arith)

    long : (k : ℕ) → Long 1 (lane k (drop v.at v.c0.now)) (lane k (drop v.at v.c1.now)) (lane k (drop v.at v.c2.now))
    long k = record { zero = one k v.c0.now room.channels.zero; one = one k v.c1.now room.channels.one; two = one k v.c2.now room.channels.two }

    at_lane : (k : ℕ) (c d : List ℕ) (a : ℕ) → d ≡ set c 0 a → lane k d ≡ set (lane k c) 0 (bit_of a k)
    at_lane k c d a e = ap (lane k) e ∙ map-set (λ (w : ℕ). bit_of w k) c 0 a

    stored : (k : ℕ) → Sent (bits_at z k)
        (lane k (drop v.at v.c0.now)) (lane k (drop v.at v.c1.now)) (lane k (drop v.at v.c2.now))
        (lane k (drop v.at w.c0.now)) (lane k (drop v.at w.c1.now)) (lane k (drop v.at w.c2.now))
    stored k = record {
      zero = at_lane k _ _ z.s0 sent.ahead.zero;
      one = at_lane k _ _ z.s1 sent.ahead.one;
      two = at_lane k _ _ z.s2 sent.ahead.two;
    }
