-- One gate more on a chain, and the tests that start one.
use Rattle.std.specs.Prelude.{Some, None, Option}
use Prim.Native.Nat.{ℕ, suc, ◌+◌, ◌*◌, ◌-◌, ◌/◌, ◌≤◌, ◌<◌}
use mathlib.Core.Bool.{Bool, ◌&&◌, and-eq-true_iff, cond, false, true}
use mathlib.Core.List.{List, [], ◌++◌, ◌∷◌, append_assoc, append-nil, map, map-append}
use mathlib.Core.Path.{◌≡◌, refl, sym, ap, ◌∙◌}
use native.Mathlib.Nat.{sub-zero}
use native.Mathlib.Numerals.{add-one}
use native.Mathlib.Omega.{arith}
use borrow.Author.Tests.{eqb-true, leb-true}
use borrow.Rule.Slice.PartMut.{mid_of, mid_len, put_mid, set_mid_at}
use lib.ListN.{length, length-append, length-map, set}
use lib.Seq.{drop-cons, set_at}
use Rattle.gate.specs.declared.sharing.Sharing.{Sharing}
use Rattle.gate.specs.Places.{Place, Sent, p0, p1, p2, parts, shares_below, three}
use Rattle.gate.proofs.PlaceLaw.{each}
use Rattle.ring.specs.declared.rings.Ring.{Ring}
use Rattle.ring.specs.Rings.{modulus_of, ring_of}
use Rattle.timing.specs.Chains.{Ran, chain, gate_of, gates, shaped, started, triple_at, written}

-- the channel with one word more, stored at the head of its part from gate i on
word_more : (f : Sharing → ℕ) (zs : List Sharing) (z : Sharing) {i : ℕ} (c d e : List ℕ)
    → i ≡ length zs → i < length c → length d ≡ length c → d ≡ written f zs c
    → e ≡ set (mid_of i (length d - i) d) 0 (f z)
    → put_mid i (length d - i) d e ≡ written f (zs ++ (z ∷ [])) c
unfolding written
word_more f zs z {i} c d e count room same is head =
    let long = mid_len i (length d) d (omega arith) in
    let here : length (map f zs) ≡ i + 0 = rw length-map (omega arith) in
    let inside : length zs < length c = omega arith in
    rw (
      head,
      set_mid_at i (length d - i) 0 d (f z) (omega arith),
      is,
      drop-cons c (length zs) 0 inside,
      set_at (map f zs) _ _ (f z) (i + 0) here,
      map-append,
      length-append,
      add-one,
      append_assoc,
    )

-- the channels d with the words e as their parts from gate i on
abbrev stored : ℕ → (d e : Place → List ℕ) → Place → List ℕ
stored i d e =
    three (put_mid i (length (d p0) - i) (d p0) (e p0)) (put_mid i (length (d p1) - i) (d p1) (e p1)) (put_mid i (length (d p2) - i) (d p2) (e p2))

-- gate i is reached: what is done, and what z leads to
pub record Reached (p : ℕ) (x y : Sharing) (items : List ℕ) (c : Place → List ℕ) (i : ℕ) (z : Sharing) (d : Place → List ℕ) : Type 0 where
  pub done : List Sharing
  pub whole : chain p y items (length (c p0)) 0 x ≡ done ++ chain p y items (length (c p0) - i) i z
  pub ran : Ran done i c d

module _ (p : ℕ) (x y : Sharing) (items : List ℕ) (c : Place → List ℕ) where
  pub at-start : Reached p x y items c 0 x c
  unfolding written
  at-start = record { done = []; whole = rw sub-zero; ran = record { answers = refl; channels = λ k. refl } }

  module _ {i : ℕ} {z : Sharing} {d : Place → List ℕ} (r : Reached p x y items c i z d) where
    -- where the chain ends at z, what was done is all of it
    ended : chain p y items (length (c p0) - i) i z ≡ [] → Ran (chain p y items (length (c p0)) 0 x) i c d
    ended e = rw (r.whole, e, append-nil) r.ran

    pub full : length (c p0) ≡ i → Ran (chain p y items (length (c p0)) 0 x) (length (c p0)) c d
    unfolding chain
    full all =
        let none : length (c p0) - i ≡ 0 = omega arith in
        let ran = ended (rw none) in
        record { answers = all ∙ ran.answers; channels = ran.channels }

    pub stopped : {t : Sharing} → i < length (c p0) → t ≡ triple_at items (3 * i) → shares_below p t ≡ false
        → Ran (chain p y items (length (c p0)) 0 x) i c d
    unfolding chain
    stopped h read out =
        let split : length (c p0) - i ≡ suc (length (c p0) - (i + 1)) = omega arith in
        ended (rw (split, ap (shares_below p) (sym read) ∙ out))

    pub went_on : {t z' : Sharing} {e₀ e₁ e₂ : List ℕ}
        → i < length (c p0) → length (c p1) ≡ length (c p0) → length (c p2) ≡ length (c p0)
        → length (d p0) ≡ length (c p0) → length (d p1) ≡ length (c p1) → length (d p2) ≡ length (c p2)
        → t ≡ triple_at items (3 * i) → shares_below p t ≡ true → z' ≡ gate_of p z y t
        → Sent z' (mid_of i (length (d p0) - i) (d p0)) (mid_of i (length (d p1) - i) (d p1)) (mid_of i (length (d p2) - i) (d p2)) e₀ e₁ e₂
        → Reached p x y items c (i + 1) z' (stored i d (three e₀ e₁ e₂))
    unfolding chain
    went_on {t} {z'} {e₀} {e₁} {e₂} h same₁ same₂ l₀ l₁ l₂ read fits is sent =
        let split : length (c p0) - i ≡ suc (length (c p0) - (i + 1)) = omega arith in
        let count : i + 1 ≡ length (r.done ++ (z' ∷ [])) = rw length-append (omega (arith, r.ran.answers)) in
        record {
          done = r.done ++ (z' ∷ []);
          whole = r.whole ∙ rw (split, ap (shares_below p) (sym read) ∙ fits, append_assoc, is ∙ ap (gate_of p z y) read, add-one i);
          ran = record {
            answers = count;
            channels = each (λ k. stored i d (three e₀ e₁ e₂) k ≡ written (λ z. parts z k) (r.done ++ (z' ∷ [])) (c k))
                (word_more _ r.done z' (c p0) (d p0) _ r.ran.answers h l₀ (r.ran.channels p0) sent.zero)
                (word_more _ r.done z' (c p1) (d p1) _ r.ran.answers (omega arith) l₁ (r.ran.channels p1) sent.one)
                (word_more _ r.done z' (c p2) (d p2) _ r.ran.answers (omega arith) l₂ (r.ran.channels p2) sent.two);
          };
        }

-- no gate is done
pub nothing : (c : Place → List ℕ) → Ran [] 0 c c
unfolding written
nothing c = record { answers = refl; channels = λ k. refl }

pub started_as : {p q : ℕ} {a b told : Bool} (x y : Sharing) (items : List ℕ) (n : ℕ)
    → q ≡ p → a ≡ shares_below q x → b ≡ shares_below q y → a && b ≡ told
    → started p x y items n ≡ cond told (chain p y items n 0 x) []
unfolding started
started_as x y items n hp ha hb test = rw (← hp, ← ha, ← hb, test)

module _ (width : ℕ) (x y items : List ℕ) (c : Place → List ℕ) {found : Option Ring} (is : found ≡ ring_of width) where
  pub no_ring_lem : found ≡ None → Ran (gates width x y items c) 0 c c
  unfolding gates
  no_ring_lem none = rw (← is, none) (nothing c)

  module _ {r : Ring} {fit : Bool} (named : found ≡ Some r)
      (test : fit ≡ shaped (length x) (length y) (length items) (length (c p0)) (length (c p1)) (length (c p2))) where
    pub misfit : fit ≡ false → Ran (gates width x y items c) 0 c c
    unfolding gates
    misfit said = rw (← is, named, ← test, said) (nothing c)

    pub ran-all : {s t : Sharing} {n : ℕ} {d : Place → List ℕ} → fit ≡ true → s ≡ triple_at x 0 → t ≡ triple_at y 0
        → Ran (started (modulus_of r) s t items (length (c p0))) n c d
        → Ran (gates width x y items c) n c d
    unfolding gates
    ran-all said left right ran = rw (← is, named, ← test, said, ← left, ← right) ran

-- what the lengths' test says
pub record Fitting (x y items n₀ n₁ n₂ : ℕ) : Type 0 where
  pub left : x ≡ 3
  pub right : y ≡ 3
  pub one : n₁ ≡ n₀
  pub two : n₂ ≡ n₀
  pub enough : n₀ ≤ items / 3

pub fitting : {x y items n₀ n₁ n₂ : ℕ} {fit : Bool} → fit ≡ shaped x y items n₀ n₁ n₂ → fit ≡ true → Fitting x y items n₀ n₁ n₂
unfolding shaped
fitting is said =
    let all = (and-eq-true_iff _ _).0 (sym is ∙ said) in
    let three = (and-eq-true_iff _ _).0 all.0 in
    let two = (and-eq-true_iff _ _).0 three.0 in
    let rest = (and-eq-true_iff _ _).0 three.1 in
    record {
      left = eqb-true _ _ two.0;
      right = eqb-true _ _ two.1;
      one = eqb-true _ _ rest.0;
      two = eqb-true _ _ rest.1;
      enough = leb-true _ _ all.1;
    }
