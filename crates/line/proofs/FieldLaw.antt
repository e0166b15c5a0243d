-- A field of a line: digits that fit so far, and what one more byte does to them.
use Rattle.std.specs.Prelude.{Some, None}
use Prim.Native.Nat.{ℕ, ◌+◌, ◌-◌, ◌*◌, ◌≤◌, ◌<◌, ◌^◌}
use mathlib.Core.Path.{◌≡◌, refl}
use mathlib.Core.Bool.{Bool, true, false, and-false, and-true, ◌&&◌}
use mathlib.Core.List.{List, [], ◌∷◌, ◌++◌}
use native.Mathlib.Omega.{arith}
use borrow.Author.Tests.{le-leb, leb-true, lt-ltb, ltb-true}
use lib.Dec.{eqb, leb, ltb}
use lib.ListN.{length, length-append}
pub use Rattle.machine.proofs.KindLaw.{left_true, right_true}
use Rattle.line.specs.Lines.{all_digits, fields_from, fits, is_digit, number_from, number_of, numbers_of}

-- a test holds or not
pub split : {P : Type 0} (t : Bool) → (t ≡ true → P) → (t ≡ false → P) → P
split true met unmet = met refl
split false met unmet = unmet refl

contrary : {t : Bool} → t ≡ true → t ≡ false → ⊥
contrary p q = let wrong : ◌≡◌ {A = ℕ} 0 1 = cc in omega arith

pub both_true : {s t : Bool} → s ≡ true → t ≡ true → (s && t) ≡ true
both_true p q = rw (p, q)

pub all_append : (xs ys : List ℕ) → all_digits (xs ++ ys) ≡ (all_digits xs && all_digits ys)
unfolding all_digits
all_append [] ys = refl
all_append (b ∷ xs) ys = split (is_digit b) (λ e. rw e (all_append xs ys)) (λ e. rw e)

pub number_append : (n : ℕ) (xs ys : List ℕ) → number_from n (xs ++ ys) ≡ number_from (number_from n xs) ys
unfolding number_from
number_append n [] ys = refl
number_append n (b ∷ xs) ys = number_append (n * 10 + (b - 48)) xs ys

-- digits that can begin a readable field
pub record Fit (f : List ℕ) : Type 0 where
  pub digits : all_digits f ≡ true
  pub few : length f ≤ 20
  pub below : number_from 0 f < 2 ^ 64

pub fit_none : Fit []
unfolding all_digits number_from
fit_none = record { digits = refl; few = omega arith; below = omega arith }

fit_true : {f : List ℕ} → Fit f → fits f ≡ true
unfolding fits
fit_true {f} h = both_true h.digits (both_true (le-leb _ _ h.few) (lt-ltb _ _ h.below))

pub true_fit : (f : List ℕ) → fits f ≡ true → Fit f
unfolding fits
true_fit f h =
    let bounds : (leb (length f) 20 && ltb (number_from 0 f) (2 ^ 64)) ≡ true = right_true (all_digits f) _ h in
    record {
      digits = left_true (all_digits f) _ h;
      few = leb-true _ _ (left_true (leb (length f) 20) _ bounds);
      below = ltb-true _ _ (right_true (leb (length f) 20) _ bounds);
    }

module _ (f : List ℕ) (b : ℕ) where
  pub longer : length (f ++ (b ∷ [])) ≡ length f + 1
  longer = length-append f (b ∷ [])

  pub larger : number_from 0 (f ++ (b ∷ [])) ≡ number_from 0 f * 10 + (b - 48)
  unfolding number_from
  larger = number_append 0 f (b ∷ [])

  one_more : all_digits (f ++ (b ∷ [])) ≡ (all_digits f && is_digit b)
  unfolding all_digits
  one_more = rw (all_append, and-true)

  pub fit_more : Fit f → is_digit b ≡ true → length f < 20 → number_from 0 f * 10 + (b - 48) < 2 ^ 64 → Fit (f ++ (b ∷ []))
  fit_more h digit room below =
      record { digits = rw one_more (both_true h.digits digit); few = rw longer (omega arith); below = rw larger below }

  -- what cannot be read stays so
  more_fit : Fit (f ++ (b ∷ [])) → Fit f
  more_fit h =
      record {
        digits = left_true (all_digits f) _ (rw one_more at h.digits);
        few = omega (arith, rw longer at h.few);
        below = omega (arith, rw larger at h.below);
      }

  unfit : (Fit (f ++ (b ∷ [])) → ⊥) → fits (f ++ (b ∷ [])) ≡ false
  unfit never = split (fits (f ++ (b ∷ []))) (λ e. absurd (never (true_fit _ e))) (λ e. e)

  pub unfit_more : fits f ≡ false → fits (f ++ (b ∷ [])) ≡ false
  unfit_more h = unfit (λ g. contrary (fit_true (more_fit g)) h)

  pub unfit_other : is_digit b ≡ false → fits (f ++ (b ∷ [])) ≡ false
  unfit_other h = unfit (λ g. contrary (right_true (all_digits f) _ (rw one_more at g.digits)) h)

  pub unfit_digit : (ltb (length f) 20 && ltb (number_from 0 f * 10 + (b - 48)) (2 ^ 64)) ≡ false → fits (f ++ (b ∷ [])) ≡ false
  unfit_digit h =
      unfit (λ g.
      let room : length f < 20 = omega (arith, rw longer at g.few) in
      contrary (both_true (lt-ltb _ _ room) (lt-ltb _ _ (rw larger at g.below))) h)

-- the number of a field
pub number_none : (f : List ℕ) → length f ≡ 0 → number_of f ≡ None
unfolding number_of
number_none f h = rw h

pub number_unfit : (f : List ℕ) → fits f ≡ false → number_of f ≡ None
unfolding number_of
number_unfit f h = rw (h, and-false)

pub number_fit : {f : List ℕ} → Fit f → (length f ≡ 0 → ⊥) → number_of f ≡ Some (number_from 0 f)
unfolding number_of
number_fit {f} h some-digit = rw (fit_true h, le-leb 1 (length f) (omega arith))

-- a field that cannot be read spoils the line
pub unreadable : (f bs : List ℕ) → fits f ≡ false → numbers_of (fields_from f bs) ≡ None
unfolding fields_from numbers_of
unreadable f [] h = rw number_unfit
unreadable f (b ∷ bs) h =
    split (eqb b 44) (λ e. rw (e, number_unfit)) (λ e. rw e (unreadable (f ++ (b ∷ [])) bs (unfit_more f b h)))
