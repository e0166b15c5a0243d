-- The course of a filling: raw words that give n items, and raw words that run out before.
use Prim.Native.Nat.{ℕ, zero, suc, ◌+◌, ◌≤◌, ◌<◌}
use mathlib.Core.Path.{◌≡◌, refl, ap}
use mathlib.Core.Bool.{Bool, true, false}
use mathlib.Core.List.{List, [], ◌∷◌}
use native.Mathlib.Nat.{zero-add}
use native.Mathlib.Omega.{arith}
use borrow.Author.Tests.{lt-ltb, le-ltb, ltb-true, ltb-false}
use lib.Dec.{ltb}
use lib.ListN.{length, get_or, take}
use Rattle.tape.specs.Tapes.{filled, fill, low_bits, short}
use Rattle.tape.specs.Theorems.{fitting}

-- the first `used` raw words give the n items xs
pub data Fills (e limit : ℕ) : ℕ → List ℕ → List ℕ → ℕ → Type 0 where
  done : {raw : List ℕ} → Fills e limit zero raw [] zero
  fit : {n used w : ℕ} {raw xs : List ℕ} → low_bits e w < limit → Fills e limit n raw xs used
      → Fills e limit (suc n) (w ∷ raw) (low_bits e w ∷ xs) (suc used)
  again : {n used w : ℕ} {raw xs : List ℕ} → limit ≤ low_bits e w → Fills e limit (suc n) raw xs used
      → Fills e limit (suc n) (w ∷ raw) xs (suc used)

-- the raw words give fewer than n items
pub data Short (e limit : ℕ) : ℕ → List ℕ → Type 0 where
  over : {n : ℕ} → Short e limit (suc n) []
  fit : {n w : ℕ} {raw : List ℕ} → low_bits e w < limit → Short e limit n raw → Short e limit (suc n) (w ∷ raw)
  again : {n w : ℕ} {raw : List ℕ} → limit ≤ low_bits e w → Short e limit (suc n) raw → Short e limit (suc n) (w ∷ raw)

pub data Course (e limit n : ℕ) (raw : List ℕ) : Type 0 where
  fills : {xs : List ℕ} {used : ℕ} → Fills e limit n raw xs used → Course e limit n raw
  runs_out : Short e limit n raw → Course e limit n raw

module _ (e limit : ℕ) where
  fills_is : {n k : ℕ} {raw xs : List ℕ} → Fills e limit n raw xs k → (used : ℕ) → fill e limit n used raw ≡ filled xs (used + k)
  unfolding fill
  fills_is done used = ap (filled []) (omega arith)
  fills_is (fit {w = w} {xs = xs} below f) used =
      rw (lt-ltb (low_bits e w) limit, fills_is f (suc used)) (ap (filled (low_bits e w ∷ xs)) (omega arith))
  fills_is (again {w = w} {xs = xs} above f) used =
      rw (le-ltb (low_bits e w) limit, fills_is f (suc used)) (ap (filled xs) (omega arith))

  pub fills_all : {n k : ℕ} {raw xs : List ℕ} → Fills e limit n raw xs k → fill e limit n 0 raw ≡ filled xs k
  fills_all f = rw zero-add at (fills_is f 0)

  pub short_is : {n : ℕ} {raw : List ℕ} → Short e limit n raw → (used : ℕ) → fill e limit n used raw ≡ short
  unfolding fill
  short_is over used = refl
  short_is (fit {w = w} below s) used = rw (lt-ltb (low_bits e w) limit, short_is s (suc used))
  short_is (again {w = w} above s) used = rw (le-ltb (low_bits e w) limit, short_is s (suc used))

  pub course : (n : ℕ) (raw : List ℕ) → Course e limit n raw
  course zero raw = fills done
  course (suc n) [] = runs_out over
  course (suc n) (w ∷ raw) = go (ltb (low_bits e w) limit) refl (course n raw) (course (suc n) raw)
    where
      go : (test : Bool) → ltb (low_bits e w) limit ≡ test → Course e limit n raw → Course e limit (suc n) raw → Course e limit (suc n) (w ∷ raw)
      go true is (fills f) rest = fills (fit (ltb-true _ _ is) f)
      go true is (runs_out s) rest = runs_out (fit (ltb-true _ _ is) s)
      go false is next (fills f) = fills (again (ltb-false _ _ is) f)
      go false is next (runs_out s) = runs_out (again (ltb-false _ _ is) s)

  pub in_range : {n k : ℕ} {raw xs : List ℕ} → Fills e limit n raw xs k → (i : ℕ) → i < n → get_or xs i 0 < limit
  in_range done i h = omega arith
  in_range (fit below f) zero h = below
  in_range (fit below f) (suc i) h = in_range f i (omega arith)
  in_range (again above f) i h = in_range f i h

  pub as_many : {n k : ℕ} {raw xs : List ℕ} → Fills e limit n raw xs k → length xs ≡ n
  as_many done = refl
  as_many (fit below f) = ap suc (as_many f)
  as_many (again above f) = as_many f

  pub in_order : {n k : ℕ} {raw xs : List ℕ} → Fills e limit n raw xs k → xs ≡ fitting e limit (take k raw)
  unfolding fitting
  in_order done = refl
  in_order (fit {w = w} below f) = rw (lt-ltb (low_bits e w) limit) (ap (λ (l : List ℕ). low_bits e w ∷ l) (in_order f))
  in_order (again {w = w} above f) = rw (le-ltb (low_bits e w) limit) (in_order f)

  -- the raw words used give the same
  pub used_fill : {n k : ℕ} {raw xs : List ℕ} → Fills e limit n raw xs k → Fills e limit n (take k raw) xs k
  used_fill done = done
  used_fill (fit below f) = fit below (used_fill f)
  used_fill (again above f) = again above (used_fill f)

  -- and fewer run out
  pub fewer_short : {n k : ℕ} {raw xs : List ℕ} → Fills e limit n raw xs k → (j : ℕ) → j < k → Short e limit n (take j raw)
  fewer_short done j h = absurd (omega arith)
  fewer_short (fit below f) zero h = over
  fewer_short (fit below f) (suc j) h = fit below (fewer_short f j (omega arith))
  fewer_short (again above f) zero h = over
  fewer_short (again above f) (suc j) h = again above (fewer_short f j (omega arith))

  pub many_fit : {n k : ℕ} {raw xs : List ℕ} → Fills e limit n raw xs k → n ≤ length (fitting e limit raw)
  unfolding fitting
  many_fit done = omega arith
  many_fit (fit {w = w} below f) = rw (lt-ltb (low_bits e w) limit) (omega (arith, many_fit f))
  many_fit (again {w = w} above f) = rw (le-ltb (low_bits e w) limit) (many_fit f)

  pub few_fit : {n : ℕ} {raw : List ℕ} → Short e limit n raw → length (fitting e limit raw) < n
  unfolding fitting
  few_fit over = omega arith
  few_fit (fit {w = w} below s) = rw (lt-ltb (low_bits e w) limit) (omega (arith, few_fit s))
  few_fit (again {w = w} above s) = rw (le-ltb (low_bits e w) limit) (few_fit s)
