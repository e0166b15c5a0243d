-- What timing_multiply answers and leaves.
-- Used by the code's contracts alone: no theorem's statement speaks of it.
use Rattle.std.specs.Prelude.{ℕ, ◌*◌, ◌%◌, Bool, ◌&&◌, cond, List, [], ◌∷◌, eqb, ltb, length, Some, None, Option}
use Rattle.ring.specs.declared.rings.Ring.{Ring}
use Rattle.ring.specs.Rings.{modulus_of, ring_of}

-- both lengths are n
abbrev pub alike : ℕ → ℕ → ℕ → Bool
alike a b n = eqb a n && eqb b n

-- x × y modulo p, or 0 where one is out of range
unfoldable pub product : ℕ → ℕ → ℕ → ℕ
product p x y = cond (ltb x p && ltb y p) (x * y % p) 0

-- element by element
unfoldable pub products : ℕ → List ℕ → List ℕ → List ℕ
products p [] ys = []
products p (x ∷ xs) [] = []
products p (x ∷ xs) (y ∷ ys) = product p x y ∷ products p xs ys

-- the answer, and the third slice at exit
pub record Outcome : Type 0 where
  pub answer : ℕ
  pub words : List ℕ

abbrev pub outcome : ℕ → List ℕ → Outcome
outcome answer words = record { answer = answer; words = words }

abbrev pub multiplied_in : Option Ring → List ℕ → List ℕ → List ℕ → Outcome
multiplied_in (Some r) xs ys zs =
    cond (alike (length xs) (length ys) (length zs)) (outcome (length zs) (products (modulus_of r) xs ys)) (outcome 0 zs)
multiplied_in None xs ys zs = outcome 0 zs

-- where the width is a ring's and the lengths are equal; anything else leaves the third slice
unfoldable pub multiplied : ℕ → List ℕ → List ℕ → List ℕ → Outcome
multiplied width xs ys zs = multiplied_in (ring_of width) xs ys zs
