-- Lists of numbers that agree in their first words.
use Prim.Native.Nat.{ℕ, suc}
use mathlib.Core.List.{List, [], ◌∷◌}
use mathlib.Core.Path.{◌≡◌, ap, refl, sym, ◌∙◌}
use native.Mathlib.Omega.{arith}
use lib.ListN.{drop, take}
use lib.Seq.{get_or-take, take-nil}
use Rattle.view.specs.Views.{first}

pub first_of_take : (n : ℕ) (t v : List ℕ) → take (suc n) t ≡ take (suc n) v → first t ≡ first v
first_of_take n t v e =
    sym (get_or-take (suc n) t 0 0 (omega arith)) ∙ ap first e ∙ get_or-take (suc n) v 0 0 (omega arith)

pub rest_of_take : (n : ℕ) (t v : List ℕ) → take (suc n) t ≡ take (suc n) v → take n (drop 1 t) ≡ take n (drop 1 v)
rest_of_take n t v e = sym (whole t) ∙ ap (λ (l : List ℕ). drop 1 l) e ∙ whole v
  where
    whole : (l : List ℕ) → drop 1 (take (suc n) l) ≡ take n (drop 1 l)
    whole [] = sym (take-nil n)
    whole (x ∷ l) = refl
