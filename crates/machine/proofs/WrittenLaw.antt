-- No words written on a channel leave it as it was.
use Prim.Native.Nat.{ℕ}
use mathlib.Core.List.{List, [], ◌∷◌}
use mathlib.Core.Path.{◌≡◌, refl}
use native.Mathlib.Nat.{add-zero}
use native.Mathlib.Omega.{arith}
use lib.ListN.{length, take-append-drop}
use Rattle.machine.specs.Step.{written}

-- a list of no length is empty
pub empty_of : {A : Type 0} (l : List A) → length l ≡ 0 → l ≡ []
empty_of [] e = refl
empty_of (x ∷ l) e = absurd (omega arith)

pub nothing_written : (at : ℕ) (c : List ℕ) → written at [] c ≡ c
nothing_written at c = rw (add-zero at) (take-append-drop at c)
