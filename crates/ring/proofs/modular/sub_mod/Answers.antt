-- What is subtracted is its own remainder.
use Prim.Native.Nat.{ℕ, ◌+◌, ◌-◌, ◌%◌, ◌<◌}
use mathlib.Core.Path.{◌≡◌, ◌∙◌, ap, sym}
use native.Mathlib.Nat.{mod-eq_of_lt}
use Rattle.ring.specs.Modular.{diff}
use Rattle.ring.proofs.modular.sub_mod.Goals as goal

difference : (p a b : ℕ) → b < p → (a + (p - b)) % p ≡ diff p a b
unfolding diff
difference p a b h = ap (λ (n : ℕ). (a + (p - n)) % p) (sym (mod-eq_of_lt h))

pub returns-clause-is : goal.returns-clause-is
returns-clause-is c = c.reduce_once.ensures.is ∙ difference _ _ _ c.requires.right
