-- The difference from 0, with the remainders by 4 as masks.
use Prim.Native.Nat.{ℕ, ◌-◌, ◌%◌}
use mathlib.Core.Path.{◌≡◌}
use native.Mathlib.Omega.{arith}
use lib.Bits.{and_mask, bit_and}
use Rattle.ring.specs.Modular.{diff}
use Rattle.compose.proofs.quotients.negated.Goals as goal

masked : (n : ℕ) → bit_and n 3 ≡ n % 4
masked n = and_mask n 2

pub returns : goal.returns
unfolding diff
returns c =
    omega (arith, masked c.args.x, masked (4 - bit_and c.args.x 3))
