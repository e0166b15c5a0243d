-- The modulus masks what is below bit e, and a fold is never more than its word.
use Prim.Native.Nat.{ℕ, ◌+◌, ◌/◌, ◌%◌, ◌^◌}
use mathlib.Core.Path.{◌≡◌, ap}
use native.Mathlib.Omega.{arith}
use lib.Bits.{bit_and}
use Rattle.ring.proofs.FoldLaw.{fold-le}
use Rattle.ring.proofs.WordLaw.{low_bits}
use Rattle.ring.proofs.modular.fold.Goals as goal

masked : (c : goal.Start) → bit_and c.args.s c.args.p ≡ c.args.s % 2 ^ c.args.e
masked c = low_bits c.args.e c.args.p c.args.s c.requires.modulus

pub overflow_add-result : goal.overflow_add-result
overflow_add-result c =
    omega (arith, masked c, fold-le c.args.e c.args.s)

pub returns : goal.returns
returns c =
    ap (λ (n : ℕ). c.args.s / 2 ^ c.args.e + n) (masked c)
