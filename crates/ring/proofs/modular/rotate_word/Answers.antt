use Prim.Native.Nat.{◌+◌, ◌*◌, ◌-◌, ◌/◌, ◌%◌, ◌^◌}
use mathlib.Core.Path.{◌≡◌}
use native.Mathlib.Omega.{arith}
use lib.Bits.{bit_and}
use Rattle.ring.specs.Rings.{rotated}
use Rattle.ring.proofs.WordLaw.{rotate_word}
use Rattle.ring.proofs.modular.rotate_word.Goals as goal

is : (c : goal.Start)
    → (bit_and c.args.a (c.args.p / 2 ^ c.args.k) * 2 ^ c.args.k) % 2 ^ 64 + c.args.a / 2 ^ (c.args.e - c.args.k)
    ≡ rotated c.args.e c.args.k c.args.a
is c = rotate_word c.args.e c.args.p c.args.k c.args.a c.requires.modulus c.requires.width c.requires.places

pub overflow_add-result : goal.overflow_add-result
overflow_add-result c =
    omega (arith, is c)

pub returns : goal.returns
returns =
    is
