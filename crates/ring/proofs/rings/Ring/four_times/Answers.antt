-- Four times a number of a ring fits a word, so nothing is shifted out.
use Prim.Native.Nat.{◌*◌, ◌%◌, ◌^◌}
use mathlib.Core.Path.{◌≡◌}
use native.Mathlib.Omega.{arith}
use Rattle.ring.specs.Rings.{u}
use Rattle.ring.proofs.RangeLaw.{modulus-lt}
use Rattle.ring.proofs.rings.Ring.four_times.Goals as goal

pub returns-clause-is : goal.returns-clause-is
returns-clause-is c =
    let shifted : (c.args.a * 2 ^ u) % 2 ^ 64 ≡ 2 ^ u * c.args.a = omega (arith, c.requires, modulus-lt c.args.self) in
    rw (← c.modulus.ensures, ← shifted) c.reduce_multiple.ensures.is
