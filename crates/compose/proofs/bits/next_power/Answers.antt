-- A whole turn is none.
use native.Mathlib.Omega.{arith}
use Rattle.ring.proofs.Theorems.{whole_rotation}
use Rattle.compose.proofs.bits.next_power.Goals as goal

pub returns-then-j-e : goal.returns-then-j-e
returns-then-j-e c =
    record { is = rw c.if-j-e.true (whole_rotation c.args.e); below = omega arith }
