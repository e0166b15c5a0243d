-- Invariant: l pairs are exchanged.
use mathlib.Core.Path.{refl}
use native.Mathlib.Omega.{arith}
use lib.ListN.{length-set}
use Rattle.planes.specs.Squares.{flips, lower_row, upper_row}
use Rattle.planes.proofs.TurnLaw.{one_exchanged}
use Rattle.planes.proofs.squares.exchange.Goals as goal

pub loop-l-preserved : goal.loop-l-preserved
unfolding upper_row lower_row flips
loop-l-preserved c =
    let inv = c.loop-l.invariant in
    (simp length-set inv.0, one_exchanged inv.1 (omega arith) (omega arith) refl refl)
