use mathlib.Core.Path.{◌≡◌}
use lib.ListN.{length}
use Rattle.planes.specs.Squares.{Exchanged}
use Rattle.planes.proofs.squares.exchange.Given as goal

abbrev pub invariant-loop-l : goal.invariant-loop-l
invariant-loop-l l = (length l.rows ≡ length l.initial.rows) × Exchanged l.h l.m l.at l.l l.initial.rows l.rows
