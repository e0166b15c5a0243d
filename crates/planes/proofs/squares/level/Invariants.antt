use mathlib.Core.Path.{◌≡◌}
use lib.ListN.{length}
use Rattle.planes.specs.Squares.{Levelled}
use Rattle.planes.proofs.squares.level.Given as goal

abbrev pub invariant-loop-q : goal.invariant-loop-q
invariant-loop-q l = (length l.rows ≡ length l.initial.rows) × Levelled l.h l.m l.q l.initial.rows l.rows
