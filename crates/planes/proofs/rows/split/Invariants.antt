use mathlib.Core.Path.{◌≡◌}
use lib.ListN.{length}
use Rattle.planes.specs.Planes.{Split}
use Rattle.planes.proofs.rows.split.Given as goal

abbrev pub invariant-loop-k : goal.invariant-loop-k
invariant-loop-k l = (length l.z ≡ 64) × Split l.k l.o l.z
