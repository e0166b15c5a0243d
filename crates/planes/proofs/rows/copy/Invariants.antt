use mathlib.Core.Path.{◌≡◌}
use lib.ListN.{length}
use Rattle.planes.specs.Planes.{Copied}
use Rattle.planes.proofs.rows.copy.Given as goal

abbrev pub invariant-loop-k : goal.invariant-loop-k
invariant-loop-k l = (length l.z ≡ 64) × Copied l.k l.o l.z
