use mathlib.Core.Path.{◌≡◌}
use lib.ListN.{length}
use Rattle.ring.specs.Rings.{modulus_of}
use Rattle.planes.specs.Planes.{four_times_at}
use Rattle.planes.proofs.RowLaw.{Paired}
use Rattle.planes.proofs.rows.narrow_planes.Given as goal

abbrev pub invariant-loop-k : goal.invariant-loop-k
invariant-loop-k l = (length l.y ≡ 64) × Paired l.k (four_times_at (modulus_of l.r) l.a) l.y
