use Prim.Native.Nat.{ℕ, ◌<◌}
use mathlib.Core.Path.{◌≡◌}
use lib.ListN.{get_or, length}
use Rattle.ring.specs.Rings.{modulus_of}
use Rattle.planes.specs.Planes.{four_times_at}
use Rattle.planes.proofs.rows.wide_planes.Given as goal

abbrev pub invariant-loop-k : goal.invariant-loop-k
invariant-loop-k l = (length l.y ≡ 64) × ((i : ℕ) → i < l.k → get_or l.y i 0 ≡ four_times_at (modulus_of l.r) l.a i)
