use Prim.Native.Nat.{ℕ, ◌<◌}
use Rattle.circuit.specs.Loans.{Sends}
use Rattle.planes.specs.Planes.{NoPlanes}
use Rattle.lanes.proofs.StageLaw.{RisingRan}
use Rattle.lanes.proofs.stages.raising_lanes.Given as goal

abbrev pub invariant-loop-j : goal.invariant-loop-j
invariant-loop-j l =
    Sends l.j (RisingRan l.j l.n l.s l.initial.carry l.o l.carry) l.initial.lent l.lent
    × ((e : ℕ) → l.n < e → NoPlanes e l.initial.o → NoPlanes e l.o)
