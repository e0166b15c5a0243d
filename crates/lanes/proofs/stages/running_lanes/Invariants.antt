use Rattle.circuit.specs.Loans.{Sends}
use Rattle.lanes.proofs.StageLaw.{Summing}
use Rattle.lanes.proofs.stages.running_lanes.Given as goal

abbrev pub invariant-loop-i : goal.invariant-loop-i
invariant-loop-i l = Sends l.i (Summing l.i l.n l.x l.fn.s l.s l.last) l.initial.lent l.lent
