use Prim.Native.Nat.{◌+◌}
use Rattle.circuit.specs.Circuits.{upto}
use Rattle.circuit.specs.Decompose.{carry_gate}
use Rattle.circuit.specs.Loans.{Sends}
use Rattle.lanes.specs.Stages.{EachRan, carried, fresh}
use Rattle.lanes.proofs.stages.carry_lanes.Given as goal

abbrev pub invariant-loop-j : goal.invariant-loop-j
invariant-loop-j l = Sends l.j (EachRan (upto carry_gate l.j) (fresh l.x) (carried l.x l.q (l.j + 1))) l.initial.lent l.lent
