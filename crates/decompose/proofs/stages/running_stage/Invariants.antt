use Prim.Native.Nat.{◌+◌, ◌^◌}
use Rattle.gate.specs.Places.{InRange}
use Rattle.circuit.specs.Circuits.{upto}
use Rattle.circuit.specs.Decompose.{running_gate}
use Rattle.circuit.specs.Loans.{Sends, gates_ran}
use Rattle.circuit.specs.Sharings.{zeros}
use Rattle.decompose.specs.Words.{digits_of}
use Rattle.decompose.proofs.StageLaw.{Last}
use Rattle.decompose.proofs.stages.running_stage.Given as goal

abbrev pub invariant-loop-j : goal.invariant-loop-j
invariant-loop-j l =
    InRange (2 ^ (l.j + 1 + 1)) l.running
    × Last (l.j + 1) l.running l.last
    × Sends l.j (gates_ran (upto (λ k. running_gate (k + 1)) l.j) (digits_of l.x l.carries zeros zeros) (digits_of l.x l.carries l.running zeros))
    l.initial.lent l.lent
