use Prim.Native.Nat.{◌+◌, ◌^◌}
use Rattle.gate.specs.Places.{InRange}
use Rattle.circuit.specs.Circuits.{upto}
use Rattle.circuit.specs.Decompose.{carry_gate}
use Rattle.circuit.specs.Loans.{Sends, gates_ran}
use Rattle.circuit.specs.Sharings.{zeros}
use Rattle.decompose.specs.Words.{digits_of}
use Rattle.decompose.proofs.stages.carry_stage.Given as goal

abbrev pub invariant-loop-j : goal.invariant-loop-j
invariant-loop-j l =
    InRange (2 ^ (l.j + 1)) l.carries
    × Sends l.j (gates_ran (upto carry_gate l.j) (digits_of l.x zeros zeros zeros) (digits_of l.x l.carries zeros zeros)) l.initial.lent l.lent
