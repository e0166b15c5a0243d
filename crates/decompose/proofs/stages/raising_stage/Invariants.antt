use Prim.Native.Nat.{◌+◌, ◌^◌}
use mathlib.Core.Path.{◌≡◌}
use Rattle.gate.specs.Places.{InRange}
use Rattle.gate.specs.declared.sharing.Sharing.{Sharing}
use Rattle.circuit.specs.Circuits.{upto}
use Rattle.circuit.specs.Decompose.{raising_gate}
use Rattle.circuit.specs.Loans.{Sends, gates_ran}
use Rattle.decompose.specs.Words.{digits_of, totalled}
use Rattle.decompose.proofs.StageLaw.{Last}
use Rattle.decompose.proofs.stages.raising_stage.Given as goal

abbrev pub invariant-loop-j : goal.invariant-loop-j
invariant-loop-j l =
    InRange (2 ^ (l.j + 1)) l.raising
    × Last l.j l.raising l.last
    × ((x carries running : Sharing) → l.total ≡ totalled x carries running
    → Sends l.j (gates_ran (upto raising_gate l.j) (digits_of x carries running l.initial.raising) (digits_of x carries running l.raising)) l.initial.lent l.lent)
