-- Invariant: j running gates ran, and the running carries have j + 2 bits, the last of which are at hand.
use Prim.Native.Nat.{◌+◌}
use mathlib.Core.Path.{ap, sym}
use native.Mathlib.Omega.{arith}
use Rattle.gate.specs.declared.sharing.Sharing.{Sharing}
use Rattle.circuit.specs.Decompose.{running_gate}
use Rattle.circuit.specs.Sharings.{zeros}
use Rattle.circuit.proofs.LoanLaw.{more_sent, none_sent, supplied_later}
use Rattle.decompose.specs.Words.{digits_of}
use Rattle.decompose.proofs.StageLaw.{stored_last, zeros-last}
use Rattle.decompose.proofs.stages.running_stage.Goals as goal

pub loop-j-init : goal.loop-j-init
loop-j-init c = (
  rw c.zeros-running.ensures (omega arith),
  zeros-last c.zeros-running.ensures,
  none_sent (λ k. running_gate (k + 1)) _ (ap (λ (w : Sharing). digits_of c.args.x c.args.carries w zeros) (sym c.zeros-running.ensures)),
)

pub running_turn-last-requires-clause-supplied : goal.running_turn-last-requires-clause-supplied
running_turn-last-requires-clause-supplied c = supplied_later c.loop-j.j 1 (omega arith) c.requires.supplied c.loop-j.invariant.2

pub loop-j-preserved : goal.loop-j-preserved
loop-j-preserved c =
    let head = c.loop-j in (
      c.store-running.ensures.below,
      stored_last _ head.invariant.0 c.running_turn-last.ensures.below c.store-running.ensures.is,
      more_sent (λ k. running_gate (k + 1)) head.j head.invariant.2
          (c.running_turn-last.ensures.ran head.running c.store-running.result head.invariant.1.is c.store-running.ensures.is),
    )
