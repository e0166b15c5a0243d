-- Invariant: j carry gates ran, and the carries have j + 1 bits.
use mathlib.Core.Path.{ap, sym}
use native.Mathlib.Omega.{arith}
use Rattle.gate.specs.declared.sharing.Sharing.{Sharing}
use Rattle.circuit.specs.Decompose.{carry_gate}
use Rattle.circuit.specs.Sharings.{zeros}
use Rattle.circuit.proofs.LoanLaw.{more_sent, none_sent, supplied_later}
use Rattle.decompose.specs.Words.{digits_of}
use Rattle.decompose.proofs.stages.carry_stage.Goals as goal

pub loop-j-init : goal.loop-j-init
loop-j-init c = (
  rw c.zeros-carries.ensures (omega arith),
  none_sent carry_gate _ (ap (λ (w : Sharing). digits_of c.args.x w zeros zeros) (sym c.zeros-carries.ensures)),
)

pub carry_turn-carries-requires-clause-supplied : goal.carry_turn-carries-requires-clause-supplied
carry_turn-carries-requires-clause-supplied c = supplied_later c.loop-j.j 1 (omega arith) c.requires.supplied c.loop-j.invariant.1

pub loop-j-preserved : goal.loop-j-preserved
loop-j-preserved c = (
  c.carry_turn-carries.ensures.below,
  more_sent carry_gate c.loop-j.j c.loop-j.invariant.1 c.carry_turn-carries.ensures.ran,
)
