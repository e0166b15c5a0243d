-- Invariant: j half adders ran, whatever words the total is made of, and the carries have j + 1 bits, the last of which are at hand.
use mathlib.Core.Path.{refl}
use native.Mathlib.Omega.{arith}
use Rattle.circuit.specs.Decompose.{raising_gate}
use Rattle.circuit.specs.Sharings.{zeros}
use Rattle.circuit.proofs.LoanLaw.{more_sent, none_sent, supplied_later}
use Rattle.decompose.proofs.StageLaw.{first-last, stored_last, totalled_alone}
use Rattle.decompose.proofs.stages.raising_stage.Goals as goal

pub loop-j-init : goal.loop-j-init
loop-j-init c = (
  c.requires.first,
  first-last c.requires.first,
  λ x carries running e. none_sent raising_gate _ refl,
)

pub raising_turn-last-requires-clause-supplied : goal.raising_turn-last-requires-clause-supplied
raising_turn-last-requires-clause-supplied c =
    let total = c.args.total in
    supplied_later c.loop-j.j 1 (omega arith) c.requires.supplied (c.loop-j.invariant.2 total zeros zeros (totalled_alone total))

pub loop-j-preserved : goal.loop-j-preserved
loop-j-preserved c =
    let head = c.loop-j in (
      c.store-raising.ensures.below,
      stored_last _ head.invariant.0 c.raising_turn-last.ensures.below c.store-raising.ensures.is,
      λ x carries running e. more_sent raising_gate head.j (head.invariant.2 x carries running e)
          (c.raising_turn-last.ensures.ran x carries running head.raising c.store-raising.result e head.invariant.1.is
          c.store-raising.ensures.is),
    )
