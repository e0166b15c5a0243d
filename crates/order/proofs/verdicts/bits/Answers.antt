use Rattle.order.proofs.CheckLaw.{fine_first, passed_on, refused-first}
use Rattle.order.proofs.verdicts.bits.Goals as goal

pub returns-in_err-begin-clause-refusal : goal.returns-in_err-begin-clause-refusal
returns-in_err-begin-clause-refusal c =
    passed_on _ _ c.from_residual.ensures.1 (refused-first _ _ tt _ c.in_err-begin.ensures)

pub returns-clause-refusal : goal.returns-clause-refusal
returns-clause-refusal c = fine_first _ _ tt c.in_ok-begin.ensures c.some_bits.ensures.refusal
