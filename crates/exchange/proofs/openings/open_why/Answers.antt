use mathlib.Core.Path.{sym, ◌∙◌}
use Rattle.order.proofs.CheckLaw.{fine_first, met, passed, passed_on, refused-first}
use Rattle.exchange.proofs.openings.open_why.Goals as goal

pub returns-in_err-begin : goal.returns-in_err-begin
returns-in_err-begin c = passed_on _ _ c.from_residual.ensures.1 (refused-first _ _ tt _ c.in_err-begin.ensures)

pub returns-then-is_empty : goal.returns-then-is_empty
returns-then-is_empty c = fine_first _ _ tt c.in_ok-begin.ensures (met 3 _ (sym c.is_empty.ensures ∙ c.if-is_empty.true))

pub returns : goal.returns
returns c = fine_first _ _ tt c.in_ok-begin.ensures (passed 3 _ (sym c.is_empty.ensures ∙ c.if-is_empty.false) c.channels_why.ensures)
