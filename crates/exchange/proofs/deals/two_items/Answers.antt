use mathlib.Core.Path.{sym, ◌∙◌}
use borrow.Author.Tests.{le-ltb, lt-ltb}
use Rattle.machine.specs.Registers.{million}
use Rattle.order.proofs.CheckLaw.{all_passed, met, passed}
use Rattle.exchange.proofs.deals.two_items.Goals as goal

pub returns-then-n-gt-MILLION-clause-refusal : goal.returns-then-n-gt-MILLION-clause-refusal
returns-then-n-gt-MILLION-clause-refusal c = met 8 _ (lt-ltb million _ c.if-n-gt-MILLION.true)

pub returns-then-too_few-clause-refusal : goal.returns-then-too_few-clause-refusal
returns-then-too_few-clause-refusal c =
    passed 8 _ (le-ltb million _ c.if-n-gt-MILLION.false) (met 9 _ (sym c.too_few.ensures ∙ c.if-too_few.true))

pub returns-clause-refusal : goal.returns-clause-refusal
returns-clause-refusal c =
    passed 8 _ (le-ltb million _ c.if-n-gt-MILLION.false) (all_passed 9 (sym c.too_few.ensures ∙ c.if-too_few.false))
