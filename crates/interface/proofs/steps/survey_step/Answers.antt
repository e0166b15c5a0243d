-- Each way out of a call is what the definition leaves.
use mathlib.Core.Path.{sym, ◌∙◌}
use Rattle.machine.specs.Step.{step}
use Rattle.layout.proofs.SaysLaw.{said}
use Rattle.interface.proofs.CallLaw.{answer-length, order_unread, record_unread, seen, step_left, step-read, unseen}
use Rattle.interface.proofs.steps.survey_step.Goals as goal

pub returns-then-answer-ne3-clause-is : goal.returns-then-answer-ne3-clause-is
returns-then-answer-ne3-clause-is c =
    answer-length _ _ _ _ _ c.if-answer-ne3.true

pub returns-in_default-clause-is : goal.returns-in_default-clause-is
returns-in_default-clause-is c =
    record_unread _ _ _ _ _ (unseen _ c.see.ensures c.in_default.is)

-- the record that the words say
pub step_words-given-requires : goal.step_words-given-requires
step_words-given-requires c =
    let was = seen _ c.see.ensures c.in-Some.is in
    (was.0, said _ was.0 was.1, was.2)

pub returns-in_default-read_order-clause-is : goal.returns-in_default-read_order-clause-is
returns-in_default-read_order-clause-is c =
    order_unread _ _ _ _ _ (sym c.read_order.ensures ∙ c.in_default-read_order.is)

pub returns-clause-is : goal.returns-clause-is
returns-clause-is c =
    let was = seen _ c.see.ensures c.in-Some.is in
    step_left {x = step c.in-Some-read_order.o was.0 _ _}
    (c.step_words-given.ensures.is was.0 (said _ was.0 was.1) was.2) c.refusal.ensures c.write_answer.ensures
    ∙ step-read _ _ _ _ _ c.if-answer-ne3.false (sym c.read_order.ensures ∙ c.in-Some-read_order.is) was.1
