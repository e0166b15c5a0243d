use mathlib.Core.Bool.{◌||◌}
use mathlib.Core.Path.{ap₂, sym, ◌∙◌}
use Rattle.order.proofs.CheckLaw.{all_passed, met, passed}
use Rattle.attempt.proofs.attempts.room.Goals as goal

pub returns-then-uneven : goal.returns-then-uneven
returns-then-uneven c = met 8 _ (sym (ap₂ ◌||◌ c.uneven.ensures c.uneven-2.ensures) ∙ c.if-uneven.true)

pub returns-then-too_few : goal.returns-then-too_few
returns-then-too_few c =
    passed 8 _ (sym (ap₂ ◌||◌ c.uneven.ensures c.uneven-2.ensures) ∙ c.if-uneven.false)
    (met 9 _ (sym c.too_few.ensures ∙ c.if-too_few.true))

pub returns-then-too_few-2 : goal.returns-then-too_few-2
returns-then-too_few-2 c =
    passed 8 _ (sym (ap₂ ◌||◌ c.uneven.ensures c.uneven-2.ensures) ∙ c.if-uneven.false)
    (passed 9 _ (sym c.too_few.ensures ∙ c.if-too_few.false)
    (met 11 _ (sym c.too_few-2.ensures ∙ c.if-too_few-2.true)))

pub returns : goal.returns
returns c =
    passed 8 _ (sym (ap₂ ◌||◌ c.uneven.ensures c.uneven-2.ensures) ∙ c.if-uneven.false)
    (passed 9 _ (sym c.too_few.ensures ∙ c.if-too_few.false)
    (all_passed 11 (sym c.too_few-2.ensures ∙ c.if-too_few-2.false)))
