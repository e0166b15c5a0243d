use mathlib.Core.Bool.{not}
use mathlib.Core.Path.{ap, sym, ◌∙◌}
use Rattle.order.proofs.CheckLaw.{above15_is, all_passed, met, passed}
use Rattle.order.proofs.verdicts.begin.Goals as goal

pub returns-then-not-sound : goal.returns-then-not-sound
returns-then-not-sound c = met 1 _ (ap not c.if-not-sound.true)

pub returns-then-any_above15 : goal.returns-then-any_above15
returns-then-any_above15 c =
    passed 1 _ (ap not c.if-not-sound.false)
    (met 2 _ (sym (above15_is c.args.names.now) ∙ sym c.any_above15.ensures ∙ c.if-any_above15.true))

pub returns : goal.returns
returns c =
    passed 1 _ (ap not c.if-not-sound.false)
    (all_passed 2 (sym (above15_is c.args.names.now) ∙ sym c.any_above15.ensures ∙ c.if-any_above15.false))
