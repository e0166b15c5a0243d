use mathlib.Core.Path.{ap}
use Rattle.interface.proofs.CallLaw.{tape-refused, tape-written}
use Rattle.interface.proofs.tapes.survey_prepare.Goals as goal

pub returns-then-answer-ne2-clause-is : goal.returns-then-answer-ne2-clause-is
returns-then-answer-ne2-clause-is c = tape-refused _ _ _ _ c.if-answer-ne2.true

pub returns-clause-is : goal.returns-clause-is
returns-clause-is c =
    let told = c.told-refusal.ensures in
    rw c.copy_from_slice.ensures.after
    (tape-written _ _ _ _ c.prepare.result c.if-answer-ne2.false c.prepare.ensures.is (ap (λ t. t.0) told) (ap (λ t. t.1) told))
