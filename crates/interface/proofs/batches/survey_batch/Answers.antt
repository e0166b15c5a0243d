-- Each way out of a call is what the definition leaves.
use Rattle.interface.proofs.CallLaw.{batch-left, batch-refused}
use Rattle.interface.proofs.batches.survey_batch.Goals as goal

pub returns-then-answer-ne3-clause-is : goal.returns-then-answer-ne3-clause-is
returns-then-answer-ne3-clause-is c =
    batch-refused _ _ _ _ _ _ _ c.if-answer-ne3.true

pub returns-clause-is : goal.returns-clause-is
returns-clause-is c =
    batch-left _ _ _ _ _ _ _ c.decompose_batch-given.result c.if-answer-ne3.false
    c.decompose_batch-given.ensures.is c.refusal.ensures c.write_answer.ensures
