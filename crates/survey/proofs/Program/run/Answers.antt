-- All chunks, then the end of input.
use Rattle.survey.proofs.ChunkLaw.{ran_all, ran_cut}
use Rattle.survey.proofs.Program.run.Goals as goal

pub returns-then-is_err : goal.returns-then-is_err
returns-then-is_err c = ran_cut c.take_input-last.ensures _ c.if-is_err.ensures.negation

pub returns : goal.returns
returns c =
    let end = c.finish-at.ensures in
    ran_all c.take_input-last.ensures c.if-is_err.ensures.negation end.is end.writes
