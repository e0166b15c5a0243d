-- A chunk that could not be read.
use mathlib.Core.Path.{refl}
use Rattle.std.proofs.lemmas.Result.{err_from_is_err_and}
use Rattle.survey.proofs.ChunkLaw.{took_none}
use Rattle.survey.proofs.Program.take_chunk.Goals as goal

pub returns-in_err-n-clause-took : goal.returns-in_err-n-clause-took
returns-in_err-n-clause-took c =
    let p = err_from_is_err_and c.from_residual.result c.from_residual.ensures.1 in
    took_none _ _ _ _ (rw (p.1, p.2, c.in_err-n.ensures.unread) refl)
