-- Lines only of a preparation that was not refused.
use Rattle.std.proofs.lemmas.Result.{err_from_is_err_and}
use Rattle.drawing.proofs.DrawLaw.{lines-drawn, nothing-drawn}
use Rattle.drawing.proofs.draws.draw_run.Goals as goal

pub returns-in_err-prepare-clause-lines : goal.returns-in_err-prepare-clause-lines
returns-in_err-prepare-clause-lines c =
    let p = err_from_is_err_and c.from_residual.result c.from_residual.ensures.1 in
    rw (p.1, p.2) (nothing-drawn _ _ _ _ c.in_err-prepare.ensures.is)

pub returns-clause-lines : goal.returns-clause-lines
returns-clause-lines c = lines-drawn _ _ c.in_ok-prepare.ensures.is c.put_lines.ensures.writes
