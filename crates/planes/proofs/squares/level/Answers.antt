-- Invariant: q blocks are done.
use mathlib.Core.Path.{◌∙◌}
use Rattle.planes.proofs.TurnLaw.{one_levelled}
use Rattle.planes.proofs.squares.level.Goals as goal

pub loop-q-preserved : goal.loop-q-preserved
loop-q-preserved c =
    let inv = c.loop-q.invariant in
    (c.exchange.auto.rows ∙ inv.0, one_levelled inv.1 c.exchange.ensures)
