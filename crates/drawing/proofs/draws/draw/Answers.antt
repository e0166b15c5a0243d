-- The items and words lent are those of the definition.
use native.Mathlib.Omega.{arith}
use Rattle.drawing.proofs.DrawLaw.{drawn_is, items-lent}
use Rattle.drawing.proofs.RawLaw.{words-lent}
use Rattle.drawing.proofs.draws.draw.Goals as goal

pub returns-clause-lines : goal.returns-clause-lines
returns-clause-lines c =
    drawn_is _ _ _ _ _ _ (words-lent _ _ _ _ c.raw_words-count.ensures.count c.raw_words-count.ensures.words)
    (items-lent _ _ c.items_for-items.ensures.is (omega arith)) c.draw_run.ensures.lines
