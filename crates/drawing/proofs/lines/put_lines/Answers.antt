-- Invariant: the lines so far are written.
use borrow.Author.Rules.{rules}
use Rattle.drawing.proofs.LinesLaw.{one_line}
use Rattle.drawing.proofs.lines.put_lines.Goals as goal

pub loop-k-preserved : goal.loop-k-preserved
loop-k-preserved c =
    one_line c.loop-k.invariant c.loop-k-test.true c.requires.room (search rules) c.put_line-at.ensures.writes c.put_line-at.ensures.short
