-- Invariant: the rest of the text, read on, gives the whole answer.
use mathlib.Core.Path.{ap, ◌∙◌}
use Rattle.drawing.specs.Asks.{number_in}
use Rattle.drawing.proofs.AskLaw.{number_read, read_over}
use Rattle.drawing.proofs.asks.read_number.Goals as goal

pub returns : goal.returns
returns c =
    c.number_in.ensures ∙ ap number_in (read_over _ _ _ c.loop-b.invariant c.loop-b-test.false) ∙ number_read _
