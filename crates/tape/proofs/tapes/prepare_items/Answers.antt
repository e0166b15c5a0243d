-- The first pass decides, and the second has the filling.
use mathlib.Core.Path.{sym, ap, ◌∙◌}
use Rattle.tape.specs.Tapes.{settled}
use Rattle.tape.proofs.FillLaw.{fell_short}
use Rattle.tape.proofs.tapes.prepare_items.Goals as goal

pub returns : goal.returns
returns c =
    rw (← c.width-width.ensures, ← c.limit-limit.ensures)
    (sym (ap (settled _) (fell_short _ (sym c.enough.ensures ∙ c.if-enough.false))))
