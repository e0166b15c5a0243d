-- Four fields, each behind the one before.
use native.Mathlib.Omega.{arith}
use Rattle.line.proofs.PrintLaw.{also}
use Rattle.drawing.specs.Lines.{masks_line}
use Rattle.drawing.proofs.lines.put_masks.Goals as goal

pub returns-clause-writes : goal.returns-clause-writes
unfolding masks_line
returns-clause-writes c =
    also c.put_field-a.ensures.writes
    (also c.put_field-b.ensures.writes
    (also c.put_field-c.ensures.writes c.put_field.ensures.writes (omega arith))
    (omega arith)) (omega arith)
