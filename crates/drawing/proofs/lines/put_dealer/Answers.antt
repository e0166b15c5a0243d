-- Two fields, one behind the other.
use native.Mathlib.Omega.{arith}
use Rattle.line.proofs.PrintLaw.{also}
use Rattle.drawing.specs.Lines.{dealer_line}
use Rattle.drawing.proofs.lines.put_dealer.Goals as goal

pub returns-clause-writes : goal.returns-clause-writes
unfolding dealer_line
returns-clause-writes c = also c.put_field-a.ensures.writes c.put_field.ensures.writes (omega arith)
