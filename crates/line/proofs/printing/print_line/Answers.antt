-- Five fields, each behind the one before.
use native.Mathlib.Omega.{arith}
use Rattle.line.specs.Printed.{printed}
use Rattle.line.proofs.PrintLaw.{also}
use Rattle.line.proofs.printing.print_line.Goals as goal

pub returns-clause-writes : goal.returns-clause-writes
unfolding printed
returns-clause-writes c =
    also c.put_field-a.ensures.writes
    (also c.put_field-b.ensures.writes
    (also c.put_field-c.ensures.writes
    (also c.put_field-d.ensures.writes c.put_field.ensures.writes (omega arith))
    (omega arith)) (omega arith)) (omega arith)
