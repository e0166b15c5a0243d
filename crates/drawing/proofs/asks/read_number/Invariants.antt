use mathlib.Core.Path.{◌≡◌}
use lib.ListN.{drop}
use Rattle.line.specs.Readings.{read, read_on}
use Rattle.drawing.proofs.asks.read_number.Given as goal

abbrev pub invariant-loop-b : goal.invariant-loop-b
invariant-loop-b l = read_on l.reading (drop l.b-index l.text) ≡ read l.text
