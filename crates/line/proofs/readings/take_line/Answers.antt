-- Invariant: what is left of the line from i on, read on, gives the whole answer.
use mathlib.Core.Path.{◌≡◌, ◌∙◌}
use native.Mathlib.Omega.{arith}
use Rattle.line.proofs.LineLaw.{taken_over, taken_stop, turned}
use Rattle.line.proofs.readings.take_line.Goals as goal

pub loop-i-preserved : goal.loop-i-preserved
loop-i-preserved c = (turned c.loop-i.invariant.0 c.loop-i-test.true c.if-b-eq10.false c.byte-reading.ensures, omega arith)

pub returns-then-b-eq10 : goal.returns-then-b-eq10
returns-then-b-eq10 c =
    let whole = taken_stop c.loop-i.invariant.0 c.loop-i-test.true c.if-b-eq10.true in record { reading = whole.0; stop = whole.1 }

pub returns : goal.returns
returns c =
    let whole = taken_over c.loop-i.invariant.0 c.loop-i-test.false in
    let stop : c.max.result ≡ c.loop-i.i = omega (arith, c.loop-i.invariant.1, c.loop-i.auto.i, c.max.ensures) in
    record { reading = whole.0; stop = stop ∙ whole.1 }
