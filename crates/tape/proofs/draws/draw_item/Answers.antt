-- Invariant: what is left from word i on gives the whole answer, for every number of items.
use mathlib.Core.Path.{◌∙◌}
use Rattle.tape.proofs.FillLaw.{ended_here, fits_here, again_here}
use Rattle.tape.proofs.draws.draw_item.Goals as goal

pub loop-i-preserved : goal.loop-i-preserved
loop-i-preserved c =
    λ n. c.loop-i.invariant n ∙ again_here _ _ _ _ n c.loop-i-test.true c.low_bits-item.ensures c.if-item-limit.false

pub returns-then-item-limit : goal.returns-then-item-limit
returns-then-item-limit c =
    record { goes = λ n. c.loop-i.invariant n ∙ fits_here _ _ _ _ n c.loop-i-test.true c.low_bits-item.ensures c.if-item-limit.true }

pub returns : goal.returns
returns c = record { goes = λ n. c.loop-i.invariant n ∙ ended_here _ _ _ _ n c.loop-i-test.false }
