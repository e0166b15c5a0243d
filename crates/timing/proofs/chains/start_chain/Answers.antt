-- The tests of x and y decide whether the chain starts.
use mathlib.Core.Bool.{and-eq-true_iff}
use mathlib.Core.Path.{sym, ◌∙◌}
use Rattle.ring.proofs.RangeLaw.{sized}
use Rattle.gate.proofs.PlaceLaw.{in_range}
use Rattle.timing.proofs.ChainLaw.{nothing, started_as}
use Rattle.timing.proofs.chains.start_chain.Goals as goal

pub run_chain-requires : goal.run_chain-requires
run_chain-requires c =
    let told = (and-eq-true_iff _ _).0 c.if-is_below.true in
    let sizes = sized c.args.r c.width-e.ensures c.modulus-p.ensures in
    let left = in_range (sym c.is_below.ensures ∙ told.0) in
    let right = in_range (sym c.is_below-2.ensures ∙ told.1) in
    record { sized = sizes; left = left; right = right; lengths = c.requires }

pub returns-then-is_below : goal.returns-then-is_below
returns-then-is_below c =
    rw (started_as _ _ _ _ c.modulus-p.ensures c.is_below.ensures c.is_below-2.ensures c.if-is_below.true)
    (rw (← c.modulus-p.ensures) c.run_chain.ensures)

pub returns : goal.returns
returns c =
    rw (started_as _ _ _ _ c.modulus-p.ensures c.is_below.ensures c.is_below-2.ensures c.if-is_below.false)
    (nothing _)
