-- The width and the lengths decide.
use Rattle.timing.proofs.ProductLaw.{filled, misfit, no_ring_lem}
use Rattle.timing.proofs.products.timing_multiply.Goals as goal

pub returns-clause-is : goal.returns-clause-is
returns-clause-is c =
    filled _ _ _ _ c.of_width.ensures c.in-Some.is c.same_lengths.ensures
    _ c.if-not-same_lengths.false c.multiply_all.auto.zs c.multiply_all.ensures

pub returns-then-not-same_lengths-clause-is : goal.returns-then-not-same_lengths-clause-is
returns-then-not-same_lengths-clause-is c =
    misfit _ _ _ _ c.of_width.ensures c.in-Some.is c.same_lengths.ensures c.if-not-same_lengths.true

pub returns-in_default-clause-is : goal.returns-in_default-clause-is
returns-in_default-clause-is c =
    no_ring_lem _ _ _ _ c.of_width.ensures c.in_default.is
