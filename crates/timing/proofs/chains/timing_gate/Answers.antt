-- The width and the lengths decide.
use native.Mathlib.Omega.{arith}
use Rattle.timing.proofs.ChainLaw.{fitting, misfit, no_ring_lem, ran-all}
use Rattle.timing.proofs.chains.timing_gate.Goals as goal

pub start_chain-requires : goal.start_chain-requires
start_chain-requires c =
    let fit = fitting c.lengths_fit.ensures c.if-not-lengths_fit.false in
    record { one = fit.one; two = fit.two; enough = fit.enough }

pub returns-clause-is : goal.returns-clause-is
returns-clause-is c =
    ran-all _ _ _ _ _ c.of_width.ensures c.in-Some.is c.lengths_fit.ensures
    c.if-not-lengths_fit.false c.triple-from.ensures c.triple-by.ensures c.start_chain.ensures

pub returns-then-not-lengths_fit-clause-is : goal.returns-then-not-lengths_fit-clause-is
returns-then-not-lengths_fit-clause-is c =
    misfit _ _ _ _ _ c.of_width.ensures c.in-Some.is c.lengths_fit.ensures c.if-not-lengths_fit.true

pub triple-from-requires : goal.triple-from-requires
triple-from-requires c =
    omega (arith, fitting c.lengths_fit.ensures c.if-not-lengths_fit.false)

pub triple-by-requires : goal.triple-by-requires
triple-by-requires c =
    omega (arith, fitting c.lengths_fit.ensures c.if-not-lengths_fit.false)

pub returns-in_default-clause-is : goal.returns-in_default-clause-is
returns-in_default-clause-is c =
    no_ring_lem _ _ _ _ _ c.of_width.ensures c.in_default.is
