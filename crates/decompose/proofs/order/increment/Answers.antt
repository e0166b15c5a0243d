-- The gate for z, then the half adders.
use Prim.Native.Nat.{◌+◌, ◌-◌}
use mathlib.Core.Path.{◌≡◌, refl}
use native.Mathlib.Omega.{arith}
use Rattle.circuit.specs.Sharings.{zeros}
use Rattle.circuit.proofs.LoanLaw.{ran_then, sends_count, sends_then, supplied_later}
use Rattle.decompose.proofs.StageLaw.{ended_here, totalled_alone}
use Rattle.decompose.proofs.order.increment.Goals as goal

pub raising_stage-raising-requires-clause-supplied : goal.raising_stage-raising-requires-clause-supplied
raising_stage-raising-requires-clause-supplied c =
    let total = c.args.total in
    supplied_later 1 (c.args.l - 1) (omega (arith, c.requires.count)) c.requires.supplied
    (c.zero_turn-first.ensures.ran total zeros zeros (totalled_alone total))

pub returns-clause-ended : goal.returns-clause-ended
returns-clause-ended c =
    let l = c.args.l in
    let all : 1 + (l - 1) ≡ l = omega (arith, c.requires.count) in
    λ x carries running e. sends_count all
    (sends_then (c.zero_turn-first.ensures.ran x carries running e) (c.raising_stage-raising.ensures x carries running e)
    (λ first second kept. ended_here l (ran_then refl first second kept) c.finish.ensures.is e))
