-- What the record refuses changes nothing; what it accepts is stored, or its gates are.
use native.Mathlib.Omega.{arith}
use mathlib.Core.Path.{refl, ap, ◌∙◌}
use Rattle.std.specs.Prelude.{Ok}
use Rattle.order.specs.Attempts.{attempted}
use Rattle.order.proofs.StepLaw.{passed_change}
use Rattle.attempt.proofs.AttemptLaw.{ready_gates, ready_local}
use Rattle.attempt.proofs.attempts.attempt.Goals as goal

pub returns-in_err-r : goal.returns-in_err-r
unfolding attempted
returns-in_err-r c = λ m of ready.
    passed_change m _ _ c.from_residual.ensures.1 (rw c.in_err-r.was (record { fits = tt; is = refl }))

pub returns-in-Local : goal.returns-in-Local
unfolding attempted
returns-in-Local c = λ m of ready.
    rw (c.in_ok-r.was ∙ ap Ok c.in-Local.is)
    (record { fits = (ready_local m _ c.in_ok-r.was c.in-Local.is ready, omega arith, omega arith); is = refl })

pub returns-in-Gates : goal.returns-in-Gates
returns-in-Gates c = λ m of ready.
    rw (c.in_ok-r.was ∙ ap Ok c.in-Gates.is) (c.perform.ensures m of (ready_gates m _ c.in_ok-r.was c.in-Gates.is ready).0)
