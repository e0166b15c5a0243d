-- The running gates, then the increment.
use Prim.Native.Nat.{◌+◌}
use Rattle.std.proofs.Common.{rules}
use native.Mathlib.Omega.{arith}
use Rattle.circuit.specs.Decompose.{running_gate}
use Rattle.circuit.proofs.LoanLaw.{sends_then, supplied_later}
use Rattle.circuit.proofs.RunLaw.{length-upto}
use Rattle.decompose.proofs.StageLaw.{ended_then}
use Rattle.decompose.proofs.order.from_carries.Goals as goal

pub increment-requires-clause-supplied : goal.increment-requires-clause-supplied
increment-requires-clause-supplied c = supplied_later c.args.l c.args.l (omega arith) c.requires.supplied c.running_stage-running.ensures

pub returns-clause-ended : goal.returns-clause-ended
returns-clause-ended c =
    let l = c.args.l in
    let running = c.running_stage-running in
    sends_then running.ensures (c.increment.ensures.ended c.args.x c.args.carries running.result search rules)
    (λ first second kept. ended_then l (length-upto (λ k. running_gate (k + 1)) l) first second kept)
