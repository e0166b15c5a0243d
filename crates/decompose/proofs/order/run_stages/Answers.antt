-- The carry gates, then all others.
use Prim.Native.Nat.{◌+◌, ◌*◌}
use mathlib.Core.Path.{◌≡◌}
use native.Mathlib.Omega.{arith}
use Rattle.ring.specs.Rings.{width_of}
use Rattle.circuit.specs.Decompose.{carry_gate}
use Rattle.circuit.proofs.LoanLaw.{sends_count, sends_then, supplied_later}
use Rattle.circuit.proofs.RunLaw.{length-upto}
use Rattle.decompose.proofs.StageLaw.{ended_then, left_is}
use Rattle.decompose.proofs.order.run_stages.Goals as goal

pub from_carries-requires-clause-supplied : goal.from_carries-requires-clause-supplied
from_carries-requires-clause-supplied c =
    let l = c.args.l in
    supplied_later (l + 1) (l + l) (omega arith) c.requires.supplied c.carry_stage-carries.ensures

pub returns-clause-left : goal.returns-clause-left
returns-clause-left c =
    let l = c.args.l in
    let all : l + 1 + (l + l) ≡ 3 * l + 1 = omega arith in
    sends_count all
    (sends_then c.carry_stage-carries.ensures c.from_carries.ensures.ended
    (λ first second kept. left_is (width_of c.args.r) l c.args.a c.four_times-x.ensures
    (ended_then l (length-upto carry_gate (l + 1)) first second kept)))
