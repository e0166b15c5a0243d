use Prim.Native.Nat.{◌+◌, ◌*◌}
use mathlib.Core.Path.{◌≡◌}
use native.Mathlib.Omega.{arith}
use Rattle.circuit.proofs.LoanLaw.{room_later, sends_count, sends_then}
use Rattle.lanes.proofs.OrderLaw.{worked}
use Rattle.lanes.proofs.order.work.Goals as goal

pub increment-requires-clause-room : goal.increment-requires-clause-room
increment-requires-clause-room c = let l = c.args.l in room_later (l + 1 + l) l (omega arith) c.requires.room c.sums.ensures

pub returns-clause-is : goal.returns-clause-is
returns-clause-is c =
    let l = c.args.l in
    let all : l + 1 + l + l ≡ 3 * l + 1 = omega arith in
    sends_count all (sends_then c.sums.ensures c.increment.ensures.is worked)
