use Prim.Native.Nat.{◌+◌, ◌-◌}
use mathlib.Core.Path.{◌≡◌}
use native.Mathlib.Omega.{arith}
use Rattle.circuit.proofs.LoanLaw.{room_later, sends_count, sends_then}
use Rattle.lanes.proofs.OrderLaw.{increments}
use Rattle.lanes.proofs.order.increment.Goals as goal

pub raising_lanes-requires-clause-room : goal.raising_lanes-requires-clause-room
raising_lanes-requires-clause-room c = room_later 1 (c.args.l - 1) (omega (arith, c.requires.count.0)) c.requires.room c.zero_lanes-first.ensures

pub returns-clause-is : goal.returns-clause-is
returns-clause-is c =
    let all : 1 + (c.args.l - 1) ≡ c.args.l = omega (arith, c.requires.count.0) in
    sends_count all
    (sends_then c.zero_lanes-first.ensures c.raising_lanes.ensures.is (increments c.requires.count.0 c.requires.count.1 c.clear.ensures))
