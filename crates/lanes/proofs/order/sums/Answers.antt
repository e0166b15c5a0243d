use Prim.Native.Nat.{◌+◌}
use native.Mathlib.Omega.{arith}
use Rattle.circuit.proofs.LoanLaw.{room_later, sends_then}
use Rattle.lanes.proofs.OrderLaw.{sums_ran}
use Rattle.lanes.proofs.order.sums.Goals as goal

pub running_lanes-requires-clause-room : goal.running_lanes-requires-clause-room
running_lanes-requires-clause-room c = room_later (c.args.l + 1) c.args.l (omega arith) c.requires.room c.carry_lanes.ensures

pub returns : goal.returns
returns c = sends_then c.carry_lanes.ensures c.running_lanes.ensures sums_ran
