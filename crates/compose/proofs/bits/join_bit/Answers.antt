-- The two joins are the bit's two gates.
use native.Mathlib.Omega.{arith}
use Rattle.ring.proofs.RangeLaw.{sized_gt}
use Rattle.circuit.proofs.LoanLaw.{room_later, sends_roomy, sends_then, supplied_later}
use Rattle.compose.proofs.TurnLaw.{bit_joined}
use Rattle.compose.proofs.bits.join_bit.Goals as goal

pub join_last-requires-clause-supplied : goal.join_last-requires-clause-supplied
join_last-requires-clause-supplied c = supplied_later 1 1 (omega arith) c.requires.supplied c.join_first-half.ensures.is

pub returns-clause-is : goal.returns-clause-is
returns-clause-is c =
    let first = c.join_first-half.ensures.is in
    let room = c.requires.supplied.room in
    sends_then (sends_roomy (omega arith) room first) (sends_roomy (omega arith) (room_later 1 1 (omega arith) room first) c.join_last.ensures.is)
    (λ joins joins' kept. bit_joined (omega (arith, sized_gt c.requires.sized)) joins.0 joins'.0 joins.1 joins'.1 kept)
