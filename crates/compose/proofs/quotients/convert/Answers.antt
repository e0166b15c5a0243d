-- The majority gate, then the two bits of q.
use native.Mathlib.Omega.{arith}
use Rattle.circuit.proofs.LoanLaw.{items_later, room_later, sends_then}
use Rattle.compose.proofs.QuotientLaw.{converted}
use Rattle.compose.proofs.quotients.convert.Goals as goal

pub compose_bits-s-requires-clause-supplied : goal.compose_bits-s-requires-clause-supplied
compose_bits-s-requires-clause-supplied c =
    let done = c.quotient-q.ensures in
    record { room = room_later 1 4 (omega arith) c.requires.room done; items = items_later 1 0 (omega arith) c.requires.items done }

pub returns-clause-is : goal.returns-clause-is
returns-clause-is c =
    sends_then c.quotient-q.ensures c.compose_bits-s.ensures.is
    (λ first summed kept. converted _ _ c.four_times-x.ensures first summed kept c.settle.ensures.is)
