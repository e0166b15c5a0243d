-- One gate is the whole order.
use mathlib.Core.Path.{◌≡◌}
use native.Mathlib.Omega.{arith}
use Rattle.std.proofs.Common.{rules}
use Rattle.gate.specs.Gates.{gated}
use Rattle.gate.specs.Places.{parts, sharing}
use Rattle.circuit.specs.Loans.{items_next}
use Rattle.circuit.proofs.LoanLaw.{heads_next, room_ahead, sends_said}
use Rattle.compose.proofs.StepLaw.{multiplied}
use Rattle.compose.proofs.steps.multiply.Goals as goal

pub returns-clause-is : goal.returns-clause-is
returns-clause-is c =
    let word : c.gate.result ≡ sharing (gated c.modulus-p.result (parts c.args.x) (parts c.args.y) (parts (items_next c.args.lent.now)))
    = search rules in
    rw (← c.modulus-p.ensures)
    (sends_said c.gate.ensures.sent
    (λ sent. multiplied _ (room_ahead (omega arith) c.requires.supplied.room) (rw (heads_next c.args.lent.now) word) sent))
