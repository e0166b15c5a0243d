-- The decomposition, then its bits from s up.
use Prim.Native.Nat.{ℕ, ◌+◌, ◌*◌, ◌-◌, ◌≤◌}
use mathlib.Core.Path.{◌≡◌, ap}
use native.Mathlib.Omega.{arith}
use Rattle.ring.specs.Rings.{width_of}
use Rattle.circuit.proofs.LoanLaw.{items_later, room_later, sends_count, sends_then}
use Rattle.shift.proofs.ShiftLaw.{shifted}
use Rattle.shift.proofs.shift.Goals as goal

pub compose_bits-requires-clause-supplied : goal.compose_bits-requires-clause-supplied
compose_bits-requires-clause-supplied c =
    let done = rw c.width-l.ensures at c.decompose-w.ensures.left in
    rw c.width-l.ensures (record { room = room_later _ _ (omega arith) c.requires.room done; items = items_later _ 0 (omega arith) c.requires.items done })

pub returns-clause-is : goal.returns-clause-is
returns-clause-is c =
    let wide : c.args.s + 3 ≤ c.width-l.result = rw c.width-l.ensures c.requires.shift in
    let l : ℕ = c.width-l.result - 2 in
    let same : l ≡ width_of c.args.r - 2 = ap (λ (w : ℕ). w - 2) c.width-l.ensures in
    sends_count (ap (λ (l : ℕ). 3 * l + 1 + 2 * (l - c.args.s)) same) (sends_then c.decompose-w.ensures.left c.compose_bits.ensures.is
    (λ first second kept. shifted _ c.args.s l (omega (arith, wide)) same first second kept))
