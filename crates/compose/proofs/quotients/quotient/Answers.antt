-- The gate gives the carry, and each place its word of two bits.
use mathlib.Core.Path.{◌≡◌}
use native.Mathlib.Omega.{arith}
use Rattle.std.proofs.Common.{rules}
use Rattle.gate.specs.Places.{sharing}
use Rattle.gate.proofs.PlaceLaw.{each}
use Rattle.circuit.proofs.LoanLaw.{room_ahead, sends_said}
use Rattle.compose.specs.Quotients.{quotient_with}
use Rattle.compose.proofs.QuotientLaw.{negatives, quoted}
use Rattle.compose.proofs.quotients.quotient.Goals as goal

pub returns : goal.returns
returns c =
    let r = c.map-r.result in
    let k = c.low_carry-k.result in
    let q = c.zip.result in
    let e : r ≡ sharing (negatives c.args.x) = search rules in
    let q₀ : q.s0 ≡ quotient_with r.s0 k.s0 = search rules in
    let q₁ : q.s1 ≡ quotient_with r.s1 k.s1 = search rules in
    let q₂ : q.s2 ≡ quotient_with r.s2 k.s2 = search rules in
    sends_said c.low_carry-k.ensures.is (λ found. quoted (room_ahead (omega arith) c.requires.room) e found (each _ q₀ q₁ q₂))
