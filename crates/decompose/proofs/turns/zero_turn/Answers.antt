use mathlib.Core.Path.{refl}
use Rattle.circuit.specs.Loans.{items_next}
use Rattle.circuit.proofs.LoanLaw.{next_below, turn_sent}
use Rattle.gate.specs.Places.{InRange}
use Rattle.gate.specs.Words.{BitWords}
use Rattle.std.proofs.Common.{rules}
use native.Mathlib.Omega.{arith}
use Rattle.decompose.proofs.GateLaw.{xor_bits, zero_turned}
use Rattle.decompose.proofs.turns.zero_turn.Goals as goal

pub returns : goal.returns
returns c =
    let t = items_next c.args.lent.now in
    let left = c.bits-left in
    let right = c.bits-right in
    let words : InRange 2 left.result → InRange 2 right.result → InRange 2 t → BitWords left.result right.result t c.gate-z.result
    = search rules in
    let word = words left.ensures.below right.ensures.below (next_below (omega arith) c.requires.supplied) in
    let both = xor_bits c.bitxor.ensures left.ensures.below right.ensures.below in
    let all = xor_bits c.bitxor-2.ensures both.1 word.below in
    record {
      ran = λ x carries running e. turn_sent refl c.requires.supplied.room c.gate-z.ensures.sent
          (λ c₀ c₁ c₂ d₀ d₁ d₂ sent. zero_turned left.ensures.is right.ensures.is word.is sent both.0 all.0 e);
      below = all.1;
    }
