use mathlib.Core.Path.{refl}
use Rattle.circuit.specs.Loans.{items_next}
use Rattle.circuit.proofs.LoanLaw.{next_below, turn_sent}
use Rattle.gate.specs.Places.{InRange}
use Rattle.gate.specs.Words.{BitWords}
use Rattle.std.proofs.Common.{rules}
use native.Mathlib.Omega.{arith}
use Rattle.decompose.proofs.GateLaw.{raising_turned}
use Rattle.decompose.proofs.turns.raising_turn.Goals as goal

pub returns : goal.returns
returns c =
    let t = items_next c.args.lent.now in
    let left = c.bits-left in
    let words : InRange 2 left.result → InRange 2 c.args.last → InRange 2 t → BitWords left.result c.args.last t c.gate.result
    = search rules in
    let word = words left.ensures.below c.requires.last (next_below (omega arith) c.requires.supplied) in
    record {
      ran = λ x carries running raising r e last after. turn_sent refl c.requires.supplied.room c.gate.ensures.sent
          (λ c₀ c₁ c₂ d₀ d₁ d₂ sent. raising_turned _ left.ensures.is last word.is sent after e);
      below = word.below;
    }
