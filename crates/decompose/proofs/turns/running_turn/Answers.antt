use mathlib.Core.Path.{refl}
use Rattle.circuit.proofs.LoanLaw.{turn_sent}
use Rattle.decompose.proofs.GateLaw.{running-turned}
use Rattle.decompose.proofs.turns.running_turn.Goals as goal

pub returns-clause-ran : goal.returns-clause-ran
returns-clause-ran c =
    λ running r last after. turn_sent refl c.requires.supplied.room c.majority.ensures.sent
    (λ c₀ c₁ c₂ d₀ d₁ d₂ sent. running-turned _ c.bits-sum.ensures.is c.bits-second.ensures.is last c.majority.ensures.is sent after)
