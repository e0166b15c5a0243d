-- An order's outcome on a record in words.
-- Used by the code's contracts alone: no theorem's statement speaks of it.
use Rattle.std.specs.Prelude.{ℕ, List, ◌≡◌, Result}
use Rattle.gate.specs.Places.{Place}
use Rattle.machine.specs.Step.{Outcome}
use Rattle.machine.specs.declared.answers.Done.{Done}
use Rattle.machine.specs.declared.answers.Refusal.{Refusal}
use Rattle.order.specs.Answers.{reported}
use Rattle.layout.specs.Layout.{Says}

-- words that say the record left, and the answer, beside the channels
pub record Reports (ws : List ℕ) (a : Result Done Refusal) (c : Place → List ℕ) (x : Outcome) : Type 0 where
  pub words : Says ws x.machine
  pub is : reported (record { machine = x.machine; answer = a }) c ≡ x
