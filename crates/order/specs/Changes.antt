-- 01, "The nine orders": what an order does to the record and answers, apart from the record.
-- Used by the code's contracts alone: no theorem's statement speaks of it.
use Rattle.std.specs.Prelude.{ℕ, ◌≤◌, List, ◌≡◌, Result, Ok, Err}
use Rattle.gate.specs.Places.{Place}
use Rattle.machine.specs.Registers.{million, with_register}
use Rattle.machine.specs.Step.{Outcome, moved}
use Rattle.machine.specs.declared.answers.Done.{Done}
use Rattle.machine.specs.declared.answers.Refusal.{Refusal}
use Rattle.machine.specs.declared.registers.Machine.{Machine}
use Rattle.order.specs.Answers.{reported}
use Rattle.order.specs.Tasks.{Seated}
use Rattle.order.specs.declared.changes.Change.{Change}
use Rattle.order.specs.declared.changes.Change.TheVariants.{Opened, Stored}

-- the record that a change leaves, and the answer; an opening writes "One word a wire, no gate"
abbrev pub made : Change → Machine → Machine
made (Stored d r gates items) m = with_register (moved m gates gates items) d r
made (Opened v) m = moved m 0 1 0

abbrev pub done_by : Change → Done
done_by (Stored d r gates items) = record { value = 0; gates = gates }
done_by (Opened v) = record { value = v; gates = 0 }

-- and those of an order, which a refusal leaves as it was
abbrev pub changed : Result Change Refusal → Machine → Machine
changed (Ok k) m = made k m
changed (Err w) m = m

abbrev pub answer_of : Result Change Refusal → Result Done Refusal
answer_of (Ok k) = Ok (done_by k)
answer_of (Err w) = Err w

-- the outcome, beside the channels that the order leaves
abbrev pub applied : Result Change Refusal → Machine → (Place → List ℕ) → Outcome
applied k m c = reported (record { machine = changed k m; answer = answer_of k }) c

-- a destination below 16, and positions with room to rise
abbrev pub Makes : Machine → Change → Type 0
Makes m (Stored d r gates items) = Seated m d × (gates ≤ 296) × (items ≤ 2)
Makes m (Opened v) = (m.masks_at ≤ million) × (m.channels_at ≤ million) × (m.dealer_at ≤ million)

abbrev pub Fits : Machine → Result Change Refusal → Type 0
Fits m (Ok k) = Makes m k
Fits m (Err w) = Unit {0}

-- a change that fits a record, and is this outcome there
pub record Changes (m : Machine) (k : Result Change Refusal) (c : Place → List ℕ) (o : Outcome) : Type 0 where
  pub fits : Fits m k
  pub is : applied k m c ≡ o
