-- "A unit uses nothing but its own pairs (a deal hands it one), its two strands, the words it has received and what is public ..,
-- and that is proved too": of `step` itself, for every order, record, tape and channel, and for each party by one proof.
use Rattle.std.specs.Prelude.{ℕ, suc, List, ◌≡◌, take}
use Rattle.gate.specs.Places.{Place}
use Rattle.machine.specs.Checks.{Tapes}
use Rattle.machine.specs.Registers.{public_of}
use Rattle.machine.specs.Step.{performed, step, written}
use Rattle.machine.specs.Work.{Work}
use Rattle.machine.specs.declared.orders.Order.{Order}
use Rattle.machine.specs.declared.registers.Machine.{Machine}
use Rattle.act.specs.Local.{SameUpTo, sent_by}
use Rattle.act.specs.Own.{answer, brought, brought_by, own_answer, own_of, own_performed, own_step}
use Rattle.protocol.specs.Acts.{act_of, shared_of, work_for}
use Rattle.protocol.specs.Orders.{column, without_number}

-- what U has after any work on a record is a function of what it had and what the work brought it
abbrev pub StepLocal : Type 1
StepLocal = (U : Place) (w : Work) (m : Machine) (left : Tapes) (c : Place → List ℕ)
    → own_of U (shared_of (performed w m left c).machine) (performed w m left c).channels
    ≡ own_performed U (work_for (public_of m) w) (own_of U (shared_of m) c) (brought U (work_for (public_of m) w) (column m) left)

-- what U has after an order: from the order without a deal's number, the refusal answered, what U had and what the order brought it
abbrev pub StepOwn : Type 0
StepOwn = (U : Place) (o : Order) (m : Machine) (T : Tapes) (c : Place → List ℕ)
    → own_of U (shared_of (step o m T c).machine) (step o m T c).channels
    ≡ own_step U (act_of (without_number o)) (step o m T c).refusal (own_of U (shared_of m) c) (brought_by U (act_of o) (shared_of m) T)

-- and value and gates answered: from the same
abbrev pub AnswerOwn : Type 0
AnswerOwn = (U : Place) (o : Order) (m : Machine) (T : Tapes) (c : Place → List ℕ)
    → answer (step o m T c).value (step o m T c).gates
    ≡ own_answer U (act_of (without_number o)) (step o m T c).refusal (own_of U (shared_of m) c) (brought_by U (act_of o) (shared_of m) T)

-- the words that an accepted order writes on channel U are those that U sends
abbrev pub StepSends : Type 0
StepSends = (U : Place) (o : Order) (m : Machine) (T : Tapes) (c : Place → List ℕ)
    → (step o m T c).refusal ≡ 0
    → (step o m T c).channels U ≡ written m.channels_at (sent_by U (act_of o) (shared_of m) T) (c U)

-- "the words it has received": the first k + 1 of them depend on the first k that U receives in the order, and on none later
abbrev pub StepCausal : Type 0
StepCausal = (U : Place) (o o' : Order) (m n : Machine) (T T' : Tapes) (c d : Place → List ℕ) (k : ℕ)
    → without_number o ≡ without_number o'
    → own_of U (shared_of m) c ≡ own_of U (shared_of n) d
    → SameUpTo k (brought_by U (act_of o) (shared_of m) T) (brought_by U (act_of o') (shared_of n) T')
    → take (suc k) (sent_by U (act_of o) (shared_of m) T) ≡ take (suc k) (sent_by U (act_of o') (shared_of n) T')
