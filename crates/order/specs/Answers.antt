-- 01, "Why an order is refused": each case of an answer in numbers, and the code's outcome as the definition's.
use Rattle.std.specs.Prelude.{ℕ, cond, List, eqb, Result, Ok, Err}
use Rattle.gate.specs.Places.{Place}
use Rattle.machine.specs.Step as defined
use Rattle.machine.specs.Answers.{number_of}
use Rattle.machine.specs.declared.answers.Done.{Done}
use Rattle.machine.specs.declared.answers.Refusal.{Refusal}
use Rattle.order.specs.declared.answers.Outcome.{Outcome}

-- the refusal of what checks allow, or 0
abbrev pub verdict_of : {A : Type 0} → Result A Refusal → ℕ
verdict_of (Ok x) = 0
verdict_of (Err w) = number_of w

-- 0 where nothing is refused
abbrev pub refusal_of : Result Done Refusal → ℕ
refusal_of a = verdict_of a

-- "A refused order answers value 0 and 0 gates"
abbrev pub value_of : Result Done Refusal → ℕ
value_of (Ok done) = done.value
value_of (Err w) = 0

abbrev pub gates_of : Result Done Refusal → ℕ
gates_of (Ok done) = done.gates
gates_of (Err w) = 0

-- the first of two verdicts that refuses
abbrev pub first_nonzero : ℕ → ℕ → ℕ
first_nonzero v w = cond (eqb v 0) w v

-- the outcome of an order that leaves these channels
abbrev pub reported : Outcome → (Place → List ℕ) → defined.Outcome
reported r c =
    record {
      machine = r.machine;
      refusal = refusal_of r.answer;
      value = value_of r.answer;
      gates = gates_of r.answer;
      channels = c;
    }
