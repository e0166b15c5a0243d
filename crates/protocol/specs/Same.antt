-- What the refusal of an order goes by, and two records that are the same in all that is public and in every value, though not in
-- their sub-shares.
use Rattle.std.specs.Prelude.{ℕ, true, List, ◌≡◌, length}
use Rattle.gate.specs.Places.{Place}
use Rattle.machine.specs.Checks.{Tapes, first_met, public_checks}
use Rattle.machine.specs.Registers.{public_of, sound}
use Rattle.machine.specs.Step.{lengths_of, step}
use Rattle.machine.specs.declared.orders.Order.{Order}
use Rattle.machine.specs.declared.registers.Machine.{Machine}
use Rattle.outcome.specs.Theorems.{value_at}
use Rattle.protocol.specs.Orders.{RefusedNumber, TakesSmall, without_number}

-- "only refusals 1, 7 and 10 look further": apart from 1, 10 and a deal's 7, the refusal goes by what is public, a deal's number put to 0
abbrev pub PublicFields : Type 0
PublicFields = (o : Order) (m : Machine) (T : Tapes) (c : Place → List ℕ)
    → sound m ≡ true
    → ((step o m T c).refusal ≡ 10 → ⊥)
    → (RefusedNumber o (step o m T c).refusal → ⊥)
    → (step o m T c).refusal ≡ first_met (public_checks (without_number o) (public_of m) (lengths_of T c))

-- a sound record of sixteen registers: the array's type gives their number
pub record Good (m : Machine) : Type 0 where
  pub sound : sound m ≡ true
  pub slots : length m.slots ≡ 16

pub record Same (m n : Machine) : Type 0 where
  pub left : Good m
  pub right : Good n
  pub public : public_of m ≡ public_of n
  pub values : (k : ℕ) → value_at m k ≡ value_at n k

-- an accepted order keeps a record good
abbrev pub KeepsGood : Type 0
KeepsGood = (o : Order) (m : Machine) (T : Tapes) (c : Place → List ℕ)
    → Good m
    → (step o m T c).refusal ≡ 0
    → Good (step o m T c).machine

-- and two the same, whatever the tapes: values depend on values alone, where 4a is below p
abbrev pub KeepsSame : Type 0
KeepsSame = (o : Order) (m n : Machine) (T T' : Tapes) (c c' : Place → List ℕ)
    → Same m n
    → (step o m T c).refusal ≡ 0
    → (step o n T' c').refusal ≡ 0
    → TakesSmall o m
    → Same (step o m T c).machine (step o n T' c').machine
