-- 01, "What demand 3 compares", of the nine orders; jobs, runs and views of any protocol are in crate `act`, specs/Jobs.antt.
use Rattle.std.specs.Prelude.{ℕ, ◌*◌, ◌<◌, List, map, ◌≡◌}
use Rattle.ring.specs.Rings.{modulus}
use Rattle.gate.specs.Places.{Place, next, parts}
use Rattle.machine.specs.Registers.{Public, empty_machine, kind_at, public_of, register_at, shares_of, width_at}
use Rattle.machine.specs.Step.{step, value_of}
use Rattle.machine.specs.Step as steps
use Rattle.machine.specs.declared.orders.Order.{Order}
use Rattle.machine.specs.declared.orders.Order.TheVariants.{Add, Compose, Convert, Deal, Decompose, Multiply, Open, Scale, Shift}
use Rattle.machine.specs.declared.registers.Machine.{Machine}
use Rattle.machine.specs.declared.registers.Register.{Register}
use Rattle.act.specs.Jobs.{Outcome, Protocol}
use Rattle.act.specs.Secrecy.{Secrecy}
use Rattle.outcome.specs.Theorems.{is_opening}

-- what an order returns
abbrev pub returned : steps.Outcome → Outcome Machine
returned o = record { state = o.machine; refusal = o.refusal; value = o.value; gates = o.gates; channels = o.channels }

-- "A deal is refused for its number when it meets 7"
pub data RefusedNumber : Order → ℕ → Type 0 where
  seven : {d e v : ℕ} → RefusedNumber (Deal d e v) 7

-- "A number is decomposed, converted or shifted when such an order is accepted on it": the register that holds it
pub data Lifts : Order → ℕ → Type 0 where
  decomposed : {d x l : ℕ} → Lifts (Decompose d x l) x
  converted : {d x f : ℕ} → Lifts (Convert d x f) x
  shifted : {d x s : ℕ} → Lifts (Shift d x s) x

-- 4a is below p, "a is its register's value just before"
abbrev pub Small : (a p : ℕ) → Type 0
Small a p = 4 * a < p

abbrev pub TakesSmall : Order → Machine → Type 0
TakesSmall o m = (x : ℕ) → Lifts o x → Small (value_of (register_at m x)) (modulus (width_at (kind_at (public_of m) x)))

-- an order as each party has it: the number of a deal, which is not public, put to 0
abbrev pub without_number : Order → Order
without_number (Deal d e v) = Deal d e 0
without_number (Add d x y) = Add d x y
without_number (Scale d x c) = Scale d x c
without_number (Multiply d x y) = Multiply d x y
without_number (Decompose d x l) = Decompose d x l
without_number (Convert d x f) = Convert d x f
without_number (Shift d x s) = Shift d x s
without_number (Compose d x f) = Compose d x f
without_number (Open x) = Open x

-- the sub-shares of every register at a place
abbrev pub column : Machine → Place → List ℕ
column m i = map (λ (r : Register). parts (shares_of r) i) m.slots

-- "each register's kind, ring or bit count and U's two sub-shares of it; the three positions": kinds and positions are what is public
pub record Seen : Type 0 where
  pub public : Public
  pub own : List ℕ
  pub far : List ℕ

abbrev pub seen : Public → (own far : List ℕ) → Seen
seen public own far = record { public = public; own = own; far = far }

abbrev pub seen_by : Place → Machine → Seen
seen_by U m = seen (public_of m) (column m U) (column m (next U))

-- the nine orders as a protocol
abbrev pub orders : Protocol {0}
orders =
    record {
      -- "A job is a list of orders of the nine kinds"
      Act = Order;
      -- "Its first order gets the empty machine .., each later one the record .. the one before returned"
      State = Machine;
      start = empty_machine;
      step = λ o m T c. returned (step o m T c);
      -- fair: no deal refused for its number (nor an order for a tape item), and 4a below p where an order is accepted
      NumberRefused = λ o m refusal. RefusedNumber o refusal;
      Small = TakesSmall;
      -- "What a run opens is the values answered by its accepted openings"
      opening = λ o m. is_opening o;
      -- "alike in all but the numbers dealt"
      Alike = λ o o'. without_number o ≡ without_number o';
      -- what is equal in a run and its image beside channels and answers
      Seen = Seen;
      seen = seen_by;
    }

-- demand 3: two jobs of orders that differ in the numbers dealt alone, which open the same, look the same to any single party
abbrev pub OrdersSecret : Type 0
OrdersSecret = Secrecy orders
