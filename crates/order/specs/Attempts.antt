-- Orders 2 to 8 in two parts: what the record alone decides, and what lengths, items and gates do.
-- Used by the code's contracts alone: no theorem's statement speaks of it.
use Rattle.std.specs.Prelude.{ℕ, Bool, cond, not, List, [], ◌∷◌, ◌++◌, ◌≡◌, eqb, drop, length, Result, Ok, Err}
use Rattle.gate.specs.Places.{Place, parts, sharing, tabled}
use Rattle.circuit.specs.Circuits.{channelled, gates_of, moduli, result}
use Rattle.machine.specs.Checks.{Check, Lengths, any_above15, any_bad, check, first_met, gate_checks, is_empty, is_number, kind_checks, named}
use Rattle.machine.specs.Registers.{Kind, public_of, register_of, sound}
use Rattle.machine.specs.Step.{Outcome, refused, step, stored, written}
use Rattle.machine.specs.declared.orders.Order.{Order}
use Rattle.machine.specs.declared.registers.Machine.{Machine}
use Rattle.machine.specs.declared.answers.Refusal.{Refusal}
use Rattle.machine.specs.Answers.{number_of}
use Rattle.order.specs.Tasks.{Ready, circuit_of, kind_left, other_of, source_of}
use Rattle.order.specs.declared.tasks.Prepared.{Prepared}
use Rattle.order.specs.declared.tasks.Prepared.TheVariants.{Gates, Local}
use Rattle.order.specs.declared.tasks.Task.{Task}

-- "Every order: 1 record not sound; 2 a register number above 15"
abbrev pub begin_checks : Bool → List ℕ → List Check
begin_checks sure names = check (not sure) 1 ∷ check (any_above15 names) 2 ∷ []

-- and the checks of kinds, rings and the order's own numbers
unfoldable pub record_refusal : Order → Machine → ℕ
record_refusal o m = first_met (begin_checks (sound m) (named o) ++ kind_checks o (public_of m))

-- "Compose: 3 a source empty; 4 a source is a number"
abbrev pub some_bits : Kind → List Check
some_bits x = check (is_empty x) 3 ∷ check (is_number x) 4 ∷ []

-- lengths of mask tapes and channels; the dealer's tape takes no part
abbrev pub lengths_in : (masks channels : Place → ℕ) → Lengths
lengths_in masks channels = record { masks = masks; dealer = 0; channels = channels }

abbrev pub lengths_of : (T c : Place → List ℕ) → Lengths
lengths_of T c = lengths_in (tabled (λ i. length (T i))) (tabled (λ i. length (c i)))

-- what is left of the mask tapes
abbrev pub masks_left : Machine → (Place → List ℕ) → Place → List ℕ
masks_left m T = tabled (λ i. drop m.masks_at (T i))

-- the gates of a task
unfoldable pub ran : Task → ℕ → Machine → (Place → List ℕ) → (Place → List ℕ) → Outcome
ran t d m left c =
    let C = circuit_of t in
    let X = parts (source_of t) in
    let Y = parts (other_of t) in
    stored d (register_of (kind_left t) (sharing (result C X Y left))) (gates_of C) 0 m
    (tabled (λ i. written m.channels_at (channelled C X Y left i) (c i)))

-- with the check of its items
unfoldable pub tried : Task → ℕ → Machine → (Place → List ℕ) → (Place → List ℕ) → Outcome
tried t d m T c =
    cond (any_bad (moduli (circuit_of t).gates) (masks_left m T)) (refused 10 m c) (ran t d m (masks_left m T) c)

-- and with the checks of lengths
abbrev pub length_verdict : Task → Machine → (Place → List ℕ) → (Place → List ℕ) → ℕ
length_verdict t m T c = first_met (gate_checks (gates_of (circuit_of t)) (public_of m) (lengths_of T c))

unfoldable pub attempted : Result Prepared Refusal → ℕ → Machine → (Place → List ℕ) → (Place → List ℕ) → Outcome
attempted (Err w) d m T c = refused (number_of w) m c
attempted (Ok (Local r)) d m T c = stored d r 0 0 m c
attempted (Ok (Gates t)) d m T c =
    cond (eqb (length_verdict t m T c) 0) (tried t d m T c) (refused (length_verdict t m T c) m c)

-- attempting t is the order o, whatever tapes and channels there are
pub record Prepares (o : Order) (m : Machine) (d : ℕ) (t : Result Prepared Refusal) : Type 0 where
  pub is : (D : List ℕ) (T c : Place → List ℕ) → step o m (record { masks = T; dealer = D }) c ≡ attempted t d m T c
  pub ready : Ready m d t
