-- When a call is malformed, and what it leaves otherwise.
use Rattle.std.specs.Prelude.{Some, None, Option, Result}
use Prim.Native.Nat.{ℕ}
use mathlib.Core.Bool.{Bool, cond, false, true}
use mathlib.Core.List.{List, [], ◌∷◌}
use mathlib.Core.Path.{◌≡◌, ap, ap₂, refl, ◌∙◌}
use native.Mathlib.Omega.{arith}
use borrow.Author.Tests.{eq-eqb, ne_eqb}
use lib.ListN.{length}
use Rattle.gate.specs.Places.{Place}
use Rattle.machine.specs.Checks.{Tapes}
use Rattle.machine.specs.Step.{Outcome, step}
use Rattle.machine.specs.Registers.{sound}
use Rattle.machine.specs.declared.answers.Done.{Done}
use Rattle.machine.specs.declared.answers.Refusal.{Refusal}
use Rattle.machine.specs.declared.orders.Order.{Order}
use Rattle.machine.specs.declared.registers.Machine.{Machine}
use Rattle.layout.specs.Layout.{answer_words, machine_of, order_of, seen_of}
use Rattle.order.specs.Answers.{refusal_of}
use Rattle.step.specs.Words.{Reports}
use Rattle.tape.specs.Tapes.{count_of, outcome, prepared}
use Rattle.tape.specs.Tapes as tapes
use Rattle.tape.specs.declared.tapes.Refused.{Refused}
use Rattle.batch.specs.Batch as batches
use Rattle.batch.specs.Calls.{answered}
use Rattle.interface.specs.Calls.{Left, batch_words, decomposed, decomposed_by, left, left_by, malformed, prepare_words, step_read, step_words, tape, tape_by}

cond_same : {A : Type 0} (b : Bool) (u : A) → cond b u u ≡ u
cond_same true u = refl
cond_same false u = refl

no_machine : (r : Option Order) (T : Tapes) (c : Place → List ℕ) (u : Left) → step_read r None T c u ≡ u
no_machine (Some o) T c u = refl
no_machine None T c u = refl

-- an answer of another length than 3
pub answer-length : (o m a : List ℕ) (T : Tapes) (c : Place → List ℕ) → (length a ≡ 3 → ⊥) → left malformed m a c ≡ step_words o m a T c
unfolding step_words
answer-length o m a T c h = rw (ne_eqb (length a) 3 h)

pub order_unread : (o m a : List ℕ) (T : Tapes) (c : Place → List ℕ) → order_of o ≡ None → left malformed m a c ≡ step_words o m a T c
unfolding step_words
order_unread o m a T c e = rw (e, cond_same)

pub record_unread : (o m a : List ℕ) (T : Tapes) (c : Place → List ℕ) → machine_of m ≡ None → left malformed m a c ≡ step_words o m a T c
unfolding step_words
record_unread o m a T c e = rw (e, no_machine, cond_same)

pub step-read : (o m a : List ℕ) (T : Tapes) (c : Place → List ℕ) {k : Order} {s : Machine}
    → length a ≡ 3 → order_of o ≡ Some k → machine_of m ≡ Some s → left_by (step k s T c) ≡ step_words o m a T c
unfolding step_words
step-read o m a T c n e f = rw (eq-eqb (length a) 3 n, e, f)

-- what was seen of a record
pub unseen : (f : Option Machine) {r : Option Bool} → r ≡ seen_of f → r ≡ None → f ≡ None
unseen None e t = refl
unseen (Some m) e t = cc (e, t)

pub seen : (f : Option Machine) {r : Option Bool} {b : Bool} → r ≡ seen_of f → r ≡ Some b → (m : Machine) × (f ≡ Some m) × (b ≡ sound m)
seen (Some m) e t = (m, refl, cc (e, t))
seen None e t = let wrong : ◌≡◌ {A = ℕ} 0 1 = cc (e, t) in absurd (omega arith)

-- what an order leaves in words
pub step_left : {n : ℕ} {ws words : List ℕ} {a : Result Done Refusal} {c : Place → List ℕ} {x : Outcome}
    → Reports ws a c x → n ≡ refusal_of a → words ≡ answer_words a → left n ws words c ≡ left_by x
step_left {ws} {words} {c = c} {x = x} told en ea = rw (en, ea, told.words.words) (ap left_by told.is)

pub tape-refused : (code : ℕ) (raw run a : List ℕ) → (length a ≡ 2 → ⊥) → tape malformed run a ≡ prepare_words code raw run a
unfolding prepare_words
tape-refused code raw run a h = rw (ne_eqb (length a) 2 h)

pub tape-written : (code : ℕ) (raw run a : List ℕ) {n k : ℕ} {filled : List ℕ} (p : Result ℕ Refused)
    → length a ≡ 2 → outcome p filled ≡ prepared code raw run → n ≡ tapes.refusal_of p → k ≡ count_of p
    → tape n filled (n ∷ k ∷ []) ≡ prepare_words code raw run a
unfolding prepare_words
tape-written code raw run a p h e en ek = rw (eq-eqb (length a) 2 h, en, ek) (ap tape_by e)

-- a batch: an answer of another length than 3, and what is left otherwise
module _ (e l : ℕ) (x T c z : Place → List ℕ) (a : List ℕ) where
  pub batch-refused : (length a ≡ 3 → ⊥) → decomposed malformed c z a ≡ batch_words e l x T c z a
  unfolding batch_words
  batch-refused h = rw (ne_eqb (length a) 3 h)

  pub batch-left : (given : Result Done Refusal) {n : ℕ} {c' z' : Place → List ℕ} {a' : List ℕ} → length a ≡ 3
      → answered given c' z' ≡ batches.batch e l x T c z → n ≡ refusal_of given → a' ≡ answer_words given
      → decomposed n c' z' a' ≡ batch_words e l x T c z a
  unfolding batch_words
  batch-left given {c' = c'} {z' = z'} long is number words =
      ap₂ (λ (k : ℕ) (w : List ℕ). decomposed k c' z' w) number words ∙ ap decomposed_by is ∙ rw (eq-eqb (length a) 3 long)
