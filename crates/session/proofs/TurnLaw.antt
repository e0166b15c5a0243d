-- What a tape line leaves, where it is taken and where 512 were taken before; and what an order leaves.
use Prim.Native.Nat.{ℕ, ◌≤◌, ◌<◌}
use mathlib.Core.List.{List, [], ◌∷◌, ◌++◌}
use mathlib.Core.Path.{◌≡◌, ap, ap₂, refl, ◌∙◌}
use borrow.Author.Tests.{le-ltb, lt-ltb}
use lib.ListN.{length}
use Rattle.std.specs.Prelude.{None, Result}
use Rattle.gate.specs.Places.{Place, p0}
use Rattle.machine.specs.Checks.{Tapes}
use Rattle.machine.specs.Step as defined
use Rattle.machine.specs.Step.{step}
use Rattle.machine.specs.declared.orders.Order.{Order}
use Rattle.machine.specs.declared.answers.Done.{Done}
use Rattle.machine.specs.declared.answers.Refusal.{Refusal}
use Rattle.machine.specs.declared.registers.Machine.{Machine}
use Rattle.order.specs.Answers.{refusal_of, value_of}
use Rattle.step.specs.Words.{Reports}
use Rattle.session.specs.Outputs.{State, declined, item_taken, masks_taken, most, ordered, says, state, tapes, turned}
use Rattle.session.specs.Records.{RecordFits, machine_in}
use Rattle.session.proofs.RecordLaw.{machine_in_lem, record_fits, stays_sound}

-- where 512 were taken
pub masks_over : (s : State) (i₀ i₁ i₂ : ℕ) → most ≤ length (s.tapes.masks p0) → masks_taken s i₀ i₁ i₂ ≡ declined s
unfolding masks_taken
masks_over s i₀ i₁ i₂ full = rw le-ltb refl

pub item_over : (s : State) (i : ℕ) → most ≤ length s.tapes.dealer → item_taken s i ≡ declined s
unfolding item_taken
item_over s i full = rw le-ltb refl

module _ (m : Machine) (c : Place → List ℕ) (t₀ t₁ t₂ dealer : List ℕ) where
  abbrev before : State
  before = state m (tapes t₀ t₁ t₂ dealer) c

  -- one line more
  pub masks_added : (i₀ i₁ i₂ : ℕ) → length t₀ < most
      → turned (state m (tapes (t₀ ++ (i₀ ∷ [])) (t₁ ++ (i₁ ∷ [])) (t₂ ++ (i₂ ∷ [])) dealer) c) None ≡ masks_taken before i₀ i₁ i₂
  unfolding masks_taken
  masks_added i₀ i₁ i₂ h = rw (lt-ltb (length t₀) most h) refl

  pub item_added : (i : ℕ) → length dealer < most
      → turned (state m (tapes t₀ t₁ t₂ (dealer ++ (i ∷ []))) c) None ≡ item_taken before i
  unfolding item_taken
  item_added i h = rw (lt-ltb (length dealer) most h) refl

-- an order's outcome, with the numbers of its answer
module _ (o : Order) (ws : List ℕ) (T : Tapes) (c : Place → List ℕ) (vs : List ℕ) (a : Result Done Refusal) (d : Place → List ℕ) where
  pub order-taken : {m : Machine} {U : Tapes} {r v : ℕ} → Reports vs a d (step o (machine_in ws) T c) → machine_in ws ≡ m → T ≡ U
      → r ≡ refusal_of a → v ≡ value_of a → turned (state (machine_in vs) U d) (says r v) ≡ ordered (state m U c) o
  unfolding ordered
  order-taken {U = U} told same lent refusal value =
      let x = step o (machine_in ws) T c in
      rw (← same, ← lent, machine_in_lem vs x.machine told.words)
      (ap₂ (λ (r v : ℕ). turned (state x.machine T d) (says r v)) refusal value
      ∙ ap (λ (x : defined.Outcome). turned (state x.machine T x.channels) (says x.refusal x.value)) told.is)

  -- and the record's words fit again
  pub order-fits : Reports vs a d (step o (machine_in ws) T c) → RecordFits ws → RecordFits vs
  order-fits told fits = record_fits vs _ told.words (stays_sound o (machine_in ws) T c fits.sound)
