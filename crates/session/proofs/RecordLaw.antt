-- The record in words: what they say, and that it stays sound.
use Prim.Native.Nat.{ℕ}
use mathlib.Core.Bool.{true}
use mathlib.Core.List.{List}
use mathlib.Core.Path.{◌≡◌, ap, refl, sym, ◌∙◌}
use borrow.Author.Tests.{eqb-false, eqb-true}
use lib.Dec.{eqb}
use Rattle.gate.specs.Places.{Place}
use Rattle.machine.specs.Checks.{Tapes}
use Rattle.machine.specs.Registers.{empty_machine, sound, sound_register, sound_slots}
use Rattle.machine.specs.Step.{Outcome, step}
use Rattle.machine.specs.declared.orders.Order.{Order}
use Rattle.machine.specs.declared.registers.Machine.{Machine}
use Rattle.outcome.proofs.Theorems.{keeps_sound, unchanged}
use Rattle.layout.specs.Layout.{Says}
use Rattle.layout.proofs.Theorems.{empty_is_zeros, machine_back}
use Rattle.line.proofs.FieldLaw.{split}
use Rattle.session.specs.Records.{RecordFits, empty_words, machine_in}

-- the record that words say is found there, and is found sound
pub machine_in_lem : (ws : List ℕ) (m : Machine) → Says ws m → machine_in ws ≡ m
unfolding machine_in
machine_in_lem ws m says = rw (says.words, machine_back m says.registers) refl

pub record_fits : (ws : List ℕ) (m : Machine) → Says ws m → sound m ≡ true → RecordFits ws
record_fits ws m says is = record { says = rw (machine_in_lem ws m says) says; sound = rw (machine_in_lem ws m says) is }

-- an order leaves a sound record sound, refused or not
pub stays_sound : (o : Order) (m : Machine) (T : Tapes) (c : Place → List ℕ) → sound m ≡ true → sound (step o m T c).machine ≡ true
stays_sound o m T c is =
    split (eqb (step o m T c).refusal 0)
    (λ e. keeps_sound o m T c (eqb-true _ 0 e))
    (λ e. ap (λ (x : Outcome). sound x.machine) (unchanged o m T c (eqb-false _ 0 e)) ∙ is)

-- before the first line
empty_said : Says empty_words empty_machine
unfolding empty_machine
empty_said = record { words = sym empty_is_zeros; registers = refl }

pub empty_in : machine_in empty_words ≡ empty_machine
empty_in = machine_in_lem empty_words empty_machine empty_said

pub empty_fits : RecordFits empty_words
unfolding empty_machine sound sound_register sound_slots
empty_fits = record_fits empty_words empty_machine empty_said refl
