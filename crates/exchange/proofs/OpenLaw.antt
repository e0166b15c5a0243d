-- Order 9: its checks as the code makes them, its words and its step.
use Rattle.std.specs.Prelude.{Ok, Err}
use Prim.Native.Nat.{ℕ, ◌+◌, ◌-◌, ◌<◌, ◌≤◌}
use mathlib.Core.Bool.{Bool, false, not, true}
use mathlib.Core.List.{List, [], ◌∷◌, ◌++◌}
use mathlib.Core.Path.{◌≡◌, refl, ap, fun_ext, sym, ◌∙◌}
use native.Mathlib.Nat.{add-zero}
use native.Mathlib.Numerals.{add-one}
use native.Mathlib.Omega.{arith}
use borrow.Author.Tests.{eqb-true, le-ltb, lt-ltb, ltb-false, not-false}
use borrow.Rule.Slice.PartMut.{mid_of, put_mid, set_mid_at}
use lib.Dec.{eqb, ltb}
use lib.ListN.{drop, length, length-drop, set, take}
use lib.Seq.{set_split}
use Rattle.gate.specs.Places.{Place, Sent, next, parts, tabled, three}
use Rattle.gate.specs.declared.sharing.Sharing.{Sharing}
use Rattle.gate.proofs.PlaceLaw.{each}
use Rattle.circuit.proofs.LentLaw.{part_is}
use Rattle.machine.specs.Checks.{Tapes, first_met, is_empty, public_checks, uneven}
use Rattle.machine.specs.Registers.{kind_of, register_at, shares_of, sound, sound_register}
use Rattle.machine.specs.Step.{checks, opened, step, value_of, written}
use Rattle.machine.specs.Answers.{number_of}
use Rattle.machine.specs.declared.answers.Refusal.{Refusal}
use Rattle.machine.specs.declared.orders.Order.TheVariants.{Open}
use Rattle.machine.specs.declared.registers.Machine.{Machine}
use Rattle.machine.specs.declared.registers.Register.{Register}
use Rattle.order.specs.Sources.{sources_in}
use Rattle.order.specs.declared.sources.Sources.{Sources}
use Rattle.order.specs.Changes.{Changes, applied}
use Rattle.order.specs.declared.changes.Change.TheVariants as change
use Rattle.order.proofs.CheckLaw.{all_passed, met, passed, unmet, unmet_rest}
use Rattle.order.proofs.PrepareLaw.{kind_of_lem}
use Rattle.machine.proofs.KindLaw.{one_false, other_false}
use Rattle.order.proofs.SoundLaw.{register_sound}
use Rattle.exchange.specs.Exchanges.{channel_checks, open_checks}
use Rattle.exchange.proofs.CheckLaw.{good, others, step-performed, step-refused, there}

-- room for a word at a position, one check after another
module _ (l₀ l₁ l₂ at : ℕ) where
  pub lengths_bad : uneven (three l₀ l₁ l₂) ≡ true → 8 ≡ first_met (channel_checks (three l₀ l₁ l₂) at)
  lengths_bad h = met 8 _ h

  module _ (even : uneven (three l₀ l₁ l₂) ≡ false) where
    pub channel_short : l₀ ≤ at → 11 ≡ first_met (channel_checks (three l₀ l₁ l₂) at)
    channel_short h = passed 8 _ even (met 11 [] (lt-ltb l₀ (at + 1) (omega arith)))

    pub channel_fits : at < l₀ → 0 ≡ first_met (channel_checks (three l₀ l₁ l₂) at)
    channel_fits h = passed 8 _ even (all_passed 11 (le-ltb l₀ (at + 1) (omega arith)))

-- what an accepted opening has passed
module _ (s : Bool) (x : ℕ) (a : Register) (at l₀ l₁ l₂ : ℕ) (fine : 0 ≡ first_met (open_checks s x a at (three l₀ l₁ l₂))) where
  pub open_sound : (m : Machine) → s ≡ sound m → a ≡ register_at m x → sound_register a ≡ true
  open_sound m sure at = ap sound_register at ∙ register_sound m (sym sure ∙ good s x _ (sym fine)) x

  pub open_room : (at < l₀) × ((at < l₁) × (at < l₂))
  open_room =
      let wires = unmet_rest (is_empty (kind_of a)) 3 _ refl (others s x _ (sym fine)) in
      let even = unmet (uneven (three l₀ l₁ l₂)) 8 _ refl wires in
      let room = ltb-false l₀ (at + 1) (unmet (ltb l₀ (at + 1)) 11 [] refl (unmet_rest (uneven (three l₀ l₁ l₂)) 8 _ refl wires)) in
      let first = eqb-true l₀ l₁ (not-false _ (one_false (not (eqb l₀ l₁)) _ even)) in
      let second = eqb-true l₁ l₂ (not-false _ (one_false (not (eqb l₁ l₂)) _ (other_false (not (eqb l₀ l₁)) _ even))) in
      (omega arith, (omega arith, omega arith))

-- one word, through the part from a position on
one_written : (at : ℕ) (l : List ℕ) (w : ℕ) {ys : List ℕ} → at < length l → ys ≡ set (mid_of at (length l - at) l) 0 w
    → put_mid at (length l - at) l ys ≡ written at (w ∷ []) l
one_written at l w h e =
    let room : 0 < length (mid_of at (length l - at) l) = rw (part_is at l, length-drop at l) (omega arith) in
    ap (put_mid at (length l - at) l) e
    ∙ set_mid_at at (length l - at) 0 l w room
    ∙ ap (λ (n : ℕ). set l n w) (add-zero at)
    ∙ set_split l at w h
    ∙ ap (λ (n : ℕ). take at l ++ (w ∷ drop n l)) (sym (add-one at))

pub all-written : (a : Sharing) (at : ℕ) (c₀ c₁ c₂ : List ℕ) {d₀ d₁ d₂ : List ℕ}
    → (at < length c₀) × ((at < length c₁) × (at < length c₂))
    → Sent (record { s0 = a.s1; s1 = a.s2; s2 = a.s0 }) (mid_of at (length c₀ - at) c₀) (mid_of at (length c₁ - at) c₁) (mid_of at (length c₂ - at) c₂) d₀ d₁ d₂
    → three (put_mid at (length c₀ - at) c₀ d₀) (put_mid at (length c₁ - at) c₁ d₁) (put_mid at (length c₂ - at) c₂ d₂)
    ≡ tabled (λ i. written at (parts a (next i) ∷ []) (three c₀ c₁ c₂ i))
all-written a at c₀ c₁ c₂ {d₀} {d₁} {d₂} room e =
    fun_ext (each
    (λ i. three (put_mid at (length c₀ - at) c₀ d₀) (put_mid at (length c₁ - at) c₁ d₁) (put_mid at (length c₂ - at) c₂ d₂) i
    ≡ tabled (λ j. written at (parts a (next j) ∷ []) (three c₀ c₁ c₂ j)) i)
    (one_written at c₀ a.s1 room.0 e.zero)
    (one_written at c₁ a.s2 room.1.0 e.one)
    (one_written at c₂ a.s0 room.1.1 e.two))

-- the step
module _ (m : Machine) (x : ℕ) (T : Tapes) (c : Place → List ℕ) {s : Sources} {at : ℕ} (of : s ≡ sources_in m (Open x)) (place : at ≡ m.channels_at) where
  checks_are : {u : ℕ} → u ≡ first_met (open_checks s.sound x s.a at (tabled (λ i. length (c i)))) → u ≡ first_met (checks (Open x) m T c)
  unfolding checks public_checks first_met
  checks_are h = rw (place, of, kind_of_lem m x refl) at h

  pub open_refused : (w : Refusal) → number_of w ≡ first_met (open_checks s.sound x s.a at (tabled (λ i. length (c i))))
      → Changes m (Err w) c (step (Open x) m T c)
  open_refused w h = step-refused (Open x) m T c w (checks_are h)

  pub open_done : {z : Sharing} {v : ℕ} {d : Place → List ℕ} → 0 ≡ first_met (open_checks s.sound x s.a at (tabled (λ i. length (c i))))
      → v ≡ value_of s.a → z ≡ shares_of s.a → d ≡ tabled (λ i. written at (parts z (next i) ∷ []) (c i))
      → Changes m (Ok (change.Opened v)) d (step (Open x) m T c)
  unfolding opened
  open_done {z} {v} {d} fine value shares words =
      let is : applied (Ok (change.Opened v)) m d ≡ opened x m c = rw (words, shares, value, place, of) in
      let seat = there s.sound x _ (sym fine) m (ap (λ (s : Sources). s.sound) of) in
      record {
        fits = (seat.masks, seat.channels, seat.dealer);
        is = is ∙ step-performed (Open x) m T c (checks_are fine);
      }
