-- Registers by their slots: what is public of one, and whether they are sound, one at a time.
use Prim.Native.Nat.{ℕ, zero, suc, ◌+◌, ◌<◌, ◌≤◌}
use mathlib.Core.Bool.{Bool, false, true, ◌&&◌}
use mathlib.Core.List.{List, [], ◌∷◌}
use mathlib.Core.Path.{◌≡◌, refl, sym, ap, ◌∙◌}
use native.Mathlib.Numerals.{add-one}
use lib.ListN.{get_or-map, drop, drop_of_length-le, get_or, length}
use lib.Seq.{drop-cons}
use Rattle.machine.specs.Registers.{kind_at, kind_of, public_of, register_at, sound_register, sound_slots}
use Rattle.machine.specs.declared.registers.Machine.{Machine}
use Rattle.machine.specs.declared.registers.Register.{Register}
use Rattle.machine.specs.declared.registers.Register.TheVariants.{Empty}
use Rattle.machine.proofs.KindLaw.{left_true, right_true}

-- what is public of a register is its own
pub kind-at : (m : Machine) (k : ℕ) → kind_at (public_of m) k ≡ kind_of (register_at m k)
unfolding register_at
kind-at m k = get_or-map kind_of m.slots k Empty

-- each of sound registers is sound
pub slot-sound : (l : List Register) (k : ℕ) → sound_slots l ≡ true → sound_register (get_or l k Empty) ≡ true
unfolding sound_slots sound_register
slot-sound [] k h = refl
slot-sound (s ∷ l) zero h = left_true (sound_register s) (sound_slots l) h
slot-sound (s ∷ l) (suc k) h = slot-sound l k (right_true (sound_register s) (sound_slots l) h)

-- the registers from i on
module _ (l : List Register) (i : ℕ) where
  sound-at : i < length l → sound_slots (drop i l) ≡ sound_register (get_or l i Empty) && sound_slots (drop (i + 1) l)
  unfolding sound_slots
  sound-at h = rw (add-one i, drop-cons l i Empty h)

  pub sound_past : {b : Bool} → i < length l → b ≡ sound_register (get_or l i Empty) → b ≡ true
      → sound_slots l ≡ sound_slots (drop i l) → sound_slots l ≡ sound_slots (drop (i + 1) l)
  sound_past h is good from = from ∙ sound-at h ∙ ap (λ (b : Bool). b && sound_slots (drop (i + 1) l)) (sym is ∙ good)

  pub unsound_at : {b : Bool} → i < length l → b ≡ sound_register (get_or l i Empty) → b ≡ false
      → sound_slots l ≡ sound_slots (drop i l) → false ≡ sound_slots l
  unsound_at h is bad from = sym (from ∙ sound-at h ∙ ap (λ (b : Bool). b && sound_slots (drop (i + 1) l)) (sym is ∙ bad))

  pub sound_end : length l ≤ i → sound_slots l ≡ sound_slots (drop i l) → true ≡ sound_slots l
  unfolding sound_slots
  sound_end h from = sym (from ∙ ap sound_slots (drop_of_length-le l {i = i} h))
