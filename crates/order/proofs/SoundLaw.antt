-- What checks 1 and 2 leave: a sound record, its registers in range, a destination that is there.
use Prim.Native.Nat.{ℕ, ◌≤◌}
use mathlib.Core.Bool.{false, true, ◌&&◌}
use mathlib.Core.List.{List, ◌∷◌}
use mathlib.Core.Path.{◌≡◌, sym}
use native.Mathlib.Omega.{arith}
use borrow.Author.Tests.{leb-true, ltb-false}
use lib.Dec.{leb, ltb}
use Rattle.ring.specs.Rings.{modulus_of}
use Rattle.ring.specs.declared.rings.Ring.{Ring}
use Rattle.gate.specs.Places.{InRange}
use Rattle.gate.specs.declared.sharing.Sharing.{Sharing}
use Rattle.machine.specs.Checks.{any_above15}
use Rattle.machine.specs.Registers.{million, register_at, sound, sound_register, sound_slots}
use Rattle.machine.specs.declared.registers.Machine.{Machine}
use Rattle.machine.specs.declared.registers.Register.TheVariants.{Bits, Number}
use Rattle.machine.proofs.KindLaw.{bits_below, left_true, number_below, one_false, right_true}
use Rattle.machine.proofs.SlotLaw.{slot-sound}
use Rattle.order.specs.Tasks.{Seated}

module _ (m : Machine) (good : sound m ≡ true) where
  pub register_sound : (x : ℕ) → sound_register (register_at m x) ≡ true
  unfolding sound register_at
  register_sound x = slot-sound m.slots x (left_true (sound_slots m.slots) _ good)

  pub seated : (d : ℕ) (names : List ℕ) → any_above15 (d ∷ names) ≡ false → Seated m d
  unfolding sound any_above15
  seated d names h =
      let a = leb m.masks_at million in
      let b = leb m.channels_at million in
      let c = leb m.dealer_at million in
      let rest = right_true (sound_slots m.slots) (a && (b && c)) good in
      let last = right_true a (b && c) rest in
      record {
        register = let k = ltb-false 15 d (one_false (ltb 15 d) _ h) in omega arith;
        masks = leb-true _ million (left_true a (b && c) rest);
        channels = leb-true _ million (left_true b c last);
        dealer = leb-true _ million (right_true b c last);
      }

  -- the sub-shares of a number are in range, and bits are few
  pub number_in : (x : ℕ) {r : Ring} {z : Sharing} → Number r z ≡ register_at m x → InRange (modulus_of r) z
  number_in x {r} {z} at = number_below (register_at m x) (register_sound x) r z (sym at)

  pub few_bits : (x : ℕ) {l : ℕ} {z : Sharing} → Bits l z ≡ register_at m x → l ≤ 59
  few_bits x {l} {z} at = (bits_below (register_at m x) (register_sound x) l z (sym at)).1
