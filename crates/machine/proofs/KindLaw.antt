-- Tests joined, and what soundness says of a register's sub-shares.
use Prim.Native.Nat.{ℕ, ◌+◌, ◌%◌, ◌≤◌, ◌^◌}
use mathlib.Core.Bool.{Bool, false, true, ◌&&◌, ◌||◌}
use mathlib.Core.Path.{◌≡◌, refl}
use borrow.Author.Tests.{leb-true}
use lib.Dec.{leb}
use Rattle.ring.specs.Rings.{modulus_of}
use Rattle.ring.specs.declared.rings.Ring.{Ring}
use Rattle.gate.specs.Places.{InRange, shares_below, total}
use Rattle.gate.specs.declared.sharing.Sharing.{Sharing}
use Rattle.gate.proofs.PlaceLaw.{in_range}
use Rattle.machine.specs.Registers.{sound_register}
use Rattle.machine.specs.Step.{value_of}
use Rattle.machine.specs.declared.registers.Register.{Register}
use Rattle.machine.specs.declared.registers.Register.TheVariants.{Bits, Number}

pub left_true : (a b : Bool) → a && b ≡ true → a ≡ true
left_true true b h = refl
left_true false b h = h

pub right_true : (a b : Bool) → a && b ≡ true → b ≡ true
right_true true b h = h
right_true false b h = cc

pub one_false : (a b : Bool) → a || b ≡ false → a ≡ false
one_false true b h = h
one_false false b h = refl

pub other_false : (a b : Bool) → a || b ≡ false → b ≡ false
other_false true b h = cc
other_false false b h = h

-- a check of two tests that is not met
pub neither : (a b : Bool) → a || b ≡ false → (a ≡ false) × (b ≡ false)
neither a b h = (one_false a b h, other_false a b h)

module _ (a : Register) (sound : sound_register a ≡ true) where
  pub number_below : (r : Ring) (x : Sharing) → a ≡ Number r x → InRange (modulus_of r) x
  unfolding sound_register
  number_below r x e = in_range (rw e at sound)

  pub bits_below : (l : ℕ) (x : Sharing) → a ≡ Bits l x → (1 ≤ l) × (l ≤ 59) × InRange (2 ^ l) x
  unfolding sound_register
  bits_below l x e =
      let h = rw e at sound in
      let rest = right_true (leb 1 l) (leb l 59 && shares_below (2 ^ l) x) h in (
        leb-true 1 l (left_true (leb 1 l) (leb l 59 && shares_below (2 ^ l) x) h),
        leb-true l 59 (left_true (leb l 59) (shares_below (2 ^ l) x) rest),
        in_range (right_true (leb l 59) (shares_below (2 ^ l) x) rest),
      )

-- the total of a number
pub number_value : {a : Register} (r : Ring) (x : Sharing) {v : ℕ} → a ≡ Number r x → v ≡ (x.s0 + x.s1 + x.s2) % modulus_of r → v ≡ value_of a
unfolding total
number_value r x e is = rw (e, is)
