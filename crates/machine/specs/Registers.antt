-- 01, "Rings, parts and units": registers, the machine record and its soundness.
use Rattle.std.specs.Prelude.{ℕ, ◌^◌, Bool, true, ◌&&◌, List, [], ◌∷◌, map, leb, get_or, replicate, set}
use Rattle.ring.specs.Rings.{modulus_of, width_of}
use Rattle.ring.specs.declared.rings.Ring.{Ring}
use Rattle.ring.specs.declared.rings.Ring.TheVariants.{R13}
use Rattle.gate.specs.Places.{shares_below}
use Rattle.gate.specs.declared.sharing.Sharing.{Sharing}
use Rattle.circuit.specs.Sharings.{zeros}
use Rattle.machine.specs.declared.registers.Machine.{Machine}
use Rattle.machine.specs.declared.registers.Register.{Register}
use Rattle.machine.specs.declared.registers.Register.TheVariants.{Bits, Empty, Number}

-- what is public of a register: "A register is empty, a number of a ring, or bits"
pub data Kind : Type 0 where
  empty : Kind
  number : Ring → Kind
  bits : ℕ → Kind

abbrev pub kind_of : Register → Kind
kind_of Empty = empty
kind_of (Number r x) = number r
kind_of (Bits l x) = bits l

-- its sub-shares; an empty one has none
abbrev pub shares_of : Register → Sharing
shares_of Empty = zeros
shares_of (Number r x) = x
shares_of (Bits l x) = x

abbrev pub register_of : Kind → Sharing → Register
register_of empty x = Empty
register_of (number r) x = Number r x
register_of (bits l) x = Bits l x

-- the ring of a number, R13 where there is none
abbrev pub ring_at : Kind → Ring
ring_at empty = R13
ring_at (number r) = r
ring_at (bits l) = R13

-- e of a number
abbrev pub width_at : Kind → ℕ
width_at empty = 0
width_at (number r) = width_of r
width_at (bits l) = 0

-- l of bits
abbrev pub count_at : Kind → ℕ
count_at empty = 0
count_at (number r) = 0
count_at (bits l) = l

-- register k, and the record with another register there
unfoldable pub register_at : Machine → ℕ → Register
register_at m k = get_or m.slots k Empty

unfoldable pub with_register : Machine → ℕ → Register → Machine
with_register m d r =
    record {
      slots = set m.slots d r;
      masks_at = m.masks_at;
      channels_at = m.channels_at;
      dealer_at = m.dealer_at;
    }

-- "The empty machine has empty registers and zero positions"
unfoldable pub empty_machine : Machine
empty_machine =
    record { slots = replicate 16 Empty; masks_at = 0; channels_at = 0; dealer_at = 0 }

-- "each sub-share is in range, each bits register has 1 to 59 bits"
unfoldable pub sound_register : Register → Bool
sound_register Empty = true
sound_register (Number r x) = shares_below (modulus_of r) x
sound_register (Bits l x) = leb 1 l && (leb l 59 && shares_below (2 ^ l) x)

unfoldable pub sound_slots : List Register → Bool
sound_slots [] = true
sound_slots (r ∷ rs) = sound_register r && sound_slots rs

-- "each position is at most 1,000,000"
abbrev pub million : ℕ
million = 1_000_000

unfoldable pub sound : Machine → Bool
sound m =
    sound_slots m.slots
    && (leb m.masks_at million && (leb m.channels_at million && leb m.dealer_at million))

-- what is public of a record: kinds, rings, bit counts and positions
pub record Public : Type 0 where
  pub kinds : List Kind
  pub masks_at : ℕ
  pub channels_at : ℕ
  pub dealer_at : ℕ

abbrev pub public_of : Machine → Public
public_of m =
    record {
      kinds = map kind_of m.slots;
      masks_at = m.masks_at;
      channels_at = m.channels_at;
      dealer_at = m.dealer_at;
    }

abbrev pub kind_at : Public → ℕ → Kind
kind_at p k = get_or p.kinds k empty
