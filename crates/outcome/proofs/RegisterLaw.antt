-- Registers by what is public of them and their sub-shares: kinds, values, soundness.
use Prim.Native.Nat.{ℕ, zero, suc, ◌<◌, ◌≤◌, ◌^◌}
use mathlib.Core.Bool.{Bool, and-eq-true_iff, true, ◌&&◌}
use mathlib.Core.List.{List, [], ◌∷◌, map}
use mathlib.Core.Path.{◌≡◌, ap, refl, sym, ◌∙◌}
use lib.ListN.{length, set}
use lib.Seq.{get_or-set_other, get_or-set_same}
use borrow.Author.Tests.{le-leb, leb-true, lt-ltb}
use Rattle.ring.specs.Rings.{modulus_of}
use Rattle.gate.specs.Places.{Below, Place, p0, p1, p2, parts, shares_below, sharing, total}
use Rattle.gate.specs.declared.sharing.Sharing.{Sharing}
use Rattle.gate.proofs.PlaceLaw.{each, in_range, parts-sharing}
use Rattle.circuit.specs.Bits.{exclusive}
use Rattle.machine.specs.Registers.{
  Kind,
  bits,
  empty,
  kind_at,
  kind_of,
  million,
  number,
  public_of,
  register_at,
  register_of,
  shares_of,
  sound,
  sound_register,
  sound_slots,
  with_register,
}
use Rattle.machine.specs.Step.{value_of}
use Rattle.machine.specs.declared.registers.Machine.{Machine}
use Rattle.machine.specs.declared.registers.Register.{Register}
use Rattle.machine.specs.declared.registers.Register.TheVariants.{Bits, Empty, Number}
use Rattle.machine.proofs.SlotLaw.{kind-at, slot-sound}
use Rattle.outcome.specs.Theorems.{value_at}

-- storing in a mapped list
pub map-set : {A B : Type 0} (f : A → B) (l : List A) (k : ℕ) (a : A) → map f (set l k a) ≡ set (map f l) k (f a)
map-set f [] k a = refl
map-set f (x ∷ l) zero a = refl
map-set f (x ∷ l) (suc k) a = ap (λ t. f x ∷ t) (map-set f l k a)

-- the sub-shares of register k
abbrev pub shares_at : Machine → ℕ → Place → ℕ
shares_at m k = parts (shares_of (register_at m k))

-- the value of three sub-shares, by kind
abbrev pub value_as : Kind → (Place → ℕ) → ℕ
value_as empty z = 0
value_as (number r) z = total (modulus_of r) z
value_as (bits l) z = exclusive z

value_of_lem : (r : Register) → value_of r ≡ value_as (kind_of r) (parts (shares_of r))
value_of_lem Empty = refl
value_of_lem (Number r x) = refl
value_of_lem (Bits l x) = refl

pub value-at : (m : Machine) (k : ℕ) → value_at m k ≡ value_as (kind_at (public_of m) k) (shares_at m k)
value-at m k = value_of_lem (register_at m k) ∙ ap (λ (kind : Kind). value_as kind (shares_at m k)) (sym (kind-at m k))

pub value_as_lem : (kind : Kind) (z : Place → ℕ) → value_of (register_of kind (sharing z)) ≡ value_as kind z
value_as_lem empty z = refl
value_as_lem (number r) z = ap (total (modulus_of r)) (parts-sharing z)
value_as_lem (bits l) z = ap exclusive (parts-sharing z)

-- the record with another register in d
pub register_same : (m : Machine) (d : ℕ) (r : Register) → d < length m.slots → register_at (with_register m d r) d ≡ r
unfolding register_at with_register
register_same m d r h = get_or-set_same m.slots d r Empty h

pub register_other : (m : Machine) (d k : ℕ) (r : Register) → (k ≡ d → ⊥) → register_at (with_register m d r) k ≡ register_at m k
unfolding register_at with_register
register_other m d k r h = get_or-set_other m.slots d k r Empty h

-- sub-shares that are in range for a register of that kind
pub record FewBits (l : ℕ) (z : Place → ℕ) : Type 0 where
  pub some : 1 ≤ l
  pub few : l ≤ 59
  pub below : Below (2 ^ l) z

abbrev pub Fits : Kind → (Place → ℕ) → Type 0
Fits empty z = Unit {0}
Fits (number r) z = Below (modulus_of r) z
Fits (bits l) z = FewBits l z

both : {a b : Bool} → a && b ≡ true → (a ≡ true) × (b ≡ true)
both {a} {b} h = (and-eq-true_iff a b).0 h

shares_below_lem : (n : ℕ) (x : Sharing) → shares_below n x ≡ true → Below n (parts x)
shares_below_lem n x h =
    let range = in_range h in each (λ i. parts x i < n) range.zero range.one range.two

below_shares : (n : ℕ) (z : Place → ℕ) → Below n z → shares_below n (sharing z) ≡ true
below_shares n z h = rw (lt-ltb (z p0) n (h p0), lt-ltb (z p1) n (h p1), lt-ltb (z p2) n (h p2))

sound-fits : (r : Register) → sound_register r ≡ true → Fits (kind_of r) (parts (shares_of r))
unfolding sound_register
sound-fits Empty h = tt
sound-fits (Number r x) h = shares_below_lem (modulus_of r) x h
sound-fits (Bits l x) h =
    let first = both h in
    let rest = both first.1 in
    record { some = leb-true 1 l first.0; few = leb-true l 59 rest.0; below = shares_below_lem (2 ^ l) x rest.1 }

fits-sound : (kind : Kind) (z : Place → ℕ) → Fits kind z → sound_register (register_of kind (sharing z)) ≡ true
unfolding sound_register
fits-sound empty z h = refl
fits-sound (number r) z h = below_shares (modulus_of r) z h
fits-sound (bits l) z h = rw (le-leb 1 l h.some, le-leb l 59 h.few) (below_shares (2 ^ l) z h.below)

first-sound : (s : Register) (ss : List Register) → sound_slots (s ∷ ss) ≡ true → (sound_register s ≡ true) × (sound_slots ss ≡ true)
unfolding sound_slots
first-sound s ss h = both h

set-sound : (ss : List Register) (k : ℕ) (r : Register)
    → sound_slots ss ≡ true → sound_register r ≡ true → sound_slots (set ss k r) ≡ true
unfolding sound_slots
set-sound [] k r h e = refl
set-sound (s ∷ ss) zero r h e = rw e (first-sound s ss h).1
set-sound (s ∷ ss) (suc k) r h e =
    let parts = first-sound s ss h in
    rw parts.0 (set-sound ss k r parts.1 e)

-- a sound record, part by part
pub record Sound (m : Machine) : Type 0 where
  pub slots : sound_slots m.slots ≡ true
  pub masks : m.masks_at ≤ million
  pub channels : m.channels_at ≤ million
  pub dealer : m.dealer_at ≤ million

pub sound-parts : (m : Machine) → sound m ≡ true → Sound m
unfolding sound
sound-parts m h =
    let first = both h in
    let second = both first.1 in
    let third = both second.1 in
    record {
      slots = first.0;
      masks = leb-true _ _ second.0;
      channels = leb-true _ _ third.0;
      dealer = leb-true _ _ third.1;
    }

pub parts-sound : (m : Machine) → Sound m → sound m ≡ true
unfolding sound
parts-sound m h =
    rw (
      h.slots,
      le-leb m.masks_at million h.masks,
      le-leb m.channels_at million h.channels,
      le-leb m.dealer_at million h.dealer,
    )

-- each register of a sound record is in range for its kind
pub register_fits : (m : Machine) (k : ℕ) → sound m ≡ true → Fits (kind_at (public_of m) k) (shares_at m k)
unfolding register_at
register_fits m k h =
    rw (kind-at m k) (sound-fits (register_at m k) (slot-sound m.slots k (sound-parts m h).slots))

pub sound-with : (m : Machine) (d : ℕ) (kind : Kind) (z : Place → ℕ)
    → Sound m → Fits kind z → sound (with_register m d (register_of kind (sharing z))) ≡ true
unfolding with_register
sound-with m d kind z h fits =
    parts-sound _
    (record {
      slots = set-sound m.slots d (register_of kind (sharing z)) h.slots (fits-sound kind z fits);
      masks = h.masks;
      channels = h.channels;
      dealer = h.dealer;
    })
