-- What an accepted order leaves of the record, by the work that it does.
use Prim.Native.Nat.{ℕ, ◌+◌, ◌≤◌, ◌<◌}
use mathlib.Core.Bool.{false, not, true}
use mathlib.Core.List.{List}
use mathlib.Core.Path.{◌≡◌, ap, refl, sym, ◌∙◌}
use native.Mathlib.Omega.{arith}
use lib.Dec.{eqb}
use lib.ListN.{get_or, length, length-set, set}
use borrow.Author.Tests.{eqb-true, ltb-false, not-false}
use Rattle.ring.specs.Rings.{modulus, ring_of}
use Rattle.gate.specs.Places.{Place, p0, p1, p2, parts, sharing}
use Rattle.gate.specs.declared.sharing.Sharing.{Sharing}
use Rattle.gate.proofs.PlaceLaw.{each}
use Rattle.circuit.specs.Circuits.{Circuit, gates_of, result}
use Rattle.machine.specs.Checks.{Tapes, length_checks, uneven}
use Rattle.machine.specs.Registers.{Kind, Public, bits, empty, kind_of, million, number, public_of, register_at, register_of, sound, with_register}
use Rattle.machine.specs.Step.{computed, dealt, dealt_shares, lengths_of, moved, opened, performed, value_of}
use Rattle.machine.specs.Work.{Work, adjusts, computes, deals, number_kind, opens}
use Rattle.machine.specs.declared.registers.Machine.{Machine}
use Rattle.machine.proofs.KindLaw.{neither}
use Rattle.outcome.specs.Theorems.{gates_in, items_in, value_at, words_in}
use Rattle.outcome.proofs.CheckLaw.{Passed}
use Rattle.outcome.proofs.RegisterLaw.{Fits, Sound, map-set, parts-sound, register_other, register_same, shares_at, sound-with, value_as_lem, value_as}

-- the register that it writes: 16 where it writes none
abbrev pub target : Work → ℕ
target (deals d e v) = d
target (adjusts C d x y kind) = d
target (computes C d x y kind) = d
target (opens x) = 16

-- the sub-shares that it leaves there, of a deal and of a circuit; and that they are in range
abbrev dealt_by : (e v : ℕ) → Tapes → Place → ℕ
dealt_by e v left = parts (dealt_shares (modulus e) v (get_or left.dealer 0 0) (get_or left.dealer 1 0))

abbrev left_by : (C : Circuit) → (x y : ℕ) → Machine → Tapes → Place → ℕ
left_by C x y m left = result C (shares_at m x) (shares_at m y) left.masks

abbrev pub FitsIn : Work → Machine → Tapes → Type 0
FitsIn (deals d e v) m left = Fits (number_kind (ring_of e)) (dealt_by e v left)
FitsIn (adjusts C d x y kind) m left = Fits kind (left_by C x y m left)
FitsIn (computes C d x y kind) m left = Fits kind (left_by C x y m left)
FitsIn (opens x) m left = Unit {0}

-- no gates where work is done place by place
abbrev pub Light : Work → Type 0
Light (deals d e v) = Unit {0}
Light (adjusts C d x y kind) = gates_of C ≡ 0
Light (computes C d x y kind) = Unit {0}
Light (opens x) = Unit {0}

-- what is public afterwards
abbrev public_after : Public → (d : ℕ) → Kind → (gates words items : ℕ) → Public
public_after p d kind gates words items =
    record {
      kinds = set p.kinds d kind;
      masks_at = p.masks_at + gates;
      channels_at = p.channels_at + words;
      dealer_at = p.dealer_at + items;
    }

abbrev pub public_by : Work → Public → Public
public_by (deals d e v) p = public_after p d (number_kind (ring_of e)) 0 0 2
public_by (adjusts C d x y kind) p = public_after p d kind (gates_of C) (gates_of C) 0
public_by (computes C d x y kind) p = public_after p d kind (gates_of C) (gates_of C) 0
public_by (opens x) p =
    record {
      kinds = p.kinds;
      masks_at = p.masks_at + 0;
      channels_at = p.channels_at + 1;
      dealer_at = p.dealer_at + 0;
    }

-- three lengths that pass their check
pub record Even (n : Place → ℕ) : Type 0 where
  pub same : (i : Place) → n i ≡ n p0
  pub few : n p0 ≤ million

pub even : (n : Place → ℕ) → uneven n ≡ false → Even n
even n h =
    let first = neither (not (eqb (n p0) (n p1))) _ h in
    let second = neither (not (eqb (n p1) (n p2))) _ first.1 in
    let one = eqb-true _ _ (not-false _ first.0) in
    let two = eqb-true _ _ (not-false _ second.0) in
    record { same = each (λ i. n i ≡ n p0) refl (sym one) (sym two ∙ sym one); few = ltb-false _ _ second.1 }

kind_is : (kind : Kind) (x : Sharing) → kind_of (register_of kind x) ≡ kind
kind_is empty x = refl
kind_is (number r) x = refl
kind_is (bits l) x = refl

-- what is public of the record with a register of that kind in d
public_with : (m : Machine) (gates words items d : ℕ) (kind : Kind) (x : Sharing)
    → public_of (with_register (moved m gates words items) d (register_of kind x)) ≡ public_after (public_of m) d kind gates words items
unfolding with_register
public_with m gates words items d kind x =
    ap (λ (ks : List Kind). public_at ks)
    (map-set kind_of m.slots d (register_of kind x)
    ∙ ap (λ (k : Kind). set (public_of m).kinds d k) (kind_is kind x))
  where
    public_at : List Kind → Public
    public_at ks =
        record {
          kinds = ks;
          masks_at = m.masks_at + gates;
          channels_at = m.channels_at + words;
          dealer_at = m.dealer_at + items;
        }

module _ (m : Machine) (left : Tapes) (c : Place → List ℕ) where
  pub rises : (w : Work)
      → ((performed w m left c).machine.masks_at ≡ m.masks_at + (performed w m left c).gates)
      × ((performed w m left c).machine.channels_at ≡ m.channels_at + words_in w)
      × ((performed w m left c).machine.dealer_at ≡ m.dealer_at + items_in w)
  unfolding dealt computed opened with_register
  rises (deals d e v) = (refl, refl, refl)
  rises (adjusts C d x y kind) = (refl, refl, refl)
  rises (computes C d x y kind) = (refl, refl, refl)
  rises (opens x) = (refl, refl, refl)

  pub gates_are : (w : Work) → (performed w m left c).gates ≡ gates_in w
  unfolding dealt computed opened
  gates_are (deals d e v) = refl
  gates_are (adjusts C d x y kind) = refl
  gates_are (computes C d x y kind) = refl
  gates_are (opens x) = refl

  pub slots_kept : (w : Work) → length (performed w m left c).machine.slots ≡ length m.slots
  unfolding dealt computed opened with_register
  slots_kept (deals d e v) = length-set m.slots d _
  slots_kept (adjusts C d x y kind) = length-set m.slots d _
  slots_kept (computes C d x y kind) = length-set m.slots d _
  slots_kept (opens x) = refl

  pub others_kept : (w : Work) (k : ℕ) → (k ≡ target w → ⊥) → register_at (performed w m left c).machine k ≡ register_at m k
  unfolding dealt computed opened register_at
  others_kept (deals d e v) k h = register_other (moved m 0 0 2) d k _ h
  others_kept (adjusts C d x y kind) k h = register_other (moved m (gates_of C) (gates_of C) 0) d k _ h
  others_kept (computes C d x y kind) k h = register_other (moved m (gates_of C) (gates_of C) 0) d k _ h
  others_kept (opens x) k h = refl

  pub public_after_lem : (w : Work) → public_of (performed w m left c).machine ≡ public_by w (public_of m)
  unfolding dealt computed opened
  public_after_lem (deals d e v) = public_with m 0 0 2 d (number_kind (ring_of e)) _
  public_after_lem (adjusts C d x y kind) = public_with m (gates_of C) (gates_of C) 0 d kind _
  public_after_lem (computes C d x y kind) = public_with m (gates_of C) (gates_of C) 0 d kind _
  public_after_lem (opens x) = refl

  -- the value in d
  pub computed-leaves : (C : Circuit) (d x y : ℕ) (kind : Kind) → d < length m.slots
      → value_at (computed C d x y kind m left c).machine d ≡ value_as kind (left_by C x y m left)
  unfolding computed
  computed-leaves C d x y kind h =
      ap value_of (register_same (moved m (gates_of C) (gates_of C) 0) d (register_of kind (sharing (left_by C x y m left))) h)
      ∙ value_as_lem kind (left_by C x y m left)

  pub dealt-leaves : (d e v : ℕ) → d < length m.slots
      → value_at (dealt d e v m left c).machine d ≡ value_as (number_kind (ring_of e)) (dealt_by e v left)
  unfolding dealt
  dealt-leaves d e v h =
      ap value_of (register_same (moved m 0 0 2) d (register_of (number_kind (ring_of e)) (sharing (dealt_by e v left))) h)
      ∙ value_as_lem (number_kind (ring_of e)) (dealt_by e v left)

  module _ (T : Tapes) (is-sound : Sound m) where
    with-gates : (C : Circuit) → m.masks_at + gates_of C ≤ million → m.channels_at + gates_of C ≤ million
        → Sound (moved m (gates_of C) (gates_of C) 0)
    with-gates C masks channels =
        record { slots = is-sound.slots; masks = masks; channels = channels; dealer = omega arith }

    pub performed-sound : (w : Work) → Light w → Passed (length_checks w (public_of m) (lengths_of T c)) → FitsIn w m left
        → sound (performed w m left c).machine ≡ true
    unfolding dealt computed opened
    performed-sound (deals d e v) l h fits =
        let room : m.dealer_at + 2 ≤ million = omega (arith, ltb-false) in
        let risen : Sound (moved m 0 0 2)
        = record { slots = is-sound.slots; masks = omega arith; channels = omega arith; dealer = room } in
        sound-with (moved m 0 0 2) d (number_kind (ring_of e)) (dealt_by e v left) risen fits
    performed-sound (adjusts C d x y kind) none h fits =
        sound-with _ d kind (left_by C x y m left) (with-gates C (omega arith) (omega arith)) fits
    performed-sound (computes C d x y kind) l h fits =
        let tests = neither (uneven (lengths_of T c).masks) (uneven (lengths_of T c).channels) h.0 in
        let masks = even (lengths_of T c).masks tests.0 in
        let channels = even (lengths_of T c).channels tests.1 in
        sound-with _ d kind (left_by C x y m left)
        (with-gates C (omega (arith, ltb-false)) (omega (arith, ltb-false))) fits
    performed-sound (opens x) l h fits =
        let channels = even (lengths_of T c).channels h.0 in
        parts-sound (moved m 0 1 0)
        (record {
          slots = is-sound.slots;
          masks = omega arith;
          channels = omega (arith, ltb-false);
          dealer = omega arith;
        })
