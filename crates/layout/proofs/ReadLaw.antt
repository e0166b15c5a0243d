-- Registers read one after another.
use Rattle.std.specs.Prelude.{Some, None, Option}
use Prim.Native.Nat.{ℕ, suc, ◌+◌, ◌*◌, ◌-◌, ◌<◌}
use mathlib.Core.Bool.{Bool, and_assoc, and-true, true, ◌&&◌}
use mathlib.Core.List.{List, [], ◌∷◌, ◌++◌, append_assoc, append-nil}
use mathlib.Core.Path.{◌≡◌, refl, sym, ap, ap₂, ◌∙◌}
use native.Mathlib.Omega.{arith}
use borrow.Author.Tests.{eq-eqb, ne_eqb}
use borrow.Rule.Slice.PartMut.{mid_of}
use lib.Dec.{leb}
use lib.ListN.{drop, get_or, length}
use lib.Seq.{drop-drop, get_or-drop}
use Rattle.circuit.proofs.LentLaw.{part_is}
use Rattle.machine.specs.Registers.{million, sound, sound_register, sound_slots}
use Rattle.machine.specs.declared.registers.Machine.{Machine}
use Rattle.machine.specs.declared.registers.Register.{Register}
use Rattle.layout.specs.Layout.{before, joined, machine_from, machine_of, register_of, seen_of}

joined_none : (f : Option Machine) → f ≡ joined [] f
joined_none (Some m) = refl
joined_none None = refl

joined-joined : (p q : List Register) (f : Option Machine) → joined p (joined q f) ≡ joined (p ++ q) f
joined-joined p q (Some m) = rw append_assoc
joined-joined p q None = refl

-- the register that stands behind i others, of n
module _ (ws : List ℕ) (i n : ℕ) (more : i < n) where
  goes_on_lem : machine_from (n - i) (drop (5 * i) ws)
      ≡ before (register_of (mid_of (5 * i) (length ws - 5 * i) ws)) (machine_from (n - (i + 1)) (drop (5 * (i + 1)) ws))
  unfolding machine_from
  goes_on_lem =
      let split : n - i ≡ suc (n - (i + 1)) = omega arith in
      let place : 5 * i + 5 ≡ 5 * (i + 1) = omega arith in
      rw (split, part_is, drop-drop 5 (5 * i) ws, place)

  pub no_register : (p : List Register) → register_of (mid_of (5 * i) (length ws - 5 * i) ws) ≡ None
      → joined p (machine_from (n - i) (drop (5 * i) ws)) ≡ None
  no_register p is = rw (goes_on_lem, is)

  one-read : (p : List Register) (r : Register) → register_of (mid_of (5 * i) (length ws - 5 * i) ws) ≡ Some r
      → joined p (machine_from (n - i) (drop (5 * i) ws)) ≡ joined (p ++ (r ∷ [])) (machine_from (n - (i + 1)) (drop (5 * (i + 1)) ws))
  one-read p r is = rw (goes_on_lem, is, joined-joined)

-- no register is left
all_read : (ws : List ℕ) (p : List Register) (i : ℕ) → i ≡ 16
    → joined p (machine_from (16 - i) (drop (5 * i) ws))
    ≡ Some (record { slots = p; masks_at = get_or ws 80 0; channels_at = get_or ws 81 0; dealer_at = get_or ws 82 0 })
unfolding machine_from
all_read ws p i last = rw (last, append-nil, get_or-drop 80 ws 0 0, get_or-drop 80 ws 1 0, get_or-drop 80 ws 2 0)

-- 83 words, and any other number
pub right_length : (ws : List ℕ) → length ws ≡ 83 → machine_of ws ≡ machine_from 16 ws
unfolding machine_of
right_length ws h = rw (eq-eqb (length ws) 83)

pub other_length : (ws : List ℕ) → (length ws ≡ 83 → ⊥) → machine_of ws ≡ None
unfolding machine_of
other_length ws h = rw (ne_eqb (length ws) 83)

-- the registers read, i of them, are sound or not
pub record Passed (ws : List ℕ) (i : ℕ) (good : Bool) : Type 0 where
  pub slots : List Register
  pub is : machine_from 16 ws ≡ joined slots (machine_from (16 - i) (drop (5 * i) ws))
  pub sound : good ≡ sound_slots slots

sound-last : (p : List Register) (r : Register) → sound_slots (p ++ (r ∷ [])) ≡ sound_slots p && sound_register r
unfolding sound_slots
sound-last [] r = and-true (sound_register r)
sound-last (s ∷ p) r = ap (λ (b : Bool). sound_register s && b) (sound-last p r) ∙ sym (and_assoc (sound_register s) (sound_slots p) (sound_register r))

pub none_passed : (ws : List ℕ) → Passed ws 0 true
unfolding sound_slots
none_passed ws = record { slots = []; is = joined_none (machine_from 16 ws); sound = refl }

pub one_passed : (ws : List ℕ) (i : ℕ) {good b : Bool} (r : Register) → i < 16 → Passed ws i good
    → register_of (mid_of (5 * i) (length ws - 5 * i) ws) ≡ Some r → b ≡ sound_register r → Passed ws (i + 1) (good && b)
one_passed ws i r more before is test =
    record {
      slots = before.slots ++ (r ∷ []);
      is = before.is ∙ one-read ws i 16 more before.slots r is;
      sound = ap₂ ◌&&◌ before.sound test ∙ sym (sound-last before.slots r);
    }

pub all_passed : (ws : List ℕ) (i : ℕ) {good : Bool} → length ws ≡ 83 → i ≡ 16 → Passed ws i good
    → Some (good && (leb (get_or ws 80 0) million && (leb (get_or ws 81 0) million && leb (get_or ws 82 0) million))) ≡ seen_of (machine_of ws)
unfolding sound
all_passed ws i long last before =
    rw (right_length ws long, before.is, all_read ws before.slots i last, before.sound)
