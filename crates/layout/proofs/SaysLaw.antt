-- Words laid out as a record: its registers and positions in them, and a change of them.
use Rattle.std.specs.Prelude.{Some}
use Prim.Native.Nat.{ℕ, suc, ◌+◌, ◌*◌, ◌-◌, ◌<◌, ◌≤◌, ◌^◌}
use mathlib.Core.List.{List, [], ◌∷◌, ◌++◌, append_assoc}
use mathlib.Core.Path.{◌≡◌, sym, ap, ◌∙◌}
use native.Mathlib.Omega.{arith}
use borrow.Rule.Slice.PartMut.{mid_of, put_mid}
use lib.ListN.{get_or-eq_default, drop, get_or, length, length-set, set, take}
use lib.Seq.{drop_at, drop-cons, get_or-drop, take_at}
use Rattle.circuit.proofs.LentLaw.{part_is}
use Rattle.machine.specs.Registers.{register_at, with_register}
use Rattle.machine.specs.Step.{moved}
use Rattle.machine.specs.declared.registers.Machine.{Machine}
use Rattle.machine.specs.declared.registers.Register.{Register}
use Rattle.machine.specs.declared.registers.Register.TheVariants.{Empty}
use Rattle.layout.specs.Layout.{Says, machine_of, machine_words, register_of, register_words, slots_words}
use Rattle.layout.proofs.Theorems.{machine_length, machine_written, register_back}
use Rattle.layout.proofs.WriteLaw.{from_register, one-changed, positions-changed, slots_length}

pub said : (ws : List ℕ) (m : Machine) → machine_of ws ≡ Some m → Says ws m
said ws m e = let w = machine_written ws m e in record { words = sym w.0; registers = w.1 }

module _ {ws : List ℕ} {m : Machine} (says : Says ws m) where
  pub says_length : length ws ≡ 83
  says_length = ap length says.words ∙ machine_length m says.registers

  eighty : length (slots_words m.slots) ≡ 80
  eighty = let n = says.registers in omega (arith, slots_length m.slots)

  pub register_said : (k : ℕ) → k ≤ 15 → register_of (mid_of (5 * k) (length ws - 5 * k) ws) ≡ Some (register_at m k)
  unfolding register_at machine_words slots_words
  register_said k h =
      let t = m.masks_at ∷ m.channels_at ∷ m.dealer_at ∷ [] in
      let n = says.registers in
      let rest = slots_words (drop (suc k) m.slots) in
      let r = get_or m.slots k Empty in
      ap register_of
      (part_is (5 * k) ws ∙ ap (drop (5 * k)) says.words
      ∙ from_register m.slots k t (omega arith)
      ∙ ap (λ l. slots_words l ++ t) (drop-cons m.slots k Empty (omega arith))
      ∙ append_assoc (register_words r) rest t)
      ∙ register_back r (rest ++ t)

  pub past_said : (k : ℕ) → 15 < k → Empty ≡ register_at m k
  unfolding register_at
  past_said k h =
      let n = says.registers in
      let past : length m.slots ≤ k = omega arith in
      sym ((get_or-eq_default m.slots Empty past))

  ending : drop 80 ws ≡ m.masks_at ∷ m.channels_at ∷ m.dealer_at ∷ []
  unfolding machine_words
  ending = ap (drop 80) says.words ∙ drop_at (slots_words m.slots) _ 80 eighty

  pub positions-said : (get_or ws 80 0 ≡ m.masks_at) × ((get_or ws 81 0 ≡ m.channels_at) × (get_or ws 82 0 ≡ m.dealer_at))
  positions-said = (
    sym (get_or-drop 80 ws 0 0) ∙ ap (λ (l : List ℕ). get_or l 0 0) ending,
    (
      sym (get_or-drop 80 ws 1 0) ∙ ap (λ (l : List ℕ). get_or l 1 0) ending,
      sym (get_or-drop 80 ws 2 0) ∙ ap (λ (l : List ℕ). get_or l 2 0) ending,
    ),
  )

  -- positions with room to rise
  pub rises : (gates sent items : ℕ) → m.masks_at + gates < 2 ^ 64 → m.channels_at + sent < 2 ^ 64 → m.dealer_at + items < 2 ^ 64
      → (length ws ≡ 83)
      × ((get_or ws 80 0 + gates < 2 ^ 64) × ((get_or ws 81 0 + sent < 2 ^ 64) × (get_or ws 82 0 + items < 2 ^ 64)))
  rises gates sent items a b c =
      let at = positions-said in
      (says_length, (rw at.0 a, (rw at.1.0 b, rw at.1.1 c)))

  -- positions that have risen
  pub risen : (gates sent items : ℕ)
      → Says (set (set (set ws 80 (get_or ws 80 0 + gates)) 81 (get_or ws 81 0 + sent)) 82 (get_or ws 82 0 + items)) (moved m gates sent items)
  unfolding machine_words
  risen gates sent items =
      let at = positions-said in
      let front : take 80 ws ≡ slots_words m.slots = ap (take 80) says.words ∙ take_at (slots_words m.slots) _ 80 eighty in
      record {
        words = positions-changed m.slots ws _ _ _ says.registers says_length front ∙ rw (at.0, at.1.0, at.1.1);
        registers = says.registers;
      }

  -- another register d
  pub register_changed : (d : ℕ) (r : Register) {ys : List ℕ} → d < 16 → ys ≡ register_words r ++ drop 5 (mid_of (5 * d) (length ws - 5 * d) ws)
      → Says (put_mid (5 * d) (length ws - 5 * d) ws ys) (with_register m d r)
  unfolding machine_words with_register
  register_changed d r {ys} h e =
      let n = says.registers in
      record {
        words = one-changed m.slots d r _ ws ys (omega arith) says.words e;
        registers = length-set m.slots d r ∙ n;
      }
