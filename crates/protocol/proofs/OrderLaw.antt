-- What the nine orders owe, order by order.
use Prim.Native.Nat.{ℕ, ◌-◌}
use mathlib.Core.Bool.{Bool, cond, false, true}
use mathlib.Core.List.{List, [], ◌∷◌}
use mathlib.Core.Path.{◌≡◌, ap, refl, subst, subst₂, sym, ◌∙◌}
use lib.Dec.{leb, lit<}
use Rattle.ring.specs.Rings.{modulus, ring_of}
use Rattle.gate.specs.Places.{Place}
use Rattle.circuit.specs.Decompose.{digit}
use Rattle.circuit.specs.Orders.{addition, composition, conversion, decomposition, multiplication, quotient_bit, quotient_gate, scaling, shifting, word_bit}
use Rattle.machine.specs.Checks.{Lengths, Tapes, any_above15, first_met, is_empty, kind_checks, length_checks, no_ring, public_checks}
use Rattle.machine.specs.Registers.{Public, count_at, kind_at, public_of, register_at, width_at}
use Rattle.machine.specs.Step.{opened, step, value_of}
use Rattle.machine.specs.Work.{Work, adjusts, computes, deals, opens, work_of}
use Rattle.machine.specs.declared.orders.Order.{Order}
use Rattle.machine.specs.declared.orders.Order.TheVariants.{Add, Compose, Convert, Deal, Decompose, Multiply, Open, Scale, Shift}
use Rattle.machine.specs.declared.registers.Machine.{Machine}
use Rattle.act.specs.Acts as acts
use Rattle.act.specs.Lawful.{AlikeWork, NarrowWork, more, none}
use Rattle.act.specs.Lawful as lawful
use Rattle.outcome.specs.Theorems.{destination, is_opening, value_at}
use Rattle.outcome.proofs.AcceptLaw.{accepted}
use Rattle.outcome.proofs.CheckLaw.{Passed}
use Rattle.outcome.proofs.KindLaw.{zero_below}
use Rattle.outcome.proofs.Theorems.{add-leaves, compose_leaves, convert_leaves, deal_leaves, decompose_leaves, multiply_leaves, scale_leaves, shift_leaves}
use Rattle.protocol.specs.Acts.{work_for}
use Rattle.protocol.specs.Orders.{RefusedNumber, Small, TakesSmall, converted, decomposed, seven, shifted, without_number}
use Rattle.protocol.specs.Same.{Same}
use Rattle.protocol.proofs.ModuliLaw.{kind_narrow, narrow_append, narrow_compose, narrow_decompose, narrow_within, ring_narrow}

number_apart : (a b x y : Bool) (rest : ℕ) → (b ≡ false → y ≡ false) → (cond a 2 (cond b 5 (cond x 7 rest)) ≡ 7 → ⊥)
    → cond a 2 (cond b 5 (cond x 7 rest)) ≡ cond a 2 (cond b 5 (cond y 7 rest))
number_apart true b x y rest h p = refl
number_apart false true x y rest h p = refl
number_apart false false true y rest h p = absurd (p refl)
number_apart false false false y rest h p = rw (h refl)

-- a deal not refused for its number: 0 in its place is below p too, wherever 5 does not refuse
pub number_aside : (o : Order) (p : Public) (len : Lengths) → (RefusedNumber o (first_met (public_checks o p len)) → ⊥)
    → first_met (public_checks o p len) ≡ first_met (public_checks (without_number o) p len)
unfolding public_checks first_met
number_aside (Deal d e v) p len h =
    number_apart (any_above15 (d ∷ [])) (no_ring (ring_of e)) (leb (modulus e) v) (leb (modulus e) 0)
    (first_met (length_checks (deals d e v) p len)) (zero_below e)
    (λ q. h (subst (RefusedNumber (Deal d e v)) (sym q) seven))
number_aside (Add d x y) p len h = refl
number_aside (Scale d x c) p len h = refl
number_aside (Multiply d x y) p len h = refl
number_aside (Decompose d x l) p len h = refl
number_aside (Convert d x f) p len h = refl
number_aside (Shift d x s) p len h = refl
number_aside (Compose d x f) p len h = refl
number_aside (Open x) p len h = refl

-- its work is alike but for that number
pub number_apart_works : (o : Order) (p : Public) → AlikeWork (work_for p (work_of o p)) (work_for p (work_of (without_number o) p))
number_apart_works (Deal d e v) p = lawful.number
number_apart_works (Add d x y) p = lawful.same
number_apart_works (Scale d x c) p = lawful.same
number_apart_works (Multiply d x y) p = lawful.same
number_apart_works (Decompose d x l) p = lawful.same
number_apart_works (Convert d x f) p = lawful.same
number_apart_works (Shift d x s) p = lawful.same
number_apart_works (Compose d x f) p = lawful.same
number_apart_works (Open x) p = lawful.same

-- it opens where its work does
pub opening_is : (o : Order) (p : Public) → is_opening o ≡ acts.is_opening (work_for p (work_of o p))
opening_is (Deal d e v) p = refl
opening_is (Add d x y) p = refl
opening_is (Scale d x c) p = refl
opening_is (Multiply d x y) p = refl
opening_is (Decompose d x l) p = refl
opening_is (Convert d x f) p = refl
opening_is (Shift d x s) p = refl
opening_is (Compose d x f) p = refl
opening_is (Open x) p = refl

-- the moduli of its gates, or of a deal, are below 2^61
pub moduli_narrow : (o : Order) (p : Public) → Passed (kind_checks o p) → NarrowWork (work_for p (work_of o p))
unfolding addition scaling multiplication decomposition conversion shifting composition quotient_gate
moduli_narrow (Deal d e v) p h = ring_narrow e h.0
moduli_narrow (Add d x y) p h = none
moduli_narrow (Scale d x k) p h = none
moduli_narrow (Multiply d x y) p h = more (kind_narrow (kind_at p x)) none
moduli_narrow (Decompose d x l) p h = narrow_decompose l
moduli_narrow (Convert d x f) p h =
    more (lit< tt) (narrow_compose quotient_bit (modulus f) 0 2 (ring_narrow f h.1.1.0))
moduli_narrow (Shift d x s) p h =
    let e = width_at (kind_at p x) in
    narrow_append
    (narrow_within (narrow_decompose (e - 2)))
    (narrow_compose digit (modulus e) s (e - 2 - s) (kind_narrow (kind_at p x)))
moduli_narrow (Compose d x f) p h = narrow_compose word_bit (modulus f) 0 (count_at (kind_at p x)) (ring_narrow f h.1.1.0)
moduli_narrow (Open x) p h = tt

-- an opening's register is not empty
abbrev pub Full : Work → Public → Type 0
Full (deals d e v) p = Unit {0}
Full (adjusts C d x y kind) p = Unit {0}
Full (computes C d x y kind) p = Unit {0}
Full (opens x) p = is_empty (kind_at p x) ≡ false

pub full : (o : Order) (p : Public) → Passed (kind_checks o p) → Full (work_of o p) p
full (Deal d e v) p h = tt
full (Add d x y) p h = tt
full (Scale d x c) p h = tt
full (Multiply d x y) p h = tt
full (Decompose d x l) p h = tt
full (Convert d x f) p h = tt
full (Shift d x s) p h = tt
full (Compose d x f) p h = tt
full (Open x) p h = h.0

-- an opening writes no register
opening_stands : (x : ℕ) (m : Machine) (T : Tapes) (c : Place → List ℕ) → (step (Open x) m T c).refusal ≡ 0
    → (k : ℕ) → register_at (step (Open x) m T c).machine k ≡ register_at m k
unfolding opened register_at
opening_stands x m T c ok k = rw (accepted (Open x) m T c ok).done

same_width : (m n : Machine) → Same m n → (x : ℕ) → width_at (kind_at (public_of m) x) ≡ width_at (kind_at (public_of n) x)
same_width m n same x = ap (λ (p : Public). width_at (kind_at p x)) same.public

-- what is small goes by values
pub same_small : (o : Order) (m n : Machine) → Same m n → TakesSmall o m → TakesSmall o n
same_small o m n same small x lifts = subst₂ (λ (v w : ℕ). Small v (modulus w)) (same.values x) (same_width m n same x) (small x lifts)

module _ (m n : Machine) (T T' : Tapes) (c c' : Place → List ℕ) (same : Same m n) where
  -- the value that an order leaves in its register
  pub same_left : (o : Order) → (step o m T c).refusal ≡ 0 → (step o n T' c').refusal ≡ 0 → TakesSmall o m
      → value_at (step o m T c).machine (destination o) ≡ value_at (step o n T' c').machine (destination o)
  same_left (Deal d e v) ok ok' small =
      deal_leaves d e v m T c ok same.left.slots ∙ sym (deal_leaves d e v n T' c' ok' same.right.slots)
  same_left (Add d x y) ok ok' small =
      add-leaves d x y m T c ok same.left.slots
      ∙ rw (same.values x, same.values y, same_width m n same x) (sym (add-leaves d x y n T' c' ok' same.right.slots))
  same_left (Scale d x k) ok ok' small =
      scale_leaves d x k m T c ok same.left.slots
      ∙ rw (same.values x, same_width m n same x) (sym (scale_leaves d x k n T' c' ok' same.right.slots))
  same_left (Multiply d x y) ok ok' small =
      multiply_leaves d x y m T c ok same.left.slots
      ∙ rw (same.values x, same.values y, same_width m n same x) (sym (multiply_leaves d x y n T' c' ok' same.right.slots))
  same_left (Decompose d x l) ok ok' small =
      decompose_leaves d x l m T c ok same.left.slots (small x decomposed)
      ∙ rw (same.values x) (sym (decompose_leaves d x l n T' c' ok' same.right.slots (same_small (Decompose d x l) m n same small x decomposed)))
  same_left (Convert d x f) ok ok' small =
      convert_leaves d x f m T c ok same.left.slots (small x converted)
      ∙ rw (same.values x) (sym (convert_leaves d x f n T' c' ok' same.right.slots (same_small (Convert d x f) m n same small x converted)))
  same_left (Shift d x s) ok ok' small =
      shift_leaves d x s m T c ok same.left.slots (small x shifted)
      ∙ rw (same.values x) (sym (shift_leaves d x s n T' c' ok' same.right.slots (same_small (Shift d x s) m n same small x shifted)))
  same_left (Compose d x f) ok ok' small =
      compose_leaves d x f m T c ok same.left.slots
      ∙ rw (same.values x) (sym (compose_leaves d x f n T' c' ok' same.right.slots))
  same_left (Open x) ok ok' small =
      ap value_of (opening_stands x m T c ok 16) ∙ same.values 16 ∙ sym (ap value_of (opening_stands x n T' c' ok' 16))
