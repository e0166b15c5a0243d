-- The facts of specs/Theorems.antt.
use Rattle.std.specs.Prelude.{Some, None, Option}
use Rattle.ring.specs.declared.rings.Ring.{Ring}
use Prim.Native.Nat.{ℕ, zero, suc, ◌+◌, ◌*◌, ◌≤◌}
use mathlib.Core.Bool.{Bool, cond, false, true, ◌&&◌}
use mathlib.Core.List.{List, [], ◌∷◌, ◌++◌, append_assoc}
use mathlib.Core.Path.{◌≡◌, refl, sym, ap, ◌∙◌}
use native.Mathlib.Omega.{arith}
use borrow.Author.Tests.{eq-eqb, eqb-true, ne_eqb}
use lib.Dec.{eqb}
use lib.ListN.{drop, length, length-append, length-drop}
use Rattle.ring.specs.Rings.{ring_of}
use Rattle.ring.specs.declared.rings.Ring.TheVariants.{R13, R31, R61}
use Rattle.ring.proofs.RangeLaw.{width_named}
use Rattle.gate.specs.declared.sharing.Sharing.{Sharing}
use Rattle.machine.specs.declared.orders.Order.{Order}
use Rattle.machine.specs.declared.orders.Order.TheVariants.{Add, Compose, Convert, Deal, Decompose, Multiply, Open, Scale, Shift}
use Rattle.machine.specs.declared.registers.Machine.{Machine}
use Rattle.machine.specs.declared.registers.Register.{Register}
use Rattle.machine.specs.declared.registers.Register.TheVariants.{Bits, Empty, Number}
use Rattle.machine.proofs.KindLaw.{left_true, right_true}
use Rattle.machine.specs.Orders.{of_kind}
use Rattle.machine.specs.Registers.{empty_machine}
use Rattle.layout.specs.Layout.{before, empty_from, machine_from, machine_of, machine_words, number_from, open_from, order_from, order_of, order_words, register_from, register_of, register_words, slots_words}
use Rattle.layout.specs.Theorems.{EmptyIsZeros, MachineBack, MachineLength, MachineWritten, OrderBack, OrderWritten}
use Rattle.layout.proofs.WriteLaw.{slots_length}

pub order-back : OrderBack
unfolding order_of order_from of_kind
order-back (Deal d e v) = refl
order-back (Add d x y) = refl
order-back (Scale d x c) = refl
order-back (Multiply d x y) = refl
order-back (Decompose d x l) = refl
order-back (Convert d x f) = refl
order-back (Shift d x s) = refl
order-back (Compose d x f) = refl
order-back (Open x) = refl

pub register_back : (r : Register) (ws : List ℕ) → register_of (register_words r ++ ws) ≡ Some r
unfolding register_of register_from ring_of
register_back Empty ws = refl
register_back (Number R13 x) ws = refl
register_back (Number R31 x) ws = refl
register_back (Number R61 x) ws = refl
register_back (Bits l x) ws = refl

rest_is : (r : Register) (ws : List ℕ) → drop 5 (register_words r ++ ws) ≡ ws
rest_is Empty ws = refl
rest_is (Number r x) ws = refl
rest_is (Bits l x) ws = refl

slots_back : (ss : List Register) (a b c : ℕ)
    → machine_from (length ss) (slots_words ss ++ (a ∷ b ∷ c ∷ []))
    ≡ Some (record { slots = ss; masks_at = a; channels_at = b; dealer_at = c })
unfolding machine_from slots_words
slots_back [] a b c = refl
slots_back (s ∷ ss) a b c = rw (append_assoc, register_back, rest_is, slots_back ss a b c)

pub machine_length : MachineLength
unfolding machine_words
machine_length m h = rw length-append (omega (arith, slots_length m.slots))

pub machine_back : MachineBack
unfolding machine_of machine_words
machine_back m h =
    rw (eq-eqb _ 83 (machine_length m h))
    (ap (λ (n : ℕ). machine_from n (machine_words m)) (sym h) ∙ slots_back m.slots m.masks_at m.channels_at m.dealer_at)

pub empty_is_zeros : EmptyIsZeros
unfolding empty_machine machine_words slots_words
empty_is_zeros = refl

-- a choice that gives z, by its test
chosen : {A P : Type 0} (b : Bool) {x y z : A} → (b ≡ true → x ≡ z → P) → (b ≡ false → y ≡ z → P) → cond b x y ≡ z → P
chosen true met unmet is = met refl is
chosen false met unmet is = unmet refl is

module _ (n : ℕ) (x : Sharing) (r : Register) where
  empty_written : empty_from n x ≡ Some r → register_words r ≡ 0 ∷ n ∷ x.s0 ∷ x.s1 ∷ x.s2 ∷ []
  empty_written =
      chosen (eqb n 0 && (eqb x.s0 0 && (eqb x.s1 0 && eqb x.s2 0)))
      (λ e is.
      let same : Empty ≡ r = cc in
      let others = right_true (eqb n 0) _ e in
      let last = right_true (eqb x.s0 0) _ others in
      let z = eqb-true n 0 (left_true (eqb n 0) _ e) in
      let z₀ = eqb-true x.s0 0 (left_true (eqb x.s0 0) _ others) in
      let z₁ = eqb-true x.s1 0 (left_true (eqb x.s1 0) _ last) in
      let z₂ = eqb-true x.s2 0 (right_true (eqb x.s1 0) _ last) in
      sym (ap register_words same) ∙ rw (z, z₀, z₁, z₂))
      (λ _ is. cc)

  number_written : (w : Option Ring) → ring_of n ≡ w → number_from w x ≡ Some r
      → register_words r ≡ 1 ∷ n ∷ x.s0 ∷ x.s1 ∷ x.s2 ∷ []
  number_written (Some q) e is =
      let same : Number q x ≡ r = cc in
      sym (ap register_words same) ∙ ap (λ (k : ℕ). 1 ∷ k ∷ x.s0 ∷ x.s1 ∷ x.s2 ∷ []) (sym (width_named n e))
  number_written None e is = cc

  register_written : (t : ℕ) → register_from t n x ≡ Some r → register_words r ≡ t ∷ n ∷ x.s0 ∷ x.s1 ∷ x.s2 ∷ []
  unfolding register_from
  register_written t =
      chosen (eqb t 0) (λ e is. rw (eqb-true t 0 e) (empty_written is))
      (λ _. chosen (eqb t 1) (λ e is. rw (eqb-true t 1 e) (number_written (ring_of n) refl is))
      (λ _. chosen (eqb t 2) (λ e is. let same : Bits n x ≡ r = cc in rw (eqb-true t 2 e) (sym (ap register_words same)))
      (λ _ is. cc)))

front_written : (ws : List ℕ) (r : Register) → 5 ≤ length ws → register_of ws ≡ Some r → register_words r ++ drop 5 ws ≡ ws
unfolding register_of
front_written [] r h is = absurd (omega arith)
front_written (t ∷ []) r h is = absurd (omega arith)
front_written (t ∷ n ∷ []) r h is = absurd (omega arith)
front_written (t ∷ n ∷ a ∷ []) r h is = absurd (omega arith)
front_written (t ∷ n ∷ a ∷ b ∷ []) r h is = absurd (omega arith)
front_written (t ∷ n ∷ a ∷ b ∷ c ∷ ws) r h is =
    ap (λ (l : List ℕ). l ++ ws) (register_written n (record { s0 = a; s1 = b; s2 = c }) r t is)

from_written : (n : ℕ) (ws : List ℕ) (m : Machine) → length ws ≡ 5 * n + 3 → machine_from n ws ≡ Some m
    → (machine_words m ≡ ws) × (length m.slots ≡ n)
unfolding machine_from machine_words slots_words
from_written zero [] m h is = absurd (omega arith)
from_written zero (a ∷ []) m h is = absurd (omega arith)
from_written zero (a ∷ b ∷ []) m h is = absurd (omega arith)
from_written zero (a ∷ b ∷ c ∷ []) m h is =
    let same : record { slots = []; masks_at = a; channels_at = b; dealer_at = c } ≡ m = cc in
    (ap machine_words (sym same), ap (λ (n : Machine). length n.slots) (sym same))
from_written zero (a ∷ b ∷ c ∷ d ∷ ws) m h is = absurd (omega arith)
from_written (suc n) ws m h is =
    go (register_of ws) (machine_from n (drop 5 ws)) refl (λ k. from_written n (drop 5 ws) k (rw length-drop (omega arith))) is
  where
    go : (q : Option Register) (f : Option Machine) → register_of ws ≡ q
        → ((k : Machine) → f ≡ Some k → (machine_words k ≡ drop 5 ws) × (length k.slots ≡ n))
        → before q f ≡ Some m → (machine_words m ≡ ws) × (length m.slots ≡ suc n)
    go (Some r) (Some k) er below is =
        let rest = below k refl in
        let same : record { slots = r ∷ k.slots; masks_at = k.masks_at; channels_at = k.channels_at; dealer_at = k.dealer_at } ≡ m = cc in (
          ap machine_words (sym same) ∙ rw append_assoc (ap (λ (l : List ℕ). register_words r ++ l) rest.0 ∙ front_written ws r (omega arith) er),
          ap (λ (j : Machine). length j.slots) (sym same) ∙ ap suc rest.1,
        )
    go (Some r) None er below is = let wrong : ◌≡◌ {A = ℕ} 0 1 = cc in absurd (omega arith)
    go None f er below is = let wrong : ◌≡◌ {A = ℕ} 0 1 = cc in absurd (omega arith)

pub machine_written : MachineWritten
unfolding machine_of
machine_written ws m =
    chosen (eqb (length ws) 83) (λ e. from_written 16 ws m (eqb-true (length ws) 83 e))
    (λ _ is. let wrong : ◌≡◌ {A = ℕ} 0 1 = cc in absurd (omega arith))

module _ (k a b c : ℕ) (o : Order) where
  kind : (q : Order) (j : ℕ) → order_words q ≡ j ∷ a ∷ b ∷ c ∷ [] → eqb k j ≡ true → Some q ≡ Some o
      → order_words o ≡ k ∷ a ∷ b ∷ c ∷ []
  kind q j words e is = let same : q ≡ o = cc in rw (eqb-true k j e) (sym (ap order_words same) ∙ words)

  opening : eqb k 9 ≡ true → open_from a b c ≡ Some o → order_words o ≡ k ∷ a ∷ b ∷ c ∷ []
  opening e =
      chosen (eqb b 0 && eqb c 0)
      (λ zeros is.
      let z = eqb-true b 0 (left_true (eqb b 0) _ zeros) in
      let z' = eqb-true c 0 (right_true (eqb b 0) _ zeros) in
      kind (Open a) 9 (rw (z, z')) e is)
      (λ _ is. cc)

  order_from_lem : order_from k a b c ≡ Some o → order_words o ≡ k ∷ a ∷ b ∷ c ∷ []
  unfolding order_from of_kind
  order_from_lem =
      chosen (eqb k 9) opening
      (λ _. chosen (eqb k 1) (kind (Deal a b c) 1 refl)
      (λ _. chosen (eqb k 2) (kind (Add a b c) 2 refl)
      (λ _. chosen (eqb k 3) (kind (Scale a b c) 3 refl)
      (λ _. chosen (eqb k 4) (kind (Multiply a b c) 4 refl)
      (λ _. chosen (eqb k 5) (kind (Decompose a b c) 5 refl)
      (λ _. chosen (eqb k 6) (kind (Convert a b c) 6 refl)
      (λ _. chosen (eqb k 7) (kind (Shift a b c) 7 refl)
      (λ _. chosen (eqb k 8) (kind (Compose a b c) 8 refl) (λ _ is. cc)))))))))

pub order-written : OrderWritten
unfolding order_of
order-written [] o is = cc
order-written (k ∷ []) o is = cc
order-written (k ∷ a ∷ []) o is = cc
order-written (k ∷ a ∷ b ∷ []) o is = cc
order-written (k ∷ a ∷ b ∷ c ∷ []) o is = order_from_lem k a b c o is
order-written (k ∷ a ∷ b ∷ c ∷ d ∷ ws) o is =
    let wrong = rw (ne_eqb (length (k ∷ a ∷ b ∷ c ∷ d ∷ ws)) 4 (λ e. omega arith)) at is in cc
