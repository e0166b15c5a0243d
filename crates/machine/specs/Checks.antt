-- 01, "Why an order is refused": the checks of each kind, in the order written.
use Rattle.std.specs.Prelude.{ℕ, ◌+◌, ◌-◌, Bool, cond, false, not, true, ◌&&◌, ◌||◌, List, [], ◌∷◌, ◌++◌, eqb, leb, ltb, drop, get_or, Some, None, Option}
use Rattle.ring.specs.declared.rings.Ring.{Ring}
use Rattle.ring.specs.Rings.{modulus, ring_of}
use Rattle.gate.specs.Places.{Place, p0, p1, p2, tabled}
use Rattle.circuit.specs.Circuits.{gates_of, moduli}
use Rattle.machine.specs.Registers.{Kind, Public, bits, empty, kind_at, million, number, width_at}
use Rattle.machine.specs.Work.{Work, adjusts, computes, deals, opens, work_of}
use Rattle.machine.specs.declared.orders.Order.{Order}
use Rattle.machine.specs.declared.orders.Order.TheVariants.{Add, Compose, Convert, Deal, Decompose, Multiply, Open, Scale, Shift}

-- a check: whether it is met, and the number that it refuses with
pub record Check : Type 0 where
  pub met : Bool
  pub refusal : ℕ

abbrev pub check : Bool → ℕ → Check
check b n = record { met = b; refusal = n }

-- the first that is met, or 0
unfoldable pub first_met : List Check → ℕ
first_met [] = 0
first_met (c ∷ cs) = cond c.met c.refusal (first_met cs)

-- what is lent: "Strands, dealer's tape and wires are lent as runs of 64-bit words"
pub record Tapes : Type 0 where
  pub masks : Place → List ℕ
  pub dealer : List ℕ

-- what is public of that
pub record Lengths : Type 0 where
  pub masks : Place → ℕ
  pub dealer : ℕ
  pub channels : Place → ℕ

-- the registers that an order names
abbrev pub named : Order → List ℕ
named (Deal d e v) = d ∷ []
named (Add d x y) = d ∷ x ∷ y ∷ []
named (Scale d x c) = d ∷ x ∷ []
named (Multiply d x y) = d ∷ x ∷ y ∷ []
named (Decompose d x l) = d ∷ x ∷ []
named (Convert d x f) = d ∷ x ∷ []
named (Shift d x s) = d ∷ x ∷ []
named (Compose d x f) = d ∷ x ∷ []
named (Open x) = x ∷ []

-- "2 a register number above 15"
unfoldable pub any_above15 : List ℕ → Bool
any_above15 [] = false
any_above15 (k ∷ ks) = ltb 15 k || any_above15 ks

abbrev pub is_empty : Kind → Bool
is_empty empty = true
is_empty (number r) = false
is_empty (bits l) = false

abbrev pub is_number : Kind → Bool
is_number empty = false
is_number (number r) = true
is_number (bits l) = false

abbrev pub is_bits : Kind → Bool
is_bits empty = false
is_bits (number r) = false
is_bits (bits l) = true

abbrev pub no_ring : Option Ring → Bool
no_ring (Some r) = false
no_ring None = true

-- "Add, multiply: 3 a source empty; 4 a source is bits; 6 rings differ"
abbrev pub two_numbers : Kind → Kind → List Check
two_numbers x y =
    check (is_empty x || is_empty y) 3
    ∷ check (is_bits x || is_bits y) 4
    ∷ check (not (eqb (width_at x) (width_at y))) 6
    ∷ []

-- "Scale, Decompose, shift, Convert: 3; 4; ..": a source that must be a number
abbrev pub a_number : Kind → List Check
a_number x = check (is_empty x) 3 ∷ check (is_bits x) 4 ∷ []

-- the checks of kinds, rings and the order's own numbers
abbrev pub kind_checks : Order → Public → List Check
kind_checks (Deal d e v) p = check (no_ring (ring_of e)) 5 ∷ check (leb (modulus e) v) 7 ∷ []
kind_checks (Add d x y) p = two_numbers (kind_at p x) (kind_at p y)
kind_checks (Scale d x c) p = a_number (kind_at p x) ++ (check (leb (modulus (width_at (kind_at p x))) c) 7 ∷ [])
kind_checks (Multiply d x y) p = two_numbers (kind_at p x) (kind_at p y)
kind_checks (Decompose d x l) p =
    a_number (kind_at p x) ++ (check (not (leb 1 l && leb l (width_at (kind_at p x) - 2))) 7 ∷ [])
kind_checks (Convert d x f) p = a_number (kind_at p x) ++ (check (no_ring (ring_of f)) 5 ∷ [])
kind_checks (Shift d x s) p = a_number (kind_at p x) ++ (check (not (leb s (width_at (kind_at p x) - 3))) 7 ∷ [])
kind_checks (Compose d x f) p =
    check (is_empty (kind_at p x)) 3 ∷ check (is_number (kind_at p x)) 4 ∷ check (no_ring (ring_of f)) 5 ∷ []
kind_checks (Open x) p = check (is_empty (kind_at p x)) 3 ∷ []

-- "of unequal length, .. or any over 1,000,000 words"
abbrev pub uneven : (Place → ℕ) → Bool
uneven n = not (eqb (n p0) (n p1)) || (not (eqb (n p1) (n p2)) || ltb million (n p0))

-- "fewer items left than the whole order takes": n of them from a position on
abbrev pub too_few : (Place → ℕ) → ℕ → ℕ → Bool
too_few lengths at n = ltb (lengths p0) (at + n)

-- "All with gates, last: 8 ..; 9 ..; 11 ..", for n gates
abbrev pub gate_checks : ℕ → Public → Lengths → List Check
gate_checks n p len =
    check (uneven len.masks || uneven len.channels) 8
    ∷ check (too_few len.masks p.masks_at n) 9
    ∷ check (too_few len.channels p.channels_at n) 11
    ∷ []

-- the checks of lengths
abbrev pub length_checks : Work → Public → Lengths → List Check
length_checks (deals d e v) p len =
    check (ltb million len.dealer) 8 ∷ check (ltb len.dealer (p.dealer_at + 2)) 9 ∷ []
length_checks (adjusts C d x y kind) p len = []
length_checks (computes C d x y kind) p len = gate_checks (gates_of C) p len
length_checks (opens x) p len =
    check (uneven len.channels) 8 ∷ check (too_few len.channels p.channels_at 1) 11 ∷ []

-- what is left of the tapes from two positions on, and from the record's
abbrev pub left_from : (masks_at dealer_at : ℕ) → Tapes → Tapes
left_from masks_at dealer_at T = record { masks = tabled (λ i. drop masks_at (T.masks i)); dealer = drop dealer_at T.dealer }

abbrev pub left_of : Public → Tapes → Tapes
left_of p T = left_from p.masks_at p.dealer_at T

-- "10 .. some item it would take is out of range": the items of a tape against the gates' moduli
unfoldable pub any_outside : List ℕ → List ℕ → Bool
any_outside [] items = false
any_outside (m ∷ ms) items = leb m (get_or items 0 0) || any_outside ms (drop 1 items)

-- and of the three tapes
unfoldable pub any_bad : List ℕ → (Place → List ℕ) → Bool
any_bad ms T = any_outside ms (T p0) || (any_outside ms (T p1) || any_outside ms (T p2))

-- "10 an item is p or more", of a deal; and of an order with gates
abbrev pub bad_item : Work → Tapes → Bool
bad_item (deals d e v) left = leb (modulus e) (get_or left.dealer 0 0) || leb (modulus e) (get_or left.dealer 1 0)
bad_item (adjusts C d x y kind) left = false
bad_item (computes C d x y kind) left = any_bad (moduli C.gates) left.masks
bad_item (opens x) left = false

-- all that stands between 1 and 10: a function of what is public, but for the number of a deal
unfoldable pub public_checks : Order → Public → Lengths → List Check
public_checks o p len = check (any_above15 (named o)) 2 ∷ (kind_checks o p ++ length_checks (work_of o p) p len)
