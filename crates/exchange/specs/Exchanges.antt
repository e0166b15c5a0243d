-- 01, "Why an order is refused": the checks of orders 1 and 9 over numbers and lengths alone, and what a deal leaves.
-- Used by the code's contracts alone: no theorem's statement speaks of it.
use Rattle.std.specs.Prelude.{ℕ, ◌+◌, Bool, ◌||◌, List, [], ◌∷◌, ◌++◌, ◌≡◌, leb, ltb, get_or}
use Rattle.ring.specs.Rings.{modulus, ring_of}
use Rattle.gate.specs.Places.{Place}
use Rattle.machine.specs.Checks.{Check, check, is_empty, no_ring, too_few, uneven}
use Rattle.machine.specs.Registers.{kind_of, million, register_of, sound}
use Rattle.machine.specs.Step.{dealt_shares}
use Rattle.machine.specs.Work.{number_kind}
use Rattle.machine.specs.declared.registers.Machine.{Machine}
use Rattle.machine.specs.declared.registers.Register.{Register}
use Rattle.order.specs.Attempts.{begin_checks}

-- what a deal reads of a record: whether it is sound, and the dealer's position
pub record Dealing (m : Machine) (sure : Bool) (at : ℕ) : Type 0 where
  pub sound : sure ≡ sound m
  pub place : at ≡ m.dealer_at

-- "8 the dealer's tape has over 1,000,000 words; 9 fewer than two items left": n words
abbrev pub tape_checks : (n at : ℕ) → List Check
tape_checks n at = check (ltb million n) 8 ∷ check (ltb n (at + 2)) 9 ∷ []

-- "7 v is p or more", those, and "10 an item is p or more": r₀ and r₁ the next two
abbrev pub number_checks : (p v n at r₀ r₁ : ℕ) → List Check
number_checks p v n at r₀ r₁ = check (leb p v) 7 ∷ (tape_checks n at ++ (check (leb p r₀ || leb p r₁) 10 ∷ []))

-- "Deal: 5 e is no ring", and those, of what is left of the dealer's tape
abbrev pub own_checks : (at e v n : ℕ) → (left : List ℕ) → List Check
own_checks at e v n left = check (no_ring (ring_of e)) 5 ∷ number_checks (modulus e) v n at (get_or left 0 0) (get_or left 1 0)

-- "8 and 11 for the wires", of these lengths
abbrev pub channel_checks : (n : Place → ℕ) → ℕ → List Check
channel_checks n at = check (uneven n) 8 ∷ check (too_few n at 1) 11 ∷ []

-- "Open: 3", and those
abbrev pub open_checks : (sure : Bool) (x : ℕ) (a : Register) (at : ℕ) (n : Place → ℕ) → List Check
open_checks sure x a at n = begin_checks sure (x ∷ []) ++ (check (is_empty (kind_of a)) 3 ∷ channel_checks n at)

-- "sub-shares r0, r1, v - r0 - r1 modulo p"
abbrev pub dealt_register : (e v r₀ r₁ : ℕ) → Register
dealt_register e v r₀ r₁ = register_of (number_kind (ring_of e)) (dealt_shares (modulus e) v r₀ r₁)
