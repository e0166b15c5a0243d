-- 01, order 6, on lent runs: the carry's gate, and the two bits of q as one word a place.
-- Used by the code's contracts alone: no theorem's statement speaks of it.
use Rattle.std.specs.Prelude.{ℕ, ◌+◌, ◌*◌, List, [], ◌∷◌, ◌≡◌, set}
use Rattle.ring.specs.Modular.{diff}
use Rattle.ring.specs.Rings.{bit_of}
use Rattle.gate.specs.Gates.{gated}
use Rattle.gate.specs.Places.{Place, p0, p1, p2, parts, tabled}
use Rattle.gate.specs.declared.sharing.Sharing.{Sharing}
use Rattle.circuit.specs.Bits.{alone, xor}
use Rattle.circuit.specs.Circuits.{heads}
use Rattle.circuit.specs.Compose.{summing_start}
use Rattle.circuit.specs.Lent.{Ran}
use Rattle.circuit.specs.Orders.{Quotient, quotient_gate, quotient_start}

-- order 6, "bits 0 of r_0, r_1 and r_2": that of r_k, shared
abbrev pub low : Place → (Place → ℕ) → Place → ℕ
low k r i = alone k i (bit_of (r i) 0)

-- order 6, "one majority gate": its words, with items t
unfoldable pub carry_words : (Place → ℕ) → (Place → ℕ) → Place → ℕ
carry_words r t = gated 2 (tabled (λ i. xor (low p0 r i) (low p2 r i))) (tabled (λ i. xor (low p1 r i) (low p2 r i))) t

-- order 6: that gate leaves the shares k of the carry, and its words at the heads of the channels
pub record Carries (r : Place → ℕ) (T c : Place → List ℕ) (k : Sharing) (d : Place → List ℕ) : Type 0 where
  pub is : (i : Place) → parts k i ≡ xor (low p2 r i) (carry_words r (heads T) i)
  pub stored : (i : Place) → d i ≡ set (c i) 0 (carry_words r (heads T) i)

-- order 6, "the two bits of q": a place's word of them, from r_i and its share of the carry
unfoldable pub quotient_with : ℕ → ℕ → ℕ
quotient_with r carry = bit_of r 0 + 2 * xor (bit_of r 1) carry

-- order 6: what a place keeps once it has its share k of the carry
abbrev pub carried : ℕ → ℕ → Quotient
carried x k = record { x = x; r = diff 4 0 x; carry = k }

-- order 6, "q is the total of the r_i modulo 4": from the x_i the gate leaves the words q of its bits, and channels d
pub record Quoted (x : Place → ℕ) (T c : Place → List ℕ) (q : Sharing) (d : Place → List ℕ) : Type 0 where
  pub carry : Place → ℕ
  pub ran : Ran (quotient_gate ∷ []) (tabled (λ i. summing_start (quotient_start (x i)))) T c (tabled (λ i. summing_start (carried (x i) (carry i)))) d
  pub is : (i : Place) → parts q i ≡ quotient_with (diff 4 0 (x i)) (carry i)
