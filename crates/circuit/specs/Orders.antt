-- 01, "The nine orders": orders 2 to 8 as circuits. p is the modulus of width e, p' that of width f.
use Rattle.std.specs.Prelude.{ℕ, zero, suc, ◌+◌, ◌*◌, ◌-◌, ◌%◌, [], ◌∷◌, ◌++◌, map}
use Rattle.ring.specs.Modular.{diff}
use Rattle.ring.specs.Rings.{bit_of, modulus, quarter}
use Rattle.gate.specs.Places.{Place, p0, p1, p2}
use Rattle.circuit.specs.Bits.{alone, gather, xor}
use Rattle.circuit.specs.Circuits.{Circuit, Gate}
use Rattle.circuit.specs.Compose.{Summing, compose_gates, summing_start}
use Rattle.circuit.specs.Decompose.{Digits, decompose_gates, digit, digits_start, majority}

-- the sub-shares of two sources at a place
pub record Both : Type 0 where
  pub x : ℕ
  pub y : ℕ

-- 2. "sub-share by sub-share"
unfoldable pub addition : ℕ → Circuit
addition p = record { State = Both; start = λ x y. record { x = x; y = y }; gates = []; finish = λ i s. (s.x + s.y) % p }

-- 3. "by a public c below p"
unfoldable pub scaling : ℕ → ℕ → Circuit
scaling p c = record { State = ℕ; start = λ x y. x; gates = []; finish = λ i x. x * c % p }

-- 4. "one gate": the word is the new sub-share
unfoldable pub multiplication : ℕ → Circuit
multiplication p =
    record {
      State = Both;
      start = λ x y. record { x = x; y = y };
      gates = record { modulus = p; left = λ i s. s.x; right = λ i s. s.y; absorb = λ i s z. record { x = z; y = 0 } } ∷ [];
      finish = λ i s. s.x;
    }

-- a total of whole numbers
abbrev pub summed : (Place → ℕ) → ℕ
summed x = x p0 + x p1 + x p2

-- orders 5 and 6: X = x_0 + x_1 + x_2 "as whole numbers", x_i = 4 a_i modulo p
abbrev pub lifted : ℕ → (Place → ℕ) → ℕ
lifted e a = summed (λ i. 4 * a i % modulus e)

-- 5. into l bits
unfoldable pub decomposition : ℕ → ℕ → Circuit
decomposition e l =
    record {
      State = Digits;
      start = λ a y. digits_start (4 * a % modulus e);
      gates = decompose_gates l;
      finish = λ i s. gather l (digit i s);
    }

-- 6. to ring width f: x_i, r_i = -x_i modulo 4, and the carry of its bits 0
pub record Quotient : Type 0 where
  pub x : ℕ
  pub r : ℕ
  pub carry : ℕ

abbrev pub quotient_start : ℕ → Quotient
quotient_start x = record { x = x; r = diff 4 0 x; carry = 0 }

-- "one majority gate on bits 0 of r_0, r_1 and r_2"
abbrev pub low_bit : Place → Place → Summing Quotient → ℕ
low_bit k i s = alone k i (bit_of s.kept.r 0)

unfoldable pub quotient_gate : Gate (Summing Quotient)
quotient_gate =
    majority (low_bit p0) (low_bit p1) (low_bit p2)
    (λ s b. record { kept = record { x = s.kept.x; r = s.kept.r; carry = b }; half = s.half; sum = s.sum })

-- "q is the total of the r_i modulo 4": its two bits
abbrev pub quotient_bit : Place → Quotient → ℕ → ℕ
quotient_bit i s zero = bit_of s.r 0
quotient_bit i s (suc j) = xor (bit_of s.r 1) s.carry

-- "then the two bits of q become ring shares, bit 0 first, as in order 8. Sub-share i is 4^(-1) × (x_i - p q_i) modulo p'"
unfoldable pub conversion : ℕ → ℕ → Circuit
conversion e f =
    record {
      State = Summing Quotient;
      start = λ a y. summing_start (quotient_start (4 * a % modulus e));
      gates = quotient_gate ∷ compose_gates quotient_bit (modulus f) 0 2;
      finish = λ i s. quarter f * diff (modulus f) s.kept.x (modulus e * s.sum) % modulus f;
    }

-- 8. "Weights 2^j modulo p'"
abbrev pub word_bit : Place → ℕ → ℕ → ℕ
word_bit i w j = bit_of w j

unfoldable pub composition : ℕ → ℕ → Circuit
composition f l =
    record {
      State = Summing ℕ;
      start = λ w y. summing_start w;
      gates = compose_gates word_bit (modulus f) 0 l;
      finish = λ i s. s.sum;
    }

-- a gate of a decomposition whose bits are composed later
abbrev pub within : Gate Digits → Gate (Summing Digits)
within g =
    record {
      modulus = g.modulus;
      left = λ i s. g.left i s.kept;
      right = λ i s. g.right i s.kept;
      absorb = λ i s z. record { kept = g.absorb i s.kept z; half = s.half; sum = s.sum };
    }

-- 7. "decompose with l = e-2, then compose bits s and up with weights 2^(j-s) in the same ring"
unfoldable pub shifting : ℕ → ℕ → Circuit
shifting e s =
    record {
      State = Summing Digits;
      start = λ a y. summing_start (digits_start (4 * a % modulus e));
      gates = map within (decompose_gates (e - 2)) ++ compose_gates digit (modulus e) s (e - 2 - s);
      finish = λ i s. s.sum;
    }
