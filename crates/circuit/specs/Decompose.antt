-- 01, order 5: the gates of a decomposition into l bits, over the low n = l + 2 bits of x_i = 4 a_i modulo p.
use Rattle.std.specs.Prelude.{ℕ, ◌+◌, ◌*◌, ◌-◌, ◌^◌, List, ◌∷◌, ◌++◌}
use Rattle.ring.specs.Rings.{bit_of}
use Rattle.gate.specs.Places.{Place, p0, p1, p2}
use Rattle.circuit.specs.Bits.{alone, xor}
use Rattle.circuit.specs.Circuits.{Gate, upto}

-- "The majority of x, y, c is c XOR ((x XOR c) AND (y XOR c)), one gate": of shared bits, its share kept by `keep`
abbrev pub majority : {S : Type 0} → (x y c : Place → S → ℕ) → (S → ℕ → S) → Gate S
majority x y c keep =
    record {
      modulus = 2;
      left = λ i s. xor (x i s) (c i s);
      right = λ i s. xor (y i s) (c i s);
      absorb = λ i s z. keep s (xor (c i s) z);
    }

-- what a place keeps: x_i, and its words of shared bits: carries, running carries, and carries of the increment
pub record Digits : Type 0 where
  pub x : ℕ
  pub carries : ℕ
  pub running : ℕ
  pub raising : ℕ

-- bit j of x_k, shared
abbrev pub known : Place → ℕ → Place → Digits → ℕ
known k j i s = alone k i (bit_of s.x j)

-- (i) "for j = 0 to n-2 the majority of the three bits j, of x_0, x_1 and x_2, which is carry j+1, carry 0 being 0"
unfoldable pub carry_gate : ℕ → Gate Digits
carry_gate j =
    majority (known p0 j) (known p1 j) (known p2 j)
    (λ s b. record { x = s.x; carries = s.carries + b * 2 ^ (j + 1); running = s.running; raising = s.raising })

-- "with the three-way exclusive or as sum bit"
abbrev pub sum_bit : ℕ → Place → Digits → ℕ
sum_bit j i s = xor (xor (known p0 j i s) (known p1 j i s)) (known p2 j i s)

-- (ii) "for j = 1 to n-2 the majority of sum bit, carry and running carry, which starts at 0"
unfoldable pub running_gate : ℕ → Gate Digits
running_gate j =
    majority (sum_bit j) (λ i s. bit_of s.carries j) (λ i s. bit_of s.running j)
    (λ s b. record { x = s.x; carries = s.carries; running = s.running + b * 2 ^ (j + 1); raising = s.raising })

-- "giving the total T modulo 2^n": bit j of T
abbrev pub total_bit : ℕ → Place → Digits → ℕ
total_bit j i s = xor (xor (sum_bit j i s) (bit_of s.carries j)) (bit_of s.running j)

-- (iii) "z = T0 OR T1 as T0 XOR T1 XOR (T0 AND T1)", the first carry of the increment
unfoldable pub zero_gate : Gate Digits
zero_gate =
    record {
      modulus = 2;
      left = total_bit 0;
      right = total_bit 1;
      absorb = λ i s z. record {
        x = s.x;
        carries = s.carries;
        running = s.running;
        raising = xor (xor (total_bit 0 i s) (total_bit 1 i s)) z;
      };
    }

-- (iv) "the bits of T from 2 up, plus z, by half adders": bit j + 2 of T and carry j of the increment give carry j + 1
unfoldable pub raising_gate : ℕ → Gate Digits
raising_gate j =
    record {
      modulus = 2;
      left = total_bit (j + 2);
      right = λ i s. bit_of s.raising j;
      absorb = λ i s z. record { x = s.x; carries = s.carries; running = s.running; raising = s.raising + z * 2 ^ (j + 1) };
    }

-- bit j of the result
abbrev pub digit : Place → Digits → ℕ → ℕ
digit i s j = xor (total_bit (j + 2) i s) (bit_of s.raising j)

-- the gates in order, 3l + 1 in all
unfoldable pub decompose_gates : ℕ → List (Gate Digits)
decompose_gates l =
    upto carry_gate (l + 1) ++ (upto (λ k. running_gate (k + 1)) l ++ (zero_gate ∷ upto raising_gate (l - 1)))

abbrev pub digits_start : ℕ → Digits
digits_start x = record { x = x; carries = 0; running = 0; raising = 0 }
