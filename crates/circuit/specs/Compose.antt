-- 01, order 8: the gates that turn shared bits into a ring number, two a bit.
use Rattle.std.specs.Prelude.{ℕ, zero, suc, ◌+◌, ◌*◌, ◌%◌, ◌^◌, List, [], ◌∷◌, ◌++◌}
use Rattle.ring.specs.Modular.{diff}
use Rattle.gate.specs.Places.{Place, p0, p1, p2}
use Rattle.circuit.specs.Bits.{alone}
use Rattle.circuit.specs.Circuits.{Gate}

-- what a place keeps: what its bits are read from, the exclusive or of sub-shares 0 and 1 of the bit at hand, and the sum so far
pub record Summing (K : Type 0) : Type 0 where
  pub kept : K
  pub half : ℕ
  pub sum : ℕ

-- "by u + v - 2uv", uv being the gate's product
abbrev pub joined : ℕ → ℕ → ℕ → ℕ → ℕ
joined m u v uv = diff m (u + v) (2 * uv)

-- bit j "is the exclusive or of its three local ring shares": of sub-share k, shared
abbrev pub local : {K : Type 0} → (Place → K → ℕ → ℕ) → Place → ℕ → Place → Summing K → ℕ
local read k j i s = alone k i (read i s.kept j)

-- "sub-share 0 with 1"
unfoldable pub first_gate : {K : Type 0} → (Place → K → ℕ → ℕ) → ℕ → ℕ → Gate (Summing K)
first_gate read m j =
    record {
      modulus = m;
      left = local read p0 j;
      right = local read p1 j;
      absorb = λ i s z. record { kept = s.kept; half = joined m (local read p0 j i s) (local read p1 j i s) z; sum = s.sum };
    }

-- "then with 2", and the bit's weight
unfoldable pub second_gate : {K : Type 0} → (Place → K → ℕ → ℕ) → ℕ → ℕ → ℕ → Gate (Summing K)
second_gate read m j weight =
    record {
      modulus = m;
      left = λ i s. s.half;
      right = local read p2 j;
      absorb = λ i s z. record {
        kept = s.kept;
        half = s.half;
        sum = (s.sum + weight * joined m s.half (local read p2 j i s) z) % m;
      };
    }

-- bits from, from + 1, .. rising, `count` of them, "weights 2^j modulo p'" from the first on
unfoldable pub compose_gates : {K : Type 0} → (Place → K → ℕ → ℕ) → ℕ → ℕ → ℕ → List (Gate (Summing K))
compose_gates read m from zero = []
compose_gates read m from (suc k) =
    compose_gates read m from k ++ (first_gate read m (from + k) ∷ second_gate read m (from + k) (2 ^ k % m) ∷ [])

abbrev pub summing_start : {K : Type 0} → K → Summing K
summing_start k = record { kept = k; half = 0; sum = 0 }
