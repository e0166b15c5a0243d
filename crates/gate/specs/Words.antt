-- The gate on words of bits: bit k of every word is figure k's.
-- Used by the code's contracts alone: no theorem's statement speaks of it.
use Rattle.std.specs.Prelude.{ℕ, ◌<◌, ◌≡◌}
use Rattle.ring.specs.Rings.{bit_of}
use Rattle.gate.specs.Gates.{gated, word}
use Rattle.gate.specs.Places.{InRange, Pair, pair, parts, sharing}
use Rattle.gate.specs.declared.sharing.Sharing.{Sharing}

-- bit k of a party's two words, and of the words of three
abbrev pub pair_at : ℕ → ℕ → ℕ → Pair
pair_at own far k = pair (bit_of own k) (bit_of far k)

abbrev pub bits_at : Sharing → ℕ → Sharing
bits_at w k = record { s0 = bit_of w.s0 k; s1 = bit_of w.s1 k; s2 = bit_of w.s2 k }

-- z is a party's word of the gate for each figure
pub record Sliced (x xf y yf t tf z : ℕ) : Type 0 where
  pub at : (k : ℕ) → bit_of z k ≡ word 2 (pair_at x xf k) (pair_at y yf k) (pair_at t tf k)

-- z are the gate's words for each figure
pub record GateWords (x y t z : Sharing) : Type 0 where
  pub at : (k : ℕ) → bits_at z k ≡ sharing (gated 2 (parts (bits_at x k)) (parts (bits_at y k)) (parts (bits_at t k)))

-- and so where there is one figure alone, whose words are bits: of one party, and of three
pub record BitWord (x xf y yf t tf z : ℕ) : Type 0 where
  pub is : z ≡ word 2 (pair x xf) (pair y yf) (pair t tf)
  pub below : z < 2

pub record BitWords (x y t z : Sharing) : Type 0 where
  pub is : z ≡ sharing (gated 2 (parts x) (parts y) (parts t))
  pub below : InRange 2 z
