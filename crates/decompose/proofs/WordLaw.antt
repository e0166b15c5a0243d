-- The low bits of a word, as the code computes them by a mask.
use Prim.Native.Nat.{ℕ, ◌*◌, ◌-◌, ◌/◌, ◌%◌, ◌<◌, ◌^◌}
use mathlib.Core.Path.{◌≡◌}
use native.Mathlib.Nat.{mod-lt}
use lib.Bits.{and_mask, bit_and, bit_xor}
use lib.Pow.{pow_pos}
use Rattle.ring.proofs.WordLaw.{shifted_one}
use Rattle.decompose.specs.Words.{upper}

-- the low bits by the mask
pub upper_is : (total raising : ℕ) {l : ℕ} → l < 64
    → bit_and (bit_xor (total / 4) raising) ((1 * 2 ^ l) % 2 ^ 64 - 1) ≡ upper total raising l
unfolding upper
upper_is total raising {l} h = rw (shifted_one l h) (and_mask (bit_xor (total / 4) raising) l)

pub upper_lt : (total raising l : ℕ) → upper total raising l < 2 ^ l
unfolding upper
upper_lt total raising l = mod-lt (bit_xor (total / 4) raising) (pow_pos l)
