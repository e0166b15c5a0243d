-- Single bits that are shared modulo 2, and words made of them.
use Rattle.std.specs.Prelude.{ℕ, zero, suc, ◌+◌, ◌*◌, ◌%◌, ◌^◌}
use Rattle.gate.specs.Places.{Place, p0, p1, p2, three}
use Rattle.std.specs.Int.Bits.{bit_xor}

-- XOR of two bits
abbrev pub xor : ℕ → ℕ → ℕ
xor a b = (a + b) % 2

-- "A value known from sub-share i alone is shared by putting it at place i and 0 elsewhere": known at k, this is the share at i
abbrev pub alone : Place → Place → ℕ → ℕ
alone p0 i v = three v 0 0 i
alone p1 i v = three 0 v 0 i
alone p2 i v = three 0 0 v i

-- the word of n bits whose bit j is b j
unfoldable pub gather : ℕ → (ℕ → ℕ) → ℕ
gather zero b = 0
gather (suc n) b = gather n b + b n * 2 ^ n

-- "A bits register .. holds three words ..; its value is their exclusive or"
unfoldable pub exclusive : (Place → ℕ) → ℕ
exclusive w = bit_xor (bit_xor (w p0) (w p1)) (w p2)
