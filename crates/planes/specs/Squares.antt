-- 64 x 64 bits, a row a word, transposed by exchanging blocks.
-- Used by the code's contracts alone: no theorem's statement speaks of it.
use Rattle.std.specs.Prelude.{ℕ, ◌+◌, ◌*◌, ◌/◌, ◌%◌, ◌^◌, ◌<◌, ◌≤◌, ◌≡◌, List, get_or}
use Rattle.std.specs.Int.Bits.{bit_and, bit_xor}
use Rattle.ring.specs.Rings.{bit_of}

-- bit c of row r
abbrev pub cell : List ℕ → ℕ → ℕ → ℕ
cell rows r c = bit_of (get_or rows r 0) c

-- bit c of row r becomes bit r of row c
pub record Transposed (before after : List ℕ) : Type 0 where
  pub is : (r c : ℕ) → r < 64 → c < 64 → cell after c r ≡ cell before r c

-- bit j of m is set where j / h is odd
pub record Striped (h m : ℕ) : Type 0 where
  pub even : (u l : ℕ) → l < h → bit_of m (u * (2 * h) + l) ≡ 0
  pub odd : (u l : ℕ) → l < h → u * (2 * h) + 2 * h ≤ 64 → bit_of m (u * (2 * h) + l + h) ≡ 1

-- where two rows differ that change places, in the columns of a
unfoldable pub flips : ℕ → ℕ → ℕ → ℕ → ℕ
flips h m a b = bit_and (bit_xor a ((b * 2 ^ h) % 2 ^ 64)) m

-- the two rows after the exchange
unfoldable pub upper_row : ℕ → ℕ → ℕ → ℕ → ℕ
upper_row h m a b = bit_xor a (flips h m a b)

unfoldable pub lower_row : ℕ → ℕ → ℕ → ℕ → ℕ
lower_row h m a b = bit_xor b (flips h m a b / 2 ^ h)

-- n pairs of rows from `at` on exchanged, h apart
pub record Exchanged (h m at n : ℕ) (before after : List ℕ) : Type 0 where
  pub upper : (l : ℕ) → l < n → get_or after (at + l) 0 ≡ upper_row h m (get_or before (at + l) 0) (get_or before (at + h + l) 0)
  pub lower : (l : ℕ) → l < n → get_or after (at + h + l) 0 ≡ lower_row h m (get_or before (at + l) 0) (get_or before (at + h + l) 0)
  pub first : (x : ℕ) → x < at → get_or after x 0 ≡ get_or before x 0
  pub middle : (x : ℕ) → at + n ≤ x → x < at + h → get_or after x 0 ≡ get_or before x 0
  pub last : (x : ℕ) → at + h + n ≤ x → get_or after x 0 ≡ get_or before x 0

-- n blocks of 2 h rows, in each of which the pairs are exchanged
pub record Levelled (h m n : ℕ) (before after : List ℕ) : Type 0 where
  pub upper : (q l : ℕ) → q < n → l < h
      → get_or after (q * (2 * h) + l) 0 ≡ upper_row h m (get_or before (q * (2 * h) + l) 0) (get_or before (q * (2 * h) + h + l) 0)
  pub lower : (q l : ℕ) → q < n → l < h
      → get_or after (q * (2 * h) + h + l) 0 ≡ lower_row h m (get_or before (q * (2 * h) + l) 0) (get_or before (q * (2 * h) + h + l) 0)
  pub rest : (x : ℕ) → n * (2 * h) ≤ x → get_or after x 0 ≡ get_or before x 0

-- each block of n rows and n columns transposed by itself, of `height` rows
pub record BlocksTransposed (n height : ℕ) (before after : List ℕ) : Type 0 where
  pub is : (q u r l : ℕ) → r < n → l < n → q * n + n ≤ height → u * n + n ≤ 64
      → cell after (q * n + r) (u * n + l) ≡ cell before (q * n + l) (u * n + r)
