-- Bits of words that are shifted, masked and exchanged.
use Prim.Native.Nat.{ℕ, ◌+◌, ◌*◌, ◌-◌, ◌/◌, ◌%◌, ◌<◌, ◌≤◌, ◌^◌}
use mathlib.Core.Path.{◌≡◌, ap, sym, ◌∙◌}
use native.Mathlib.Nat.{add_comm, div-eq_of_lt, mod-lt}
use native.Mathlib.Omega.{arith}
use lib.Bits.{and_mod, and_shr, bit_and, bit_xor}
use lib.Dec.{lit<}
use lib.Pow.{field, mod-mod-pow, pow_mono, shl-shr, shr-shr}
use Rattle.ring.specs.Rings.{bit_of}
use Rattle.ring.proofs.BitLaw.{and_bit}
use Rattle.circuit.proofs.BitsLaw.{bit_lt, bit_of-xor}
use Rattle.planes.specs.Squares.{flips, lower_row, upper_row}

-- no bit from n on of a number below 2^n
pub bit_above : (n w j : ℕ) → w < 2 ^ n → n ≤ j → bit_of w j ≡ 0
unfolding bit_of
bit_above n w j small far =
    let room : 2 ^ n ≤ 2 ^ j = pow_mono {i = n} far in
    let less : w < 2 ^ j = omega arith in
    ap (λ (m : ℕ). m % 2) (div-eq_of_lt less)

-- bit j of an and
bit_of-and : (a b j : ℕ) → bit_of (bit_and a b) j ≡ bit_of a j * bit_of b j
unfolding bit_of
bit_of-and a b j =
    ap (λ (n : ℕ). n % 2) (and_shr a b j)
    ∙ and_mod (a / 2 ^ j) (b / 2 ^ j) 1
    ∙ and_bit (mod-lt (a / 2 ^ j) (lit< tt)) (mod-lt (b / 2 ^ j) (lit< tt))

-- of a word shifted right
pub bit_shr : (a h j : ℕ) → bit_of (a / 2 ^ h) j ≡ bit_of a (j + h)
unfolding bit_of
bit_shr a h j = ap (λ (n : ℕ). n % 2) (shr-shr a h j ∙ ap (λ (n : ℕ). a / 2 ^ n) (add_comm h j))

-- of what is left of a number in m bits
bit_mod : (m n k : ℕ) → k < m → bit_of (n % 2 ^ m) k ≡ bit_of n k
unfolding bit_of
bit_mod m n k inside =
    let j : ℕ = m - (k + 1) in
    let e : j + 1 + k ≡ m = omega arith in
    ap (λ (w : ℕ). n % 2 ^ w / 2 ^ k % 2) (sym e)
    ∙ ap (λ (w : ℕ). w % 2) (field n (j + 1) k)
    ∙ mod-mod-pow (n / 2 ^ k) j 1

-- of a word shifted left
bit_shl : (a h j : ℕ) → j + h < 64 → bit_of ((a * 2 ^ h) % 2 ^ 64) (j + h) ≡ bit_of a j
bit_shl a h j room =
    bit_mod 64 (a * 2 ^ h) (j + h) room
    ∙ sym (bit_shr (a * 2 ^ h) h j)
    ∙ ap (λ (w : ℕ). bit_of w j) (shl-shr a h)

-- exclusive ors of single bits
kept_bit : {x f s n : ℕ} (t : ℕ) → n ≡ (x + f) % 2 → f ≡ t * s → s ≡ 0 → x < 2 → n ≡ x
kept_bit t hn hf hs hx = omega (arith, hn, hf ∙ ap (λ (k : ℕ). t * k) hs)

flipped_bit : {x y t f s n : ℕ} → n ≡ (x + f) % 2 → f ≡ t * s → t ≡ (x + y) % 2 → s ≡ 1 → x < 2 → y < 2 → n ≡ y
flipped_bit {t = t} hn hf ht hs hx hy = omega (arith, hn, hf ∙ ap (λ (k : ℕ). t * k) hs)

module _ (h m a b : ℕ) where
  flip_at : (j : ℕ) → bit_of (flips h m a b) j ≡ bit_of (bit_xor a ((b * 2 ^ h) % 2 ^ 64)) j * bit_of m j
  unfolding flips
  flip_at j = bit_of-and (bit_xor a ((b * 2 ^ h) % 2 ^ 64)) m j

  differ_at : (j : ℕ) → j + h < 64 → bit_of (bit_xor a ((b * 2 ^ h) % 2 ^ 64)) (j + h) ≡ (bit_of a (j + h) + bit_of b j) % 2
  differ_at j room = bit_of-xor a ((b * 2 ^ h) % 2 ^ 64) (j + h) ∙ ap (λ (n : ℕ). (bit_of a (j + h) + n) % 2) (bit_shl b h j room)

  upper-at : (j : ℕ) → bit_of (upper_row h m a b) j ≡ (bit_of a j + bit_of (flips h m a b) j) % 2
  unfolding upper_row
  upper-at j = bit_of-xor a (flips h m a b) j

  lower-at : (j : ℕ) → bit_of (lower_row h m a b) j ≡ (bit_of b j + bit_of (flips h m a b) (j + h)) % 2
  unfolding lower_row
  lower-at j =
      bit_of-xor b (flips h m a b / 2 ^ h) j
      ∙ ap (λ (n : ℕ). (bit_of b j + n) % 2) (bit_shr (flips h m a b) h j)

  pub upper_kept : (j : ℕ) → bit_of m j ≡ 0 → bit_of (upper_row h m a b) j ≡ bit_of a j
  upper_kept j e = kept_bit _ (upper-at j) (flip_at j) e (bit_lt a j)

  pub lower_kept : (j : ℕ) → bit_of m (j + h) ≡ 0 → bit_of (lower_row h m a b) j ≡ bit_of b j
  lower_kept j e = kept_bit _ (lower-at j) (flip_at (j + h)) e (bit_lt b j)

  pub upper_new : (j : ℕ) → j + h < 64 → bit_of m (j + h) ≡ 1 → bit_of (upper_row h m a b) (j + h) ≡ bit_of b j
  upper_new j room e =
      flipped_bit (upper-at (j + h)) (flip_at (j + h)) (differ_at j room) e (bit_lt a (j + h)) (bit_lt b j)

  pub lower_new : (j : ℕ) → j + h < 64 → bit_of m (j + h) ≡ 1 → bit_of (lower_row h m a b) j ≡ bit_of a (j + h)
  lower_new j room e =
      flipped_bit (lower-at j) (flip_at (j + h))
      (differ_at j room ∙ ap (λ (n : ℕ). n % 2) (add_comm (bit_of a (j + h)) (bit_of b j))) e (bit_lt b j) (bit_lt a (j + h))
