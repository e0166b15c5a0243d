-- Bits of words: taken, stored and gathered.
use Prim.Native.Nat.{ℕ, zero, suc, ◌+◌, ◌*◌, ◌-◌, ◌/◌, ◌%◌, ◌<◌, ◌≤◌, ◌^◌}
use mathlib.Core.Path.{◌≡◌, ap, ap₂, refl, sym, ◌∙◌}
use native.Mathlib.Nat.{add_comm, add-mul-div_left, add-mul-div_right, add-mul-mod_self_right, add-suc, add-zero, div-eq_of_lt, mod-eq_of_lt, mod-lt, mod-one, mul-le-mul_right, pow-suc, zero-add, zero-div}
use native.Mathlib.Numerals.{one-add}
use native.Mathlib.Omega.{arith}
use borrow.Author.Count.{below_more}
use lib.Bits.{bit_xor, xor_mod, xor_shr}
use lib.Dec.{lit<}
use lib.Pow.{high, mod-pow-add, pow-add, pow_pos, shr-shr}
use Rattle.ring.specs.Rings.{bit_of}
use Rattle.ring.proofs.BitLaw.{xor_bit}
use Rattle.circuit.specs.Bits.{gather, xor}

pub bit_lt : (w j : ℕ) → bit_of w j < 2
unfolding bit_of
bit_lt w j = omega arith

pub bit_none : (j : ℕ) → bit_of 0 j ≡ 0
unfolding bit_of
bit_none j = ap (λ (n : ℕ). n % 2) (zero-div (2 ^ j))

-- bit j of an exclusive or
pub bit_of-xor : (a b j : ℕ) → bit_of (bit_xor a b) j ≡ xor (bit_of a j) (bit_of b j)
unfolding bit_of
bit_of-xor a b j =
    ap (λ (n : ℕ). n % 2) (xor_shr a b j)
    ∙ xor_mod (a / 2 ^ j) (b / 2 ^ j) 1
    ∙ xor_bit (mod-lt (a / 2 ^ j) (lit< tt)) (mod-lt (b / 2 ^ j) (lit< tt))

-- bit j of the bits from 2 up
pub bit_upper : (w j : ℕ) → bit_of (w / 4) j ≡ bit_of w (j + 2)
unfolding bit_of
bit_upper w j = ap (λ (n : ℕ). n % 2) (shr-shr w 2 j ∙ ap (λ (n : ℕ). w / 2 ^ n) (add_comm 2 j))

-- a bit stored above the others: the word, its new bit, and the bits below
pub stored-lt : (k : ℕ) {w b : ℕ} → w < 2 ^ k → b < 2 → w + b * 2 ^ k < 2 ^ suc k
stored-lt k {w} {b} hw hb =
    let top : b ≤ 1 = omega arith in
    omega (arith, mul-le-mul_right (2 ^ k) top, pow-suc 2 k)

pub stored_bit : (k : ℕ) {w b : ℕ} → w < 2 ^ k → b < 2 → bit_of (w + b * 2 ^ k) k ≡ b
unfolding bit_of
stored_bit k {w} {b} hw hb = rw (add_comm w (b * 2 ^ k), high b k hw) (mod-eq_of_lt hb)

pub stored_low : (k j w b : ℕ) → j < k → bit_of (w + b * 2 ^ k) j ≡ bit_of w j
unfolding bit_of
stored_low k j w b h =
    let d = k - j - 1 in
    let apart : k ≡ d + 1 + j = omega arith in
    let power : 2 ^ k ≡ 2 ^ d * 2 * 2 ^ j
    = ap (λ (n : ℕ). 2 ^ n) apart ∙ pow-add 2 (d + 1) j ∙ ap (λ (n : ℕ). n * 2 ^ j) (pow-add 2 d 1) in
    let shifted : b * 2 ^ k ≡ b * 2 ^ d * 2 * 2 ^ j = omega (arith, ap (λ (n : ℕ). b * n) power) in
    rw (shifted, add-mul-div_right w (b * 2 ^ d * 2) (pow_pos j)) (add-mul-mod_self_right (w / 2 ^ j) (b * 2 ^ d) 2)

pub gather-lt : (n : ℕ) (b : ℕ → ℕ) → ((j : ℕ) → b j < 2) → gather n b < 2 ^ n
unfolding gather
gather-lt zero b bits = lit< tt
gather-lt (suc n) b bits = stored-lt n (gather-lt n b bits) (bits n)

pub gather_same : (n : ℕ) {b c : ℕ → ℕ} → ((j : ℕ) → j < n → b j ≡ c j) → gather n b ≡ gather n c
unfolding gather
gather_same zero same = refl
gather_same (suc n) same =
    ap₂ (λ (g d : ℕ). g + d * 2 ^ n) (gather_same n (λ j h. same j (omega arith))) (same n (omega arith))

-- bit k of a word made of bits
pub gather-at : (n : ℕ) (b : ℕ → ℕ) → ((j : ℕ) → b j < 2) → (k : ℕ) → k < n → bit_of (gather n b) k ≡ b k
unfolding gather
gather-at zero b bits k h = absurd (omega arith)
gather-at (suc n) b bits k h =
    below_more (λ (j : ℕ). bit_of (gather n b + b n * 2 ^ n) j ≡ b j) n
    (λ j inside. stored_low n j (gather n b) (b n) inside ∙ gather-at n b bits j inside)
    (stored_bit n (gather-lt n b bits) (bits n)) k (omega arith)

-- the low s bits, and the k above them
pub gather_split : (s k : ℕ) (b : ℕ → ℕ) → gather (s + k) b ≡ gather s b + 2 ^ s * gather k (λ j. b (s + j))
unfolding gather
gather_split s zero b = ap (λ (n : ℕ). gather n b) (add-zero s) ∙ omega arith
gather_split s (suc k) b =
    ap (λ (n : ℕ). gather n b) (add-suc s k) ∙ omega (arith, gather_split s k b, ap (λ (n : ℕ). b (s + k) * n) (pow-add 2 s k))

-- the bits from s up
pub gather_high : (s n : ℕ) (b : ℕ → ℕ) → ((j : ℕ) → b j < 2) → gather n (λ j. b (s + j)) ≡ gather (s + n) b / 2 ^ s
gather_high s n b bits =
    let high = gather n (λ j. b (s + j)) in
    let below : gather s b < 2 ^ s = gather-lt s b bits in
    sym
    (ap (λ (w : ℕ). w / 2 ^ s) (gather_split s n b)
    ∙ add-mul-div_left (gather s b) high (pow_pos s)
    ∙ ap (λ (r : ℕ). r + high) (div-eq_of_lt below)
    ∙ zero-add high)

-- no bit from s on
pub gather-ends : (s k : ℕ) (b : ℕ → ℕ) → ((j : ℕ) → s ≤ j → j < s + k → b j ≡ 0) → gather (s + k) b ≡ gather s b
unfolding gather
gather-ends s zero b none = ap (λ (n : ℕ). gather n b) (add-zero s)
gather-ends s (suc k) b none =
    ap (λ (n : ℕ). gather n b) (add-suc s k)
    ∙ ap₂ (λ (g d : ℕ). g + d * 2 ^ (s + k)) (gather-ends s k b (λ j from h. none j from (omega arith))) (none (s + k) (omega arith) (omega arith))
    ∙ omega arith

-- a word is made of its bits
pub gather-bits : (n w : ℕ) → gather n (bit_of w) ≡ w % 2 ^ n
unfolding gather bit_of
gather-bits zero w = sym (mod-one w)
gather-bits (suc n) w =
    ap (λ (g : ℕ). g + w / 2 ^ n % 2 * 2 ^ n) (gather-bits n w)
    ∙ add_comm (w % 2 ^ n) (w / 2 ^ n % 2 * 2 ^ n)
    ∙ sym (mod-pow-add w 1 n)
    ∙ ap (λ (k : ℕ). w % 2 ^ k) (one-add n)
