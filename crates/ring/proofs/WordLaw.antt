-- How words are cut by shifts and masks, at every width: what the code of the arithmetic computes.
use Prim.Native.Nat.{ℕ, ◌+◌, ◌*◌, ◌-◌, ◌/◌, ◌%◌, ◌<◌, ◌≤◌, ◌^◌}
use mathlib.Core.Path.{◌≡◌, ◌∙◌, ap, sym}
use native.Mathlib.Nat.{div-add-mod', div-le_of_le-mul, div-lt_iff_lt-mul, le_of_lt, le_refl, mod-lt, mul-le-mul, mul-mod_left}
use native.Mathlib.Omega.{arith}
use lib.Bits.{and_le_r, and_mask, bit_and}
use lib.Dec.{lit<}
use lib.Pow.{high, mod-mod-pow, mod-pow-add, ones_lt, ones_split, pow_mono, pow_pos, shl_exact, shl-shr}
use Rattle.ring.specs.Modular.{Cong}
use Rattle.ring.specs.Rings.{modulus, rotated}
use Rattle.ring.proofs.Theorems.{modulus-suc, next_power, odd_power, product}

-- a one that is shifted within a word
pub shifted_one : (k : ℕ) → k < 64 → (1 * 2 ^ k) % 2 ^ 64 ≡ 2 ^ k
shifted_one k h = shl_exact 1 k 64 (lit< tt) (omega arith) ∙ omega arith

-- the modulus of width e is the mask of the low e bits
pub low_bits : (e p s : ℕ) → p ≡ modulus e → bit_and s p ≡ s % 2 ^ e
unfolding modulus
low_bits e p s h = ap (λ (n : ℕ). bit_and s n) h ∙ and_mask s e

-- a modulus, shifted, is a narrower one
modulus_shifted : (j k : ℕ) → modulus (j + k) / 2 ^ k ≡ modulus j
unfolding modulus
modulus_shifted j k = ap (λ (n : ℕ). n / 2 ^ k) (ones_split j k) ∙ high (2 ^ j - 1) k (ones_lt k)

-- a turn, as the code has it
pub rotate_word : (e p k a : ℕ) → p ≡ modulus e → e < 64 → k ≤ e
    → (bit_and a (p / 2 ^ k) * 2 ^ k) % 2 ^ 64 + a / 2 ^ (e - k) ≡ rotated e k a
unfolding rotated
rotate_word e p k a h narrow places =
    let whole : e ≡ (e - k) + k = omega arith in
    let mask : p / 2 ^ k ≡ modulus (e - k) = ap (λ (n : ℕ). n / 2 ^ k) (h ∙ ap modulus whole) ∙ modulus_shifted (e - k) k in
    let low : bit_and a (p / 2 ^ k) ≡ a % 2 ^ (e - k) = low_bits (e - k) (p / 2 ^ k) a mask in
    let moved : (a % 2 ^ (e - k) * 2 ^ k) % 2 ^ 64 ≡ a % 2 ^ (e - k) * 2 ^ k
    = shl_exact (e - k) k 64 (mod-lt a (pow_pos (e - k))) (omega arith) in
    ap (λ (n : ℕ). (n * 2 ^ k) % 2 ^ 64 + a / 2 ^ (e - k)) low ∙ ap (λ (n : ℕ). n + a / 2 ^ (e - k)) moved

-- the parts of a factor, cut above bit k, and the columns of two products, as the code has them
abbrev upper : ℕ → ℕ → ℕ
upper k a = a / 2 ^ (k + 1)

abbrev lower : ℕ → ℕ → ℕ → ℕ
lower k p a = bit_and a (p / 2 ^ k)

abbrev pub middle : ℕ → ℕ → ℕ → ℕ → ℕ → ℕ → ℕ
middle k p a b c d = upper k a * lower k p b + lower k p a * upper k b + (upper k c * lower k p d + lower k p c * upper k d)

abbrev cut : ℕ → ℕ → ℕ → ℕ
cut k p m = bit_and ((m * 2 ^ (k + 1)) % 2 ^ 64) p

abbrev pub summed : ℕ → ℕ → ℕ → ℕ → ℕ → ℕ → ℕ
summed k p a b c d =
    2 * (upper k a * upper k b + upper k c * upper k d) + middle k p a b c d / 2 ^ k + cut k p (middle k p a b c d)
    + (lower k p a * lower k p b + lower k p c * lower k p d)

-- the columns over plain numbers
column_cong : (k p a₁ a₀ b₁ b₀ c₁ c₀ d₁ d₀ m₁ m₀ w a b c d : ℕ)
    → p ≡ modulus (2 * k + 1)
    → w ≡ m₀ * 2 ^ (k + 1)
    → a₁ * b₀ + a₀ * b₁ + (c₁ * d₀ + c₀ * d₁) ≡ m₁ * 2 ^ k + m₀
    → a₁ * 2 ^ (k + 1) + a₀ ≡ a
    → b₁ * 2 ^ (k + 1) + b₀ ≡ b
    → c₁ * 2 ^ (k + 1) + c₀ ≡ c
    → d₁ * 2 ^ (k + 1) + d₀ ≡ d
    → Cong p (2 * (a₁ * b₁ + c₁ * d₁) + m₁ + w + (a₀ * b₀ + c₀ * d₀)) (a * b + c * d)
column_cong k p a₁ a₀ b₁ b₀ c₁ c₀ d₁ d₀ m₁ m₀ w a b c d width digit split ha hb hc hd =
    rw (width, digit, ← ha, ← hb, ← hc, ← hd) (product k a₁ a₀ b₁ b₀ c₁ c₀ d₁ d₀ m₁ m₀ split)

-- the bounds of one product's parts, by 2^k
pub record Parted (k p a b : ℕ) : Type 0 where
  pub cross : upper k a * lower k p b ≤ 2 * (2 ^ k * 2 ^ k)
  pub across : lower k p a * upper k b ≤ 2 * (2 ^ k * 2 ^ k)
  pub tops : upper k a * upper k b ≤ 2 ^ k * 2 ^ k
  pub bottoms : lower k p a * lower k p b ≤ 4 * (2 ^ k * 2 ^ k)

-- and of a middle column m
pub record Carried (k p m : ℕ) : Type 0 where
  pub carry : m / 2 ^ k ≤ 8 * 2 ^ k
  pub rest : cut k p m ≤ 2 * (2 ^ k * 2 ^ k)
  pub least : 4 ≤ 2 ^ k
  pub narrow : 2 ^ k ≤ 2 ^ 30
  pub square : 2 ^ k * 2 ^ k ≤ 2 ^ 60
  pub whole : p + 1 ≡ 2 * (2 ^ k * 2 ^ k)

module _ (k p : ℕ) (width : p ≡ modulus (2 * k + 1)) where
  mask : p / 2 ^ k ≡ modulus (k + 1)
  mask =
      let e : 2 * k + 1 ≡ k + 1 + k = omega arith in
      ap (λ (n : ℕ). n / 2 ^ k) (width ∙ ap modulus e) ∙ modulus_shifted (k + 1) k

  lower_is : (a : ℕ) → lower k p a ≡ a % 2 ^ (k + 1)
  lower_is a = low_bits (k + 1) (p / 2 ^ k) a mask

  lower-le : (a : ℕ) → lower k p a ≤ 2 * 2 ^ k
  lower-le a = omega (arith, lower_is a, mod-lt a (pow_pos (k + 1)), next_power k)

  whole : (a : ℕ) → upper k a * 2 ^ (k + 1) + lower k p a ≡ a
  whole a = omega (arith, lower_is a, div-add-mod' a (2 ^ (k + 1)))

  upper-le : (a : ℕ) → a < p → upper k a ≤ 2 ^ k
  upper-le a h =
      let fits : a < 2 ^ k * 2 ^ (k + 1)
      = omega (arith, width, modulus-suc (2 * k + 1), odd_power k, ap (λ (n : ℕ). 2 ^ k * n) (next_power k)) in
      le_of_lt ((div-lt_iff_lt-mul (pow_pos (k + 1))).1 fits)

  -- the low k bits of m, moved up by k + 1, are what is left of m << (k + 1) below bit 2k + 1
  cut_is : (m : ℕ) → k ≤ 30 → cut k p m ≡ m % 2 ^ k * 2 ^ (k + 1)
  cut_is m top =
      let n = m * 2 ^ (k + 1) in
      let word : (64 - (2 * k + 1)) + (2 * k + 1) ≡ 64 = omega arith in
      let odd : 2 * k + 1 ≡ k + (k + 1) = omega arith in
      let none : n % 2 ^ (k + 1) ≡ 0 = mul-mod_left m (2 ^ (k + 1)) in
      low_bits (2 * k + 1) p (n % 2 ^ 64) width
      ∙ ap (λ (i : ℕ). n % 2 ^ i % 2 ^ (2 * k + 1)) (sym word)
      ∙ mod-mod-pow n (64 - (2 * k + 1)) (2 * k + 1)
      ∙ ap (λ (i : ℕ). n % 2 ^ i) odd
      ∙ mod-pow-add n k (k + 1)
      ∙ ap (λ (i : ℕ). i % 2 ^ k * 2 ^ (k + 1) + n % 2 ^ (k + 1)) (shl-shr m (k + 1))
      ∙ omega (arith, none)

  cut-le : (m : ℕ) → cut k p m ≤ p
  cut-le m = and_le_r ((m * 2 ^ (k + 1)) % 2 ^ 64) p

  -- the columns are the products
  pub summed_cong : (a b c d : ℕ) → k ≤ 30 → Cong p (summed k p a b c d) (a * b + c * d)
  summed_cong a b c d top =
      let m = middle k p a b c d in
      let split : m ≡ m / 2 ^ k * 2 ^ k + m % 2 ^ k = omega (arith, div-add-mod' m (2 ^ k)) in
      column_cong k p _ _ _ _ _ _ _ _ _ _ _ a b c d width (cut_is m top) split (whole a) (whole b) (whole c) (whole d)

  -- and fit a word with room to fold
  pub parted : {a b : ℕ} → a < p → b < p → Parted k p a b
  parted {a} {b} ha hb = record {
    cross = omega (arith, mul-le-mul (upper-le a ha) (lower-le b));
    across = omega (arith, mul-le-mul (lower-le a) (upper-le b hb));
    tops = mul-le-mul (upper-le a ha) (upper-le b hb);
    bottoms = omega (arith, mul-le-mul (lower-le a) (lower-le b));
  }

  squared : k ≤ 30 → 2 ^ k * 2 ^ k ≤ 2 ^ 60
  squared top = let room : 2 ^ k ≤ 2 ^ 30 = pow_mono top in mul-le-mul room room

  pub carried : (m : ℕ) → 2 ≤ k → k ≤ 30 → m ≤ 8 * (2 ^ k * 2 ^ k) → Carried k p m
  carried m low top bound =
      let size : p + 1 ≡ 2 * (2 ^ k * 2 ^ k) = omega (arith, width, modulus-suc (2 * k + 1), odd_power k) in
      record {
        carry = div-le_of_le-mul (2 ^ k) (omega arith);
        rest = omega (arith, cut-le m);
        least = pow_mono {i = 2} low;
        narrow = pow_mono top;
        square = squared top;
        whole = size;
      }

  -- the same bounds without k, and that of what is cut from the middle column
  module _ (top : k ≤ 30) where
    pub cross_fits : {a b : ℕ} → a < p → b < p → upper k a * lower k p b ≤ 2 ^ 61
    cross_fits ha hb = omega (arith, parted ha hb, squared top)

    pub across_fits : {a b : ℕ} → a < p → b < p → lower k p a * upper k b ≤ 2 ^ 61
    across_fits ha hb = omega (arith, parted ha hb, squared top)

    pub tops_fit : {a b : ℕ} → a < p → b < p → upper k a * upper k b ≤ 2 ^ 60
    tops_fit ha hb = omega (arith, parted ha hb, squared top)

    pub bottoms_fit : {a b : ℕ} → a < p → b < p → lower k p a * lower k p b ≤ 2 ^ 62
    bottoms_fit ha hb = omega (arith, parted ha hb, squared top)

    pub cut_fits : (m : ℕ) → cut k p m < 2 ^ 61
    cut_fits m = omega (arith, cut-le m, width, modulus-suc (2 * k + 1), odd_power k, squared top)

-- what is above bit k is a quarter at most, where k is 2 or more
pub carry_quarter : (k m : ℕ) → 2 ≤ k → 4 * (m / 2 ^ k) ≤ m
carry_quarter k m some = omega (arith, div-add-mod' m (2 ^ k), mul-le-mul (le_refl (m / 2 ^ k)) (pow_mono {i = 2} some))

-- what keeps the columns within a word
pub ruleset columns_fit = (cross_fits, across_fits, tops_fit, bottoms_fit, cut_fits, carry_quarter)
