-- The words as the code works them out are the definition's.
use Prim.Native.Nat.{ℕ, ◌+◌, ◌*◌, ◌-◌, ◌/◌, ◌%◌, ◌<◌, ◌≤◌, ◌^◌}
use mathlib.Core.Path.{◌≡◌, ◌∙◌, ap, sym}
use native.Mathlib.Nat.{le_refl, mod-eq_of_lt, mod-lt, mul-le-mul}
use native.Mathlib.Omega.{arith}
use lib.Bits.{and_lt, and_mod, and_shr, bit_and, bit_xor, xor_lt, xor_mod, xor_shr}
use Rattle.ring.specs.Modular.{Cong, diff}
use Rattle.ring.proofs.BitLaw.{and_bit, xor_bit}
use Rattle.ring.proofs.CongLaw.{cong_add, cong_mod, cong_mul, cong_of_eq, cong_refl, cong_sym, cong_trans}
use Rattle.ring.proofs.RangeLaw.{sized_gt, sized_lt}
use Rattle.ring.specs.Rings.{bit_of}
use Rattle.gate.specs.Words.{GateWords, Sliced, pair_at}
use Rattle.gate.specs.Gates.{crossed, gated, mask, word}
use Rattle.gate.specs.Places.{InRange, Pair, PairBelow, Place, held, next, p0, p1, p2, pair, parts, sharing, three}
use Rattle.gate.specs.declared.sharing.Sharing.{Sharing}

-- the mask, not reduced
pub mask_near : (p t tf : ℕ) → t < p → Cong p (tf + (p - t)) (mask p (pair t tf))
unfolding mask diff
mask_near p t tf below =
    cong_trans (cong_of_eq (ap (λ (n : ℕ). tf + (p - n)) (sym (mod-eq_of_lt below)))) (cong_sym (cong_mod p (tf + (p - t % p))))

-- a word from a number n that stands for its products, and one that stands for its mask
word_from : (m x xf y yf t tf n : ℕ) {d : ℕ}
    → Cong m n (x * y + x * yf + xf * y) → Cong m d (mask m (pair t tf)) → (n + d) % m ≡ word m (pair x xf) (pair y yf) (pair t tf)
unfolding word crossed
word_from m x xf y yf t tf n h e = (cong_add h e).same

-- in a ring: two products, the first with the sum of y's pair
two_products : (p x xf y yf sum : ℕ) → sum ≡ (y + yf) % p → Cong p (x * sum + xf * y) (x * y + x * yf + xf * y)
two_products p x xf y yf sum is =
    let spread : x * (y + yf) + xf * y ≡ x * y + x * yf + xf * y = omega arith in
    let both : Cong p (x * sum) (x * (y + yf)) = cong_mul (cong_refl x) (cong_trans (cong_of_eq is) (cong_mod p (y + yf))) in
    cong_trans (cong_add both (cong_refl (xf * y))) (cong_of_eq spread)

pub ring_word_is : (p x xf y yf t tf sum d : ℕ)
    → sum ≡ (y + yf) % p
    → Cong p d (mask p (pair t tf))
    → (x * sum + xf * y + d) % p ≡ word p (pair x xf) (pair y yf) (pair t tf)
ring_word_is p x xf y yf t tf sum d is = word_from p x xf y yf t tf (x * sum + xf * y) (two_products p x xf y yf sum is)

-- what x stands for modulo m is all that counts
word_cong : (m x xf x' xf' y yf : ℕ) (t : Pair) → Cong m x x' → Cong m xf xf' → word m (pair x xf) (pair y yf) t ≡ word m (pair x' xf') (pair y yf) t
unfolding word crossed
word_cong m x xf x' xf' y yf t h k =
    (cong_add
    (cong_add (cong_add (cong_mul h (cong_refl y)) (cong_mul h (cong_refl yf))) (cong_mul k (cong_refl y)))
    (cong_refl (mask m t))).same

pub gated_cong : (m : ℕ) {u u' : Place → ℕ} (v t : Place → ℕ) → ((i : Place) → Cong m (u i) (u' i)) → gated m u v t ≡ gated m u' v t
unfolding gated
gated_cong m {u} {u'} v t h =
    let at : (i : Place) → word m (held u i) (held v i) (held t i) ≡ word m (held u' i) (held v i) (held t i)
    = λ i. word_cong m (u i) (u (next i)) (u' i) (u' (next i)) (v i) (v (next i)) (held t i) (h i) (h (next i)) in
    rw (at p0, at p1, at p2)

-- modulo 2 adding is subtracting
masked_bit : (c t tf d z : ℕ) → d ≡ (c + t) % 2 → z ≡ (d + tf) % 2 → z ≡ (c + mask 2 (pair t tf)) % 2
unfolding mask diff
masked_bit c t tf d z hd hz = omega arith

-- of bits, where `&` multiplies and `^` adds
module _ (x xf y yf t tf : ℕ) (hx : PairBelow 2 (pair x xf)) (hy : PairBelow 2 (pair y yf)) (ht : PairBelow 2 (pair t tf)) where
  sum_lt : bit_xor y yf < 2
  sum_lt = xor_lt 1 y yf hy.own hy.far

  both-lt : bit_and x (bit_xor y yf) < 2
  both-lt = and_lt 1 x (bit_xor y yf) hx.own sum_lt

  cross_lt : bit_and xf y < 2
  cross_lt = and_lt 1 xf y hx.far hy.own

  crossed-lt : bit_xor (bit_and x (bit_xor y yf)) (bit_and xf y) < 2
  crossed-lt = xor_lt 1 (bit_and x (bit_xor y yf)) (bit_and xf y) both-lt cross_lt

  masked_lt : bit_xor (bit_xor (bit_and x (bit_xor y yf)) (bit_and xf y)) t < 2
  masked_lt = xor_lt 1 (bit_xor (bit_and x (bit_xor y yf)) (bit_and xf y)) t crossed-lt ht.own

  pub bit_word-lt : bit_xor (bit_xor (bit_xor (bit_and x (bit_xor y yf)) (bit_and xf y)) t) tf < 2
  bit_word-lt = xor_lt 1 (bit_xor (bit_xor (bit_and x (bit_xor y yf)) (bit_and xf y)) t) tf masked_lt ht.far

  pub bit_word_is : bit_xor (bit_xor (bit_xor (bit_and x (bit_xor y yf)) (bit_and xf y)) t) tf ≡ word 2 (pair x xf) (pair y yf) (pair t tf)
  bit_word_is =
      let products : Cong 2 (bit_xor (bit_and x (bit_xor y yf)) (bit_and xf y)) (x * bit_xor y yf + xf * y)
      = cong_trans (cong_of_eq (xor_bit both-lt cross_lt)) (cong_trans (cong_mod 2 _)
      (cong_add (cong_of_eq (and_bit hx.own sum_lt)) (cong_of_eq (and_bit hx.far hy.own)))) in
      masked_bit _ t tf _ _ (xor_bit crossed-lt ht.own) (xor_bit masked_lt ht.far)
      ∙ word_from 2 x xf y yf t tf _ (cong_trans products (two_products 2 x xf y yf _ (xor_bit hy.own hy.far))) (cong_refl _)

-- bit k of an exclusive or, and of an and, of words
lane_xor : (a b k : ℕ) → bit_of (bit_xor a b) k ≡ bit_xor (bit_of a k) (bit_of b k)
unfolding bit_of
lane_xor a b k = ap (λ (n : ℕ). n % 2) (xor_shr a b k) ∙ xor_mod (a / 2 ^ k) (b / 2 ^ k) 1

lane_and : (a b k : ℕ) → bit_of (bit_and a b) k ≡ bit_and (bit_of a k) (bit_of b k)
unfolding bit_of
lane_and a b k = ap (λ (n : ℕ). n % 2) (and_shr a b k) ∙ and_mod (a / 2 ^ k) (b / 2 ^ k) 1

pair_below : (own far k : ℕ) → PairBelow 2 (pair_at own far k)
unfolding bit_of
pair_below own far k = record { own = mod-lt (own / 2 ^ k) (omega arith); far = mod-lt (far / 2 ^ k) (omega arith) }

pub sliced_is : (x xf y yf t tf : ℕ) → Sliced x xf y yf t tf (bit_xor (bit_xor (bit_xor (bit_and x (bit_xor y yf)) (bit_and xf y)) t) tf)
sliced_is x xf y yf t tf = record {
  at = λ k.
      simp (lane_xor, lane_and)
      (bit_word_is (bit_of x k) (bit_of xf k) (bit_of y k) (bit_of yf k) (bit_of t k) (bit_of tf k)
      (pair_below x xf k) (pair_below y yf k) (pair_below t tf k));
}

-- three parties' words
pub gate-words : (x y t : Sharing) {z₀ z₁ z₂ : ℕ}
    → Sliced x.s0 x.s1 y.s0 y.s1 t.s0 t.s1 z₀
    → Sliced x.s1 x.s2 y.s1 y.s2 t.s1 t.s2 z₁
    → Sliced x.s2 x.s0 y.s2 y.s0 t.s2 t.s0 z₂
    → GateWords x y t (record { s0 = z₀; s1 = z₁; s2 = z₂ })
unfolding gated
gate-words x y t h₀ h₁ h₂ = record { at = λ k. rw (h₀.at k, h₁.at k, h₂.at k) }

-- three words that are the definition's make the gate's sharing
words_are : (m : ℕ) (x y t : Sharing) {z₀ z₁ z₂ : ℕ}
    → z₀ ≡ word m (held (parts x) p0) (held (parts y) p0) (held (parts t) p0)
    → z₁ ≡ word m (held (parts x) p1) (held (parts y) p1) (held (parts t) p1)
    → z₂ ≡ word m (held (parts x) p2) (held (parts y) p2) (held (parts t) p2)
    → ◌≡◌ {A = Sharing} (record { s0 = z₀; s1 = z₁; s2 = z₂ }) (sharing (gated m (parts x) (parts y) (parts t)))
unfolding gated
words_are m x y t e₀ e₁ e₂ = rw (e₀, e₁, e₂)

-- and are in range
pub words_hold : (m : ℕ) (x y t : Sharing) {z₀ z₁ z₂ : ℕ}
    → (z₀ ≡ word m (held (parts x) p0) (held (parts y) p0) (held (parts t) p0)) × (z₀ < m)
    → (z₁ ≡ word m (held (parts x) p1) (held (parts y) p1) (held (parts t) p1)) × (z₁ < m)
    → (z₂ ≡ word m (held (parts x) p2) (held (parts y) p2) (held (parts t) p2)) × (z₂ < m)
    → (◌≡◌ {A = Sharing} (record { s0 = z₀; s1 = z₁; s2 = z₂ }) (sharing (gated m (parts x) (parts y) (parts t))))
    × InRange m (record { s0 = z₀; s1 = z₁; s2 = z₂ })
words_hold m x y t h₀ h₁ h₂ = (words_are m x y t h₀.0 h₁.0 h₂.0, record { zero = h₀.1; one = h₁.1; two = h₂.1 })

-- a word of the code, from its products
word_of : (m x xf y yf t tf n : ℕ) {z : ℕ}
    → n ≡ x * y + x * yf + xf * y
    → (z ≡ (n + mask m (pair t tf)) % m) × (z < m)
    → (z ≡ word m (pair x xf) (pair y yf) (pair t tf)) × (z < m)
word_of m x xf y yf t tf n products (is, below) = (is ∙ word_from m x xf y yf t tf n (cong_of_eq products) (cong_refl _), below)

-- and where they are 0
word-alone : (m x xf y yf t tf : ℕ) {z : ℕ}
    → 0 ≡ x * y + x * yf + xf * y
    → (z ≡ mask m (pair t tf) % m) × (z < m)
    → (z ≡ word m (pair x xf) (pair y yf) (pair t tf)) × (z < m)
word-alone m x xf y yf t tf none (is, below) = word_of m x xf y yf t tf 0 none (is ∙ ap (λ (n : ℕ). n % m) (omega arith), below)

-- of a bit at place 0 with a bit at place 1
pub words_of_bits : (m b₀ b₁ : ℕ) (t : Sharing) {z₀ z₁ z₂ : ℕ}
    → (z₀ ≡ (b₀ * b₁ + mask m (pair t.s0 t.s1)) % m) × (z₀ < m)
    → (z₁ ≡ mask m (pair t.s1 t.s2) % m) × (z₁ < m)
    → (z₂ ≡ mask m (pair t.s2 t.s0) % m) × (z₂ < m)
    → (◌≡◌ {A = Sharing} (record { s0 = z₀; s1 = z₁; s2 = z₂ }) (sharing (gated m (three b₀ 0 0) (three 0 b₁ 0) (parts t))))
    × InRange m (record { s0 = z₀; s1 = z₁; s2 = z₂ })
words_of_bits m b₀ b₁ t h₀ h₁ h₂ =
    words_hold m (record { s0 = b₀; s1 = 0; s2 = 0 }) (record { s0 = 0; s1 = b₁; s2 = 0 }) t
    (word_of m b₀ 0 0 b₁ t.s0 t.s1 (b₀ * b₁) (omega arith) h₀)
    (word-alone m 0 0 b₁ 0 t.s1 t.s2 (omega arith) h₁)
    (word-alone m 0 b₀ 0 0 t.s2 t.s0 (omega arith) h₂)

-- of x with a bit at place 2
pub words_by_bit : (m : ℕ) (x : Sharing) (b₂ : ℕ) (t : Sharing) {z₀ z₁ z₂ : ℕ}
    → (z₀ ≡ mask m (pair t.s0 t.s1) % m) × (z₀ < m)
    → (z₁ ≡ (x.s1 * b₂ + mask m (pair t.s1 t.s2)) % m) × (z₁ < m)
    → (z₂ ≡ ((x.s2 + x.s0) * b₂ + mask m (pair t.s2 t.s0)) % m) × (z₂ < m)
    → (◌≡◌ {A = Sharing} (record { s0 = z₀; s1 = z₁; s2 = z₂ }) (sharing (gated m (parts x) (three 0 0 b₂) (parts t))))
    × InRange m (record { s0 = z₀; s1 = z₁; s2 = z₂ })
words_by_bit m x b₂ t h₀ h₁ h₂ =
    words_hold m x (record { s0 = 0; s1 = 0; s2 = b₂ }) t
    (word-alone m x.s0 x.s1 0 0 t.s0 t.s1 (omega arith) h₀)
    (word_of m x.s1 x.s2 0 b₂ t.s1 t.s2 (x.s1 * b₂) (omega arith) h₁)
    (word_of m x.s2 x.s0 b₂ 0 t.s2 t.s0 ((x.s2 + x.s0) * b₂) (omega arith) h₂)

-- a number times a bit is at most the number
pub bit_times_le : {x b : ℕ} → b < 2 → x * b ≤ x
bit_times_le {x} {b} bit = let few : b ≤ 1 = omega arith in omega (arith, mul-le-mul (le_refl x) few)

-- what keeps a number times a bit within a word: the product, and the modulus from both sides
pub ruleset bit_times = (bit_times_le, sized_gt, sized_lt)
