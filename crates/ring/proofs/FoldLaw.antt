-- Remainders modulo 2^e - 1 by shifts and masks alone, at every width.
use Prim.Native.Nat.{ℕ, ◌+◌, ◌*◌, ◌-◌, ◌/◌, ◌%◌, ◌<◌, ◌≤◌, ◌^◌}
use mathlib.Core.Path.{◌≡◌, refl, sym, ◌∙◌, ap}
use mathlib.Core.Logic.{⊎_elim}
use native.Mathlib.Nat.{
  add-mul-mod_self_left,
  div-add-mod',
  div-lt_iff_lt-mul,
  eq-zero-or-pos,
  le_refl,
  mod-eq_of_lt,
  mod-eq-sub-mod,
  mod-lt,
  mul-add-div_right,
  mul-le-mul,
}
use native.Mathlib.Omega.{arith}
use lib.Bits.{bit_and}
use lib.Pow.{mod-pow-add, pow_mono, pow_pos, shr-shr}
use Rattle.ring.specs.Modular.{Cong}
use Rattle.ring.specs.Rings.{modulus, rotated, u}
use Rattle.ring.proofs.CongLaw.{cong_of_eq, cong_sym, cong_trans}
use Rattle.ring.proofs.Theorems.{div-pow-le, folds, four_times, modulus-suc}
use Rattle.ring.proofs.WordLaw.{low_bits}

-- folding: what is above bit e is added to what is below it
abbrev pub fold : ℕ → ℕ → ℕ
fold e s = s / 2 ^ e + s % 2 ^ e

fold_cong : (e s : ℕ) → Cong (modulus e) (fold e s) s
fold_cong e s = cong_trans (cong_sym (folds e (s / 2 ^ e) (s % 2 ^ e))) (cong_of_eq (div-add-mod' s (2 ^ e)))

-- which changes nothing modulo p
pub fold_same : (e : ℕ) {p : ℕ} (s : ℕ) → p ≡ modulus e → fold e s % p ≡ s % p
fold_same e s h = rw h (fold_cong e s).same

pub folded_near : (e p cols n : ℕ) {f : ℕ} → p ≡ modulus e → f ≡ fold e cols → Cong p cols n → Cong p f n
folded_near e p cols n h is stands = record { same = ap (λ (i : ℕ). i % p) is ∙ fold_same e cols h ∙ stands.same }

-- and never adds
pub fold-le : (e s : ℕ) → fold e s ≤ s
fold-le e s = omega (arith, div-add-mod' s (2 ^ e), mul-le-mul (le_refl (s / 2 ^ e)) (pow_pos e))

-- a word with few bits above bit e
pub fold-lt : (e p s : ℕ) → p ≡ modulus e → s < p * 2 ^ e → fold e s < p + p
fold-lt e p s h room =
    let top : s / 2 ^ e < p = (div-lt_iff_lt-mul (pow_pos e)).1 room in
    omega (arith, mod-lt s (pow_pos e), modulus-suc e)

-- any word, where e is 13 or more: what is left above p shrinks by 13 bits
fold_shrinks : (e p s : ℕ) → p ≡ modulus e → 13 ≤ e → fold e s ≤ s / 2 ^ 13 + p
fold_shrinks e p s h wide =
    let low : s % 2 ^ e ≤ p = omega (arith, mod-lt s (pow_pos e), modulus-suc e) in
    omega (arith, div-pow-le {i = 13} s wide)

pub four_folds_lt : (e p s : ℕ) → p ≡ modulus e → 13 ≤ e → s < 2 ^ 64 → fold e (fold e (fold e (fold e s))) < p + p
four_folds_lt e p s h wide word =
    let step : (n : ℕ) → fold e n ≤ n / 2 ^ 13 + p = λ n. fold_shrinks e p n h wide in
    let large : 2 ^ 13 ≤ p + 1 = omega (arith, pow_mono {i = 13} wide, modulus-suc e) in
    omega (arith, step s, step (fold e s), step (fold e (fold e s)), step (fold e (fold e (fold e s))))

-- with the fold and one more, a word passes bit e once for each p in it
pub passes : (e p s : ℕ) → p ≡ modulus e → fold e s < p + p → (s + s / 2 ^ e + 1) / 2 ^ e ≡ s / 2 ^ e + (fold e s + 1) / 2 ^ e
passes e p s h small =
    let whole : s / 2 ^ e * 2 ^ e + s % 2 ^ e ≡ s = div-add-mod' s (2 ^ e) in
    let split : s + s / 2 ^ e + 1 ≡ s / 2 ^ e * 2 ^ e + (fold e s + 1) = omega arith in
    ap (λ (n : ℕ). n / 2 ^ e) split ∙ mul-add-div_right (pow_pos e) (s / 2 ^ e) (fold e s + 1)

-- the sum of two numbers below a modulus fits a word
pub modulus_room : {e p : ℕ} → p ≡ modulus e → e < 64 → p + 1 ≤ 2 ^ 63
modulus_room {e} h top = omega (arith, modulus-suc e, pow_mono {i = e} {j = 63} (omega arith))

-- with one more, it passes bit e once at most
pub passes_once : (e p s : ℕ) → p ≡ modulus e → s < p + p → (s + 1) / 2 ^ e < 2
passes_once e p s h sum = (div-lt_iff_lt-mul (pow_pos e)).1 (omega (arith, modulus-suc e))

-- and just where p is to be taken away
pub reduced : (e p s : ℕ) → p ≡ modulus e → s < p + p → bit_and (s + (s + 1) / 2 ^ e) p ≡ s % p
reduced e p s h sum = low_bits e p (s + (s + 1) / 2 ^ e) h ∙ ⊎_elim small large (eq-zero-or-pos ((s + 1) / 2 ^ e))
  where
    cut : (s + 1) / 2 ^ e * 2 ^ e + (s + 1) % 2 ^ e ≡ s + 1
    cut = div-add-mod' (s + 1) (2 ^ e)

    whole : p + 1 ≡ 2 ^ e
    whole = omega (arith, modulus-suc e)

    small : (s + 1) / 2 ^ e ≡ 0 → (s + (s + 1) / 2 ^ e) % 2 ^ e ≡ s % p
    small none =
        let below : s < p = omega (arith, cut, whole, mod-lt (s + 1) (pow_pos e), ap (λ (n : ℕ). n * 2 ^ e) none) in
        let same : s + (s + 1) / 2 ^ e ≡ s = omega arith in
        let fits : s < 2 ^ e = omega (arith, whole) in
        ap (λ (n : ℕ). n % 2 ^ e) same ∙ mod-eq_of_lt fits ∙ sym (mod-eq_of_lt below)

    large : 0 < (s + 1) / 2 ^ e → (s + (s + 1) / 2 ^ e) % 2 ^ e ≡ s % p
    large some =
        let one : (s + 1) / 2 ^ e ≡ 1 = omega (arith, passes_once e p s h sum) in
        let rest : p + (s + 1) % 2 ^ e ≡ s = omega (arith, cut, whole, ap (λ (n : ℕ). n * 2 ^ e) one) in
        let above : p ≤ s = omega arith in
        let left : (s + 1) % 2 ^ e ≡ s - p = omega arith in
        let below : s - p < p = omega arith in
        ap (λ (n : ℕ). (s + n) % 2 ^ e) one ∙ left ∙ sym (mod-eq-sub-mod above ∙ mod-eq_of_lt below)

-- a fold and this at once
pub reduced_short : (e p s : ℕ) → p ≡ modulus e → s < p * 2 ^ e → bit_and (s + (s + s / 2 ^ e + 1) / 2 ^ e) p ≡ s % p
reduced_short e p s h room =
    let small : fold e s < p + p = fold-lt e p s h room in
    let whole : s / 2 ^ e * 2 ^ e + s % 2 ^ e ≡ s = div-add-mod' s (2 ^ e) in
    let split : s + (s + s / 2 ^ e + 1) / 2 ^ e ≡ fold e s + (fold e s + 1) / 2 ^ e + 2 ^ e * (s / 2 ^ e) = omega (arith, passes e p s h small) in
    low_bits e p (s + (s + s / 2 ^ e + 1) / 2 ^ e) h
    ∙ ap (λ (n : ℕ). n % 2 ^ e) split
    ∙ add-mul-mod_self_left (fold e s + (fold e s + 1) / 2 ^ e) (2 ^ e) (s / 2 ^ e)
    ∙ sym (low_bits e p (fold e s + (fold e s + 1) / 2 ^ e) h)
    ∙ reduced e p (fold e s) h small
    ∙ fold_same e s h

-- of a multiple of 2^k the fold is a turn by k
fold_turns : (e k s : ℕ) → k ≤ e → s % 2 ^ k ≡ 0 → fold e s ≡ rotated e k (s / 2 ^ k)
unfolding rotated
fold_turns e k s places none =
    let up : e ≡ k + (e - k) = omega arith in
    let down : e ≡ (e - k) + k = omega arith in
    let high : s / 2 ^ e ≡ s / 2 ^ k / 2 ^ (e - k) = ap (λ (n : ℕ). s / 2 ^ n) up ∙ sym (shr-shr s k (e - k)) in
    let low : s % 2 ^ e ≡ s / 2 ^ k % 2 ^ (e - k) * 2 ^ k + s % 2 ^ k = ap (λ (n : ℕ). s % 2 ^ n) down ∙ mod-pow-add s (e - k) k in
    omega (arith, high, low, none)

-- so 2^u times a number below p is reduced by one fold
pub reduced_multiple : (e p s : ℕ) → p ≡ modulus e → 2 ≤ e → s % 2 ^ u ≡ 0 → s < 2 ^ u * p → fold e s ≡ s % p
reduced_multiple e p s h wide none small =
    let number : s / 4 < modulus e = omega (arith, h) in
    let whole : 4 * (s / 4) ≡ s = omega arith in
    fold_turns e u s wide none ∙ four_times e (s / 4) wide number ∙ rw (whole, h) refl
