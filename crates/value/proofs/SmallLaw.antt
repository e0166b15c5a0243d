-- Where four times the value is below the modulus: the quotient of X by p, and what rounding X div 4 up leaves.
use Prim.Native.Nat.{ℕ, zero, suc, ◌+◌, ◌*◌, ◌-◌, ◌/◌, ◌%◌, ◌<◌, ◌≤◌, ◌^◌}
use mathlib.Core.Path.{◌≡◌, ap, refl, ◌∙◌}
use native.Mathlib.Nat.{add-mul-mod_self_left, div-add-mod, div-lt_iff_lt-mul, mod-eq_of_lt, mod-lt}
use native.Mathlib.Omega.{arith}
use lib.Dec.{eqb-suc-zero, lit<}
use lib.Pow.{pow-add}
use Rattle.ring.specs.Modular.{Cong, diff}
use Rattle.ring.specs.Rings.{modulus}
use Rattle.ring.proofs.CongLaw.{cong_mod, cong_mul, cong_of_eq, cong_refl, cong_sym, cong_trans, diff_only}
use Rattle.gate.specs.Places.{Place, p0, p1, p2, total}
use Rattle.value.specs.Values.{lifted, rounded_up, summed}
use Rattle.value.proofs.ModulusLaw.{modulus_fours, modulus_pos}
use Rattle.value.proofs.SumLaw.{summed_cong, total_cong}

-- the quotient by p, which is -1 modulo 4, of a number below 3p that is a multiple of four modulo p
pub transferred : (p Q X b : ℕ) → 0 < p → p + 1 ≡ 4 * Q → X < 3 * p → X % p ≡ b → b % 4 ≡ 0 → X ≡ b + p * diff 4 0 X
transferred p Q X b positive power below is four =
    let q = X / p in
    let whole : p * q + X % p ≡ X = div-add-mod X p in
    let few : q < 3 = (div-lt_iff_lt-mul positive).1 below in
    let fours : p * q + q ≡ 4 * (Q * q) = omega (arith, ap (λ (n : ℕ). n * q) power) in
    let none : (q + X) % 4 ≡ 0 = omega arith in
    let is_q : q ≡ diff 4 0 X = diff_only X (lit< tt) (omega arith) (record { same = none }) in
    omega (arith, ap (λ (n : ℕ). p * n) is_q)

-- n and what it lacks to the next multiple of four are four times n div 4 rounded up
four_rounded : (n : ℕ) → 4 * rounded_up n ≡ n + diff 4 0 n
unfolding diff
four_rounded n = go (n % 4) refl
  where
    go : (r : ℕ) → n % 4 ≡ r → 4 * rounded_up n ≡ n + diff 4 0 n
    go zero e = rw e (omega arith)
    go (suc r) e = rw (e, eqb-suc-zero r) (omega arith)

-- X is 4a and a multiple of p
pub lifted-small : (e : ℕ) (a : Place → ℕ) → 2 ≤ e → 4 * total (modulus e) a < modulus e
    → lifted e a ≡ 4 * total (modulus e) a + modulus e * diff 4 0 (lifted e a)
unfolding total
lifted-small e a h small =
    let p = modulus e in
    let x : Place → ℕ = λ i. 4 * a i % p in
    let fours : summed (λ i. 4 * a i) ≡ 4 * summed a = omega arith in
    let value : Cong p (summed x) (4 * total p a)
    = cong_trans (summed_cong (λ i. cong_mod p (4 * a i)))
    (cong_trans (cong_of_eq fours) (cong_mul (cong_refl 4) (cong_sym (total_cong p a)))) in
    let positive : 0 < p = modulus_pos e (omega arith) in
    let x_lt : (i : Place) → x i < p = λ i. mod-lt (4 * a i) positive in
    let below : summed x < 3 * p = omega (arith, x_lt p0, x_lt p1, x_lt p2) in
    transferred p (2 ^ (e - 2)) (summed x) (4 * total p a) positive (modulus_fours e h) below
    (value.same ∙ mod-eq_of_lt small) (omega arith)

-- so X div 4 rounded up is a, and a multiple of 2^(e-2)
rounded_small : (e : ℕ) (a : Place → ℕ) → 2 ≤ e → 4 * total (modulus e) a < modulus e
    → rounded_up (lifted e a) ≡ total (modulus e) a + 2 ^ (e - 2) * diff 4 0 (lifted e a)
rounded_small e a h small =
    let X = lifted e a in
    let q = diff 4 0 X in
    let fours : 4 * rounded_up X ≡ X + q = four_rounded X in
    let whole : X ≡ 4 * total (modulus e) a + modulus e * q = lifted-small e a h small in
    let power : modulus e * q + q ≡ 4 * (2 ^ (e - 2) * q) = omega (arith, ap (λ (n : ℕ). n * q) (modulus_fours e h)) in
    omega arith

pub rounded_mod : (e l : ℕ) (a : Place → ℕ) → l + 2 ≤ e → 4 * total (modulus e) a < modulus e
    → rounded_up (lifted e a) % 2 ^ l ≡ total (modulus e) a % 2 ^ l
rounded_mod e l a h small =
    let q = diff 4 0 (lifted e a) in
    let d = e - 2 - l in
    let apart : e - 2 ≡ l + d = omega arith in
    let power : 2 ^ (e - 2) ≡ 2 ^ l * 2 ^ d = ap (λ (n : ℕ). 2 ^ n) apart ∙ pow-add 2 l d in
    let whole : rounded_up (lifted e a) ≡ total (modulus e) a + 2 ^ l * (2 ^ d * q)
    = omega (arith, rounded_small e a (omega arith) small, ap (λ (n : ℕ). n * q) power) in
    ap (λ (n : ℕ). n % 2 ^ l) whole ∙ add-mul-mod_self_left (total (modulus e) a) (2 ^ l) (2 ^ d * q)
