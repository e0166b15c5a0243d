-- Ring facts, each for all widths together (specs/Theorems.antt).
use Prim.Native.Nat.{ℕ, ◌+◌, ◌*◌, ◌-◌, ◌/◌, ◌%◌, ◌<◌, ◌≤◌, ◌^◌}
use mathlib.Core.Path.{◌≡◌, sym, ◌∙◌, ap}
use mathlib.Core.Logic.{⊎_elim}
use native.Mathlib.Nat.{
  div-add-mod',
  div-lt_iff_lt-mul,
  div-mul-le_self,
  eq-or-lt_of_le,
  le-div_iff_mul-le,
  le_refl,
  mod-eq_of_lt,
  mod-lt,
  mul-le-mul,
}
use native.Mathlib.Omega.{arith}
use lib.Pow.{pow-add, pow_pos, pow_mono}
use Rattle.ring.specs.Modular.{Cong}
use Rattle.ring.specs.Rings.{modulus, quarter, rotated}
use Rattle.ring.specs.Theorems.{Folds, FourTimes, Product, Quarter, Rotates}
use Rattle.ring.proofs.CongLaw.{cong_of_eq, cong_trans, cong_sym, cong_multiple, cong_below}

-- 2^e is one more than the modulus
pub modulus-suc : (e : ℕ) → modulus e + 1 ≡ 2 ^ e
unfolding modulus
modulus-suc e = omega (arith, pow_pos e)

-- so it is 1
pub whole_rotation : (e : ℕ) → Cong (modulus e) 1 (2 ^ e)
whole_rotation e =
    let one_more : 1 + modulus e * 1 ≡ 2 ^ e = omega (arith, modulus-suc e) in
    cong_trans (cong_sym (cong_multiple (modulus e) 1 1)) (cong_of_eq one_more)

-- 2^e is four times 2^(e-2)
pub four_quarters : (e : ℕ) → 2 ≤ e → 4 * 2 ^ (e - 2) ≡ 2 ^ e
four_quarters e h =
    let split : (e - 2) + 2 ≡ e = omega arith in
    let whole : 2 ^ e ≡ 2 ^ (e - 2) * 2 ^ 2 = ap (λ (n : ℕ). 2 ^ n) (sym split) ∙ pow-add 2 (e - 2) 2 in
    omega arith

pub folds : Folds
folds e high low =
    let grown : high * 2 ^ e ≡ high * (modulus e + 1) = ap (λ (n : ℕ). high * n) (sym (modulus-suc e)) in
    let e' : high * 2 ^ e + low ≡ high + low + modulus e * high = omega arith in
    cong_trans (cong_of_eq e') (cong_multiple (modulus e) (high + low) high)

split_power : (e k : ℕ) → k ≤ e → 2 ^ e ≡ 2 ^ (e - k) * 2 ^ k
split_power e k h =
    let split : (e - k) + k ≡ e = omega arith in
    ap (λ (n : ℕ). 2 ^ n) (sym split) ∙ pow-add 2 (e - k) k

-- a wider shift leaves less
pub div-pow-le : {i e : ℕ} (s : ℕ) → i ≤ e → s / 2 ^ e ≤ s / 2 ^ i
div-pow-le {i} {e} s wide =
    (le-div_iff_mul-le (pow_pos i)).1 (omega (arith, mul-le-mul (le_refl (s / 2 ^ e)) (pow_mono wide), div-mul-le_self s (2 ^ e)))

-- a rotated word is below the modulus unless all its bits are ones: Q is 2^(e-k), K is 2^k
turn_below : (Q K high low : ℕ) → low < Q → high < K → high * Q + low + 1 < Q * K → low * K + high + 1 < Q * K
turn_below Q K high low small top below =
    ⊎_elim
    (λ (last : low + 1 ≡ Q). ⊎_elim
    (λ (e : high + 1 ≡ K). let full : (high + 1) * Q ≡ K * Q = ap (λ (n : ℕ). n * Q) e in omega arith)
    (λ (l : high + 1 < K). let e : (low + 1) * K ≡ Q * K = ap (λ (n : ℕ). n * K) last in omega arith)
    (eq-or-lt_of_le {n = high + 1} {m = K} (omega arith)))
    (λ (l : low + 1 < Q). omega (arith, mul-le-mul l (le_refl K)))
    (eq-or-lt_of_le {n = low + 1} {m = Q} (omega arith))

-- what a turn stands for, of any number
pub rotated_cong : (e k a : ℕ) → k ≤ e → Cong (modulus e) (rotated e k a) (2 ^ k * a)
unfolding rotated
rotated_cong e k a h =
    let Q = 2 ^ (e - k) in
    let K = 2 ^ k in
    let whole : a / Q * Q + a % Q ≡ a = div-add-mod' a Q in
    let moved : a / Q * 2 ^ e + a % Q * K ≡ K * a
    = omega (arith, ap (λ (n : ℕ). a / Q * n) (split_power e k h), ap (λ (n : ℕ). n * K) whole) in
    let order : a % Q * K + a / Q ≡ a / Q + a % Q * K = omega arith in
    cong_trans (cong_of_eq order) (cong_trans (cong_sym (folds e (a / Q) (a % Q * K))) (cong_of_eq moved))

pub rotates : Rotates
unfolding rotated
rotates e k a h below =
    let Q = 2 ^ (e - k) in
    let K = 2 ^ k in
    let powers : 2 ^ e ≡ Q * K = split_power e k h in
    let whole : a / Q * Q + a % Q ≡ a = div-add-mod' a Q in
    let top : modulus e + 1 ≡ 2 ^ e = modulus-suc e in
    let small : a % Q < Q = mod-lt a (pow_pos (e - k)) in
    let high : a / Q < K = (div-lt_iff_lt-mul (pow_pos (e - k))).1 (omega arith) in
    let fits : a % Q * K + a / Q < modulus e = omega (arith, turn_below Q K (a / Q) (a % Q) small high (omega arith)) in
    cong_below fits (rotated_cong e k a h)

-- a turn of a number adds at most its half to p
pub rotated-le : (e k a : ℕ) → k < e → rotated e k a ≤ modulus e + a / 2
unfolding rotated
rotated-le e k a h =
    let rest : a % 2 ^ (e - k) + 1 ≤ 2 ^ (e - k) = omega (arith, mod-lt a (pow_pos (e - k))) in
    let low : (a % 2 ^ (e - k) + 1) * 2 ^ k ≤ 2 ^ (e - k) * 2 ^ k = mul-le-mul rest (le_refl (2 ^ k)) in
    let high : a / 2 ^ (e - k) ≤ a / 2 ^ 1 = div-pow-le {i = 1} a (omega arith) in
    omega (arith, low, high, split_power e k (omega arith), modulus-suc e, pow_pos k)

pub four_times : FourTimes
four_times e a = rotates e 2 a

pub quarter_inverts : Quarter
unfolding quarter
quarter_inverts e h =
    let fours : 4 * 2 ^ (e - 2) ≡ 2 ^ e = four_quarters e h in
    let top : modulus e + 1 ≡ 2 ^ e = modulus-suc e in
    let large : 2 ^ 2 ≤ 2 ^ e = pow_mono h in
    let e₁ : 4 * 2 ^ (e - 2) ≡ 1 + modulus e * 1 = omega arith in
    let one : 1 < modulus e = omega arith in
    (cong_trans (cong_of_eq e₁) (cong_multiple (modulus e) 1 1)).same ∙ mod-eq_of_lt one

-- which is a number of the ring
pub quarter_below : (e : ℕ) → 2 ≤ e → quarter e < modulus e
unfolding quarter
quarter_below e h = omega (arith, four_quarters e h, modulus-suc e, pow_pos (e - 2))

-- the columns of two products of two-digit numbers at base 2L, where the middle one is cut at L
columns : (L a₁ a₀ b₁ b₀ c₁ c₀ d₁ d₀ m₁ m₀ : ℕ)
    → a₁ * b₀ + a₀ * b₁ + (c₁ * d₀ + c₀ * d₁) ≡ m₁ * L + m₀
    → (2 * (a₁ * b₁ + c₁ * d₁) + m₁) * (2 * (L * L)) + (m₀ * (2 * L) + (a₀ * b₀ + c₀ * d₀))
    ≡ (a₁ * (2 * L) + a₀) * (b₁ * (2 * L) + b₀) + (c₁ * (2 * L) + c₀) * (d₁ * (2 * L) + d₀)
columns L a₁ a₀ b₁ b₀ c₁ c₀ d₁ d₀ m₁ m₀ middle = omega (arith, ap (λ (n : ℕ). n * (2 * L)) middle)

-- 2^(k+1) and 2^(2k+1) from 2^k
pub next_power : (k : ℕ) → 2 ^ (k + 1) ≡ 2 * 2 ^ k
next_power k = omega (arith, pow-add 2 k 1)

pub odd_power : (k : ℕ) → 2 ^ (2 * k + 1) ≡ 2 * (2 ^ k * 2 ^ k)
odd_power k =
    let twice : 2 * k + 1 ≡ (k + k) + 1 = omega arith in
    ap (λ (n : ℕ). 2 ^ n) twice ∙ omega (arith, pow-add 2 (k + k) 1, pow-add 2 k k)

pub product : Product
product k a₁ a₀ b₁ b₀ c₁ c₀ d₁ d₀ m₁ m₀ middle =
    let high : ℕ = 2 * (a₁ * b₁ + c₁ * d₁) + m₁ in
    let low : ℕ = a₀ * b₀ + c₀ * d₀ in
    let cols : high * 2 ^ (2 * k + 1) + (m₀ * 2 ^ (k + 1) + low)
    ≡ (a₁ * 2 ^ (k + 1) + a₀) * (b₁ * 2 ^ (k + 1) + b₀) + (c₁ * 2 ^ (k + 1) + c₀) * (d₁ * 2 ^ (k + 1) + d₀)
    = rw (next_power k, odd_power k) (columns (2 ^ k) a₁ a₀ b₁ b₀ c₁ c₀ d₁ d₀ m₁ m₀ middle) in
    let regroup : high + m₀ * 2 ^ (k + 1) + low ≡ high + (m₀ * 2 ^ (k + 1) + low) = omega arith in
    cong_trans (cong_of_eq regroup) (cong_trans (cong_sym (folds (2 * k + 1) high (m₀ * 2 ^ (k + 1) + low))) (cong_of_eq cols))
