-- Laws of congruence modulo m, and of the difference, for every m: the one place for all crates.
use Prim.Native.Nat.{ℕ, ◌+◌, ◌*◌, ◌-◌, ◌/◌, ◌%◌, ◌<◌}
use mathlib.Core.Path.{◌≡◌, refl, sym, ◌∙◌, ap}
use native.Mathlib.Nat.{add-mod, mod-mod, mod-eq_of_lt, mod-lt, add-mul-mod_self_left, div-add-mod}
use native.Mathlib.Omega.{arith}
use Rattle.ring.specs.Modular.{Cong, diff}

pub cong_of_eq : {m a b : ℕ} → a ≡ b → Cong m a b
cong_of_eq {m} e = record { same = ap (λ (n : ℕ). n % m) e }

pub cong_refl : {m : ℕ} (a : ℕ) → Cong m a a
cong_refl a = cong_of_eq refl

pub cong_sym : {m a b : ℕ} → Cong m a b → Cong m b a
cong_sym h = record { same = sym h.same }

pub cong_trans : {m a b c : ℕ} → Cong m a b → Cong m b c → Cong m a c
cong_trans h k = record { same = h.same ∙ k.same }

-- a remainder stands for its number
pub cong_mod : (m a : ℕ) → Cong m (a % m) a
cong_mod m a = record { same = mod-mod a m }

-- multiples of m vanish
pub cong_multiple : (m a k : ℕ) → Cong m (a + m * k) a
cong_multiple m a k = record { same = add-mul-mod_self_left a m k }

pub cong_add : {m a b c d : ℕ} → Cong m a b → Cong m c d → Cong m (a + c) (b + d)
cong_add {m} {a} {b} {c} {d} h k = record { same = rw (add-mod a c m, add-mod b d m, h.same, k.same) }

cong_mul_l : {m a b : ℕ} (c : ℕ) → Cong m a b → Cong m (a * c) (b * c)
cong_mul_l {m} {a} {b} c h =
    cong_trans (cong_sym (reduced a)) (cong_trans (cong_of_eq (ap (λ (n : ℕ). n * c) h.same)) (reduced b))
  where
    reduced : (n : ℕ) → Cong m (n % m * c) (n * c)
    reduced n =
        let whole : n * c ≡ (m * (n / m) + n % m) * c = ap (λ (k : ℕ). k * c) (sym (div-add-mod n m)) in
        let e : n % m * c + m * (n / m * c) ≡ n * c = omega arith in
        cong_trans (cong_sym (cong_multiple m (n % m * c) (n / m * c))) (cong_of_eq e)

pub cong_mul : {m a b c d : ℕ} → Cong m a b → Cong m c d → Cong m (a * c) (b * d)
cong_mul {m} {a} {b} {c} {d} h k =
    let swap : b * c ≡ c * b = omega arith in
    let back : d * b ≡ b * d = omega arith in
    cong_trans (cong_mul_l c h) (cong_trans (cong_of_eq swap) (cong_trans (cong_mul_l b k) (cong_of_eq back)))

-- what is below m is its own remainder
pub cong_small : {m a b : ℕ} → a < m → b < m → Cong m a b → a ≡ b
cong_small ha hb h = sym (mod-eq_of_lt ha) ∙ h.same ∙ mod-eq_of_lt hb

pub cong_below : {m a b : ℕ} → a < m → Cong m a b → a ≡ b % m
cong_below ha h = sym (mod-eq_of_lt ha) ∙ h.same

-- m - b % m stands for -b
cong_negated : (m b : ℕ) → 0 < m → Cong m (b + (m - b % m)) 0
cong_negated m b h =
    let below : b % m < m = mod-lt b h in
    let whole : m * (b / m) + b % m ≡ b = div-add-mod b m in
    let e : b + (m - b % m) ≡ 0 + m * (b / m + 1) = omega arith in
    cong_trans (cong_of_eq e) (cong_multiple m 0 (b / m + 1))

pub cong_cancel : {m a b : ℕ} (c : ℕ) → 0 < m → Cong m (a + c) (b + c) → Cong m a b
cong_cancel {m} {a} {b} c h k = cong_trans (cong_sym (shed a)) (cong_trans (cong_add k (cong_refl (m - c % m))) (shed b))
  where
    shed : (n : ℕ) → Cong m (n + c + (m - c % m)) n
    shed n =
        let e : n + c + (m - c % m) ≡ n + (c + (m - c % m)) = omega arith in
        let z : n + 0 ≡ n = omega arith in
        cong_trans (cong_of_eq e) (cong_trans (cong_add (cong_refl n) (cong_negated m c h)) (cong_of_eq z))

-- the difference is what b adds to, to give a
pub diff-add : (m a b : ℕ) → 0 < m → Cong m (diff m a b + b) a
unfolding diff
diff-add m a b h =
    let e : a + (m - b % m) + b ≡ a + (b + (m - b % m)) = omega arith in
    let z : a + 0 ≡ a = omega arith in
    cong_trans (cong_add (cong_mod m (a + (m - b % m))) (cong_refl b))
    (cong_trans (cong_of_eq e) (cong_trans (cong_add (cong_refl a) (cong_negated m b h)) (cong_of_eq z)))

pub diff-lt : (m a b : ℕ) → 0 < m → diff m a b < m
unfolding diff
diff-lt m a b h = mod-lt (a + (m - b % m)) h

-- and it is the only number below m that does
pub diff_only : {m a d : ℕ} (b : ℕ) → 0 < m → d < m → Cong m (d + b) a → d ≡ diff m a b
diff_only {m} {a} {d} b h hd k =
    cong_small hd (diff-lt m a b h) (cong_cancel b h (cong_trans k (cong_sym (diff-add m a b h))))

pub diff_cong : {m a b c d : ℕ} → 0 < m → Cong m a c → Cong m b d → diff m a b ≡ diff m c d
diff_cong {m} {a} {b} {c} {d} h p q =
    diff_only d h (diff-lt m a b h)
    (cong_trans (cong_add (cong_refl (diff m a b)) (cong_sym q)) (cong_trans (diff-add m a b h) p))
