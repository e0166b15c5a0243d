-- Sums column by column: bits and carries as plain numbers, and what word they make.
use Prim.Native.Nat.{ℕ, zero, suc, ◌+◌, ◌*◌, ◌/◌, ◌%◌, ◌<◌, ◌^◌}
use mathlib.Core.Bool.{cond}
use mathlib.Core.Path.{◌≡◌, ap, refl, ◌∙◌}
use native.Mathlib.Nat.{add_comm, mod-lt, pow-suc}
use native.Mathlib.Omega.{arith}
use lib.Dec.{eqb, lit<}
use lib.Pow.{mod-pow-add}
use Rattle.ring.specs.Modular.{Cong}
use Rattle.ring.specs.Rings.{bit_of}
use Rattle.ring.proofs.CongLaw.{cong_add, cong_below, cong_mod, cong_multiple, cong_of_eq, cong_refl, cong_sym, cong_trans}
use Rattle.gate.specs.Places.{Place, p0, p1, p2}
use Rattle.circuit.specs.Bits.{gather, xor}
use Rattle.circuit.proofs.BitsLaw.{gather-bits, gather-lt, gather_same, gather_split}
use Rattle.value.specs.Values.{rounded_up, summed}
use Rattle.value.proofs.SumLaw.{summed_cong}

-- a number below 2
data Bit : ℕ → Type 0 where
  off : Bit 0
  on : Bit 1

bit : (b : ℕ) → b < 2 → Bit b
bit zero h = off
bit (suc zero) h = on
bit (suc (suc b)) h = absurd (omega arith)

-- "c XOR ((x XOR c) AND (y XOR c))" is the carry of x + y + c
majority_cases : {x y c : ℕ} → Bit x → Bit y → Bit c → xor c (xor x c * xor y c % 2) ≡ (x + y + c) / 2
majority_cases off off off = refl
majority_cases off off on = refl
majority_cases off on off = refl
majority_cases off on on = refl
majority_cases on off off = refl
majority_cases on off on = refl
majority_cases on on off = refl
majority_cases on on on = refl

pub majority_carries : {x y c : ℕ} → x < 2 → y < 2 → c < 2 → xor c (xor x c * xor y c % 2) ≡ (x + y + c) / 2
majority_carries hx hy hc = majority_cases (bit _ hx) (bit _ hy) (bit _ hc)

-- and so is their product for two bits
product_cases : {x y : ℕ} → Bit x → Bit y → x * y % 2 ≡ (x + y) / 2
product_cases off off = refl
product_cases off on = refl
product_cases on off = refl
product_cases on on = refl

pub product_carries : {x y : ℕ} → x < 2 → y < 2 → x * y % 2 ≡ (x + y) / 2
product_carries hx hy = product_cases (bit _ hx) (bit _ hy)

-- "u + v - 2uv" is their exclusive or
xor_cases : {x y : ℕ} → Bit x → Bit y → xor x y + 2 * (x * y) ≡ x + y
xor_cases off off = refl
xor_cases off on = refl
xor_cases on off = refl
xor_cases on on = refl

pub xor_joins : {x y : ℕ} → x < 2 → y < 2 → xor x y + 2 * (x * y) ≡ x + y
xor_joins hx hy = xor_cases (bit _ hx) (bit _ hy)

-- "T0 XOR T1 XOR (T0 AND T1)" is 1 unless both are 0
either_cases : {x y : ℕ} → Bit x → Bit y → xor (xor x y) (x * y % 2) ≡ cond (eqb (x + 2 * y) 0) 0 1
either_cases off off = refl
either_cases off on = refl
either_cases on off = refl
either_cases on on = refl

-- each column's number is its bit and twice the carry into the next
column_out : (n k : ℕ) → n * 2 ^ k ≡ n % 2 * 2 ^ k + n / 2 * 2 ^ suc k
column_out n k =
    let halves : n ≡ n % 2 + 2 * (n / 2) = omega arith in
    omega (arith, ap (λ (m : ℕ). m * 2 ^ k) halves, ap (λ (m : ℕ). n / 2 * m) (pow-suc 2 k))

-- columns that add up add up as words
gather-add : (n : ℕ) (f g : ℕ → ℕ) → gather n (λ j. f j + g j) ≡ gather n f + gather n g
unfolding gather
gather-add zero f g = refl
gather-add (suc n) f g = omega (arith, gather-add n f g)

-- carries that are saved: out of column j into place j + 1
unfoldable pub saved : (ℕ → ℕ) → ℕ → ℕ
saved f zero = 0
saved f (suc j) = f j / 2

gather-saved : (n : ℕ) (f : ℕ → ℕ) → gather n f ≡ gather n (λ j. f j % 2) + gather (suc n) (saved f)
unfolding gather saved
gather-saved zero f = refl
gather-saved (suc n) f = omega (arith, gather-saved n f, column_out (f n) n)

-- carries that ripple, from a first one: out of column j into column j + 1
unfoldable pub rippled : (ℕ → ℕ) → ℕ → ℕ → ℕ
rippled f c zero = c
rippled f c (suc j) = (f j + rippled f c j) / 2

gather-rippled : (n : ℕ) (f : ℕ → ℕ) (c : ℕ) → gather n f + c ≡ gather n (λ j. (f j + rippled f c j) % 2) + rippled f c n * 2 ^ n
unfolding gather rippled
gather-rippled zero f c = omega arith
gather-rippled (suc n) f c = omega (arith, gather-rippled n f c, column_out (f n + rippled f c n) n)

-- the columns of x_0 + x_1 + x_2: sum bits, carries, running carries, and the bits of the total
abbrev pub column : (Place → ℕ) → ℕ → ℕ
column x j = summed (λ i. bit_of (x i) j)

abbrev pub sum_at : (Place → ℕ) → ℕ → ℕ
sum_at x j = column x j % 2

abbrev pub carry_at : (Place → ℕ) → ℕ → ℕ
carry_at x = saved (column x)

abbrev pub running_at : (Place → ℕ) → ℕ → ℕ
running_at x = rippled (λ j. sum_at x j + carry_at x j) 0

-- no carry comes into column 0, and no running carry into columns 0 and 1
pub carry_none : (x : Place → ℕ) (j : ℕ) → j < 1 → carry_at x j ≡ 0
unfolding saved
carry_none x zero h = refl
carry_none x (suc j) h = omega arith

pub running_none : (x : Place → ℕ) (j : ℕ) → j < 2 → running_at x j ≡ 0
unfolding saved rippled
running_none x zero h = refl
running_none x (suc zero) h = omega arith
running_none x (suc (suc j)) h = omega arith

unfoldable pub total_at : (Place → ℕ) → ℕ → ℕ
total_at x j = (sum_at x j + carry_at x j + running_at x j) % 2

total-at-lt : (x : Place → ℕ) (j : ℕ) → total_at x j < 2
unfolding total_at
total-at-lt x j = omega arith

gather-total : (n : ℕ) (x : Place → ℕ) → gather n (total_at x) ≡ summed x % 2 ^ n
unfolding gather total_at
gather-total n x =
    let P = 2 ^ n in
    let bits : (i : Place) → ℕ → ℕ = λ i. bit_of (x i) in
    let low : (i : Place) → gather n (bits i) ≡ x i % P = λ i. gather-bits n (x i) in
    let apart = gather-add n (λ j. bits p0 j + bits p1 j) (bits p2) in
    let columns : gather n (column x) ≡ summed (λ i. x i % P)
    = omega (arith, apart, gather-add n (bits p0) (bits p1), low p0, low p1, low p2) in
    let whole : gather n (total_at x) + P * (running_at x n + carry_at x n) ≡ summed (λ i. x i % P)
    = omega (arith, gather-rippled n (λ j. sum_at x j + carry_at x j) 0, gather-add n (sum_at x) (carry_at x), gather-saved n (column x)) in
    let remainders : Cong P (summed (λ i. x i % P)) (summed x) = summed_cong (λ i. cong_mod P (x i)) in
    cong_below (gather-lt n (total_at x) (total-at-lt x))
    (cong_trans (cong_sym (cong_multiple P (gather n (total_at x)) (running_at x n + carry_at x n)))
    (cong_trans (cong_of_eq whole) remainders))

-- the increment: its first carry, the carries after it, and the bits of the rounded quotient
unfoldable pub first_at : (Place → ℕ) → ℕ
first_at x = xor (xor (total_at x 0) (total_at x 1)) (total_at x 0 * total_at x 1 % 2)

abbrev pub raising_at : (Place → ℕ) → ℕ → ℕ
raising_at x = rippled (λ j. total_at x (j + 2)) (first_at x)

abbrev pub digit_at : (Place → ℕ) → ℕ → ℕ
digit_at x j = (total_at x (j + 2) + raising_at x j) % 2

pub digit-at-lt : (x : Place → ℕ) (j : ℕ) → digit_at x j < 2
digit-at-lt x j = mod-lt (total_at x (j + 2) + raising_at x j) (lit< tt)

pub gather_digits : (l : ℕ) (x : Place → ℕ) → gather l (digit_at x) ≡ rounded_up (summed x) % 2 ^ l
unfolding gather first_at
gather_digits l x =
    let X = summed x in
    let t₀ = total_at x 0 in
    let t₁ = total_at x 1 in
    let high = gather l (λ j. total_at x (j + 2)) in
    let swap : gather l (λ j. total_at x (2 + j)) ≡ high = gather_same l (λ j h. ap (total_at x) (add_comm 2 j)) in
    let whole : t₀ + 2 * t₁ + 4 * high ≡ X / 4 % 2 ^ l * 4 + X % 4
    = omega (arith, gather_split 2 l (total_at x), swap, gather-total (2 + l) x, ap (λ (n : ℕ). X % 2 ^ n) (add_comm 2 l), mod-pow-add X l 2) in
    let low : t₀ + 2 * t₁ ≡ X % 4 = omega (arith, total-at-lt x 0, total-at-lt x 1) in
    let first : first_at x ≡ cond (eqb (X % 4) 0) 0 1
    = either_cases (bit t₀ (total-at-lt x 0)) (bit t₁ (total-at-lt x 1)) ∙ ap (λ (n : ℕ). cond (eqb n 0) 0 1) low in
    let raised : gather l (digit_at x) + 2 ^ l * raising_at x l ≡ X / 4 % 2 ^ l + cond (eqb (X % 4) 0) 0 1
    = omega (arith, gather-rippled l (λ j. total_at x (j + 2)) (first_at x)) in
    cong_below (gather-lt l (digit_at x) (digit-at-lt x))
    (cong_trans (cong_sym (cong_multiple (2 ^ l) (gather l (digit_at x)) (raising_at x l)))
    (cong_trans (cong_of_eq raised) (cong_add (cong_mod (2 ^ l) (X / 4)) (cong_refl (cond (eqb (X % 4) 0) 0 1)))))
