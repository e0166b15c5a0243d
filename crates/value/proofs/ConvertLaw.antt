-- A conversion's first gate: the two bits of q, the total of the r_i modulo 4.
use Prim.Native.Nat.{ℕ, zero, suc, ◌+◌, ◌*◌, ◌/◌, ◌%◌, ◌<◌}
use mathlib.Core.Path.{◌≡◌, ap, refl, sym, ◌∙◌}
use native.Mathlib.Nat.{mod-lt}
use native.Mathlib.Omega.{arith}
use lib.Dec.{lit<}
use Rattle.ring.specs.Modular.{Cong, diff}
use Rattle.ring.specs.Rings.{bit_of}
use Rattle.ring.proofs.CongLaw.{cong_add, cong_mod, cong_mul, cong_of_eq, cong_refl, cong_trans, diff-lt, diff_only}
use Rattle.gate.specs.Places.{Place, p0, p1, p2, total}
use Rattle.circuit.specs.Bits.{gather, xor}
use Rattle.circuit.specs.Circuits.{words}
use Rattle.circuit.specs.Compose.{Summing, summing_start}
use Rattle.circuit.specs.Orders.{Quotient, low_bit, quotient_bit, quotient_gate, quotient_start}
use Rattle.circuit.proofs.BitsLaw.{bit_lt}
use Rattle.circuit.proofs.RunLaw.{step}
use Rattle.value.specs.Values.{summed}
use Rattle.value.proofs.BitsLaw.{total-alone, total-xor}
use Rattle.value.proofs.ComposeLaw.{opened_bit}
use Rattle.value.proofs.GateLaw.{majority-total, step_is, words-total}
use Rattle.value.proofs.SumLaw.{diff_of_summed, summed_cong, summed-diff, total_of}

-- a number below 4 has two bits
two-bits : (r : ℕ) → r < 4 → r ≡ bit_of r 0 + 2 * bit_of r 1
unfolding bit_of
two-bits r h = omega arith

-- minus the total is the total of what each lacks
negated_total : (x : Place → ℕ) → summed (λ i. diff 4 0 (x i)) % 4 ≡ diff 4 0 (summed x)
negated_total x =
    let r = summed (λ i. diff 4 0 (x i)) in
    diff_only (summed x) (lit< tt) (mod-lt r (lit< tt))
    (cong_trans (cong_add (cong_mod 4 r) (cong_refl (summed x))) (summed-diff 4 (lit< tt) (λ i. 0) x))

-- the bits of q from those of the r_i
two-columns : (u v : ℕ) → u % 2 + 2 * ((v % 2 + u / 2) % 2) ≡ (u + 2 * v) % 4
two-columns u v = omega arith

pub quotient_bit_lt : (i : Place) (s : Quotient) (j : ℕ) → quotient_bit i s j < 2
quotient_bit_lt i s zero = bit_lt s.r 0
quotient_bit_lt i s (suc j) = mod-lt (bit_of s.r 1 + s.carry) (lit< tt)

-- after the first gate
pub record Quotients (x : Place → ℕ) (s : Place → Summing Quotient) : Type 0 where
  pub same : (i : Place) → (s i).kept.x ≡ x i
  pub none : (i : Place) → (s i).sum ≡ 0
  pub opened : gather 2 (opened_bit quotient_bit (λ i. (s i).kept)) ≡ diff 4 0 (summed x)

pub quotient_holds : (x : Place → ℕ) (t : Place → ℕ) → Quotients x (step quotient_gate (λ i. summing_start (quotient_start (x i))) t)
unfolding quotient_gate gather total
quotient_holds x t =
    let s : Place → Summing Quotient = λ i. summing_start (quotient_start (x i)) in
    let z = words quotient_gate s t in
    let r : Place → ℕ = λ i. diff 4 0 (x i) in
    let low : Place → ℕ = λ i. bit_of (r i) 0 in
    let high : Place → ℕ = λ i. bit_of (r i) 1 in
    let carry : Place → ℕ = λ i. xor (low_bit p2 i (s i)) (z i) in
    let carries : total 2 carry ≡ summed low / 2
    = majority-total (λ i. low_bit p0 i (s i)) (λ i. low_bit p1 i (s i)) (λ i. low_bit p2 i (s i)) z (words-total quotient_gate (lit< tt) s t)
    ∙ rw (total-alone p0 r 0, total-alone p1 r 0, total-alone p2 r 0) in
    let second : total 2 (λ i. xor (high i) (carry i)) ≡ (summed high % 2 + summed low / 2) % 2
    = total-xor high carry ∙ ap (λ (n : ℕ). xor (total 2 high) n) carries in
    let whole : summed r ≡ summed low + 2 * summed high = omega (arith, digits p0, digits p1, digits p2) in
    let q : summed low % 2 + 2 * ((summed high % 2 + summed low / 2) % 2) ≡ diff 4 0 (summed x)
    = two-columns (summed low) (summed high) ∙ ap (λ (n : ℕ). n % 4) (sym whole) ∙ negated_total x in
    let columns : 0 + total 2 low * 1 + total 2 (λ i. xor (high i) (carry i)) * 2 ≡ diff 4 0 (summed x)
    = rw second (omega (arith, q)) in
    rw (step_is quotient_gate s t) (record { same = λ i. refl; none = λ i. refl; opened = columns })
  where
    digits : (i : Place) → diff 4 0 (x i) ≡ bit_of (diff 4 0 (x i)) 0 + 2 * bit_of (diff 4 0 (x i)) 1
    digits i = two-bits (diff 4 0 (x i)) (diff-lt 4 0 (x i) (lit< tt))

-- "Sub-share i is 4^(-1) × (x_i - p q_i) modulo p'"
pub converted-total : (m p c : ℕ) → 0 < m → (x sum : Place → ℕ) {q : ℕ} → Cong m (summed sum) q
    → total m (λ i. c * diff m (x i) (p * sum i) % m) ≡ c * diff m (summed x) (p * q) % m
converted-total m p c h x sum {q} is =
    let d : Place → ℕ = λ i. diff m (x i) (p * sum i) in
    let multiples : summed (λ i. p * sum i) ≡ p * summed sum = omega arith in
    let regroup : summed (λ i. c * d i) ≡ c * summed d = omega arith in
    let quotients = cong_trans (cong_of_eq multiples) (cong_mul (cong_refl p) is) in
    total_of (λ i. c * d i % m)
    (cong_trans (summed_cong (λ i. cong_mod m (c * d i)))
    (cong_trans (cong_of_eq regroup) (cong_mul (cong_refl c) (diff_of_summed h x (λ i. p * sum i) quotients))))
