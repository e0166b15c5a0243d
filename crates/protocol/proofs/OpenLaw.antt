-- An opening tells a party no more than the value: the sub-share that it lacks follows from the value and its own two.
use Prim.Native.Nat.{ℕ, zero, suc, ◌+◌, ◌*◌, ◌/◌, ◌%◌, ◌<◌}
use mathlib.Core.Path.{◌≡◌, ap, ap₂, refl, sym, ◌∙◌}
use native.Mathlib.Omega.{arith}
use lib.Arith.{bin_ind}
use lib.Bits.{bit_xor, differ, xor_comm, xor_step, xor_zero_l}
use Rattle.ring.specs.Rings.{modulus_of}
use Rattle.ring.proofs.CongLaw.{cong_cancel, cong_small}
use Rattle.gate.specs.Places.{Below, Place, next, p0, p1, p2, total}
use Rattle.circuit.specs.Bits.{exclusive}
use Rattle.view.specs.Views.{lacked_by}
use Rattle.machine.specs.Registers.{Kind, bits, empty, number}
use Rattle.outcome.proofs.RegisterLaw.{Fits, value_as}

differ_bit : (x y : ℕ) → x < 2 → y < 2 → differ x y ≡ (x + y) % 2
differ_bit zero y hx hy = omega arith
differ_bit (suc zero) zero hx hy = refl
differ_bit (suc zero) (suc zero) hx hy = refl
differ_bit (suc zero) (suc (suc y)) hx hy = absurd (omega arith)
differ_bit (suc (suc x)) y hx hy = absurd (omega arith)

-- exclusive or cancels
xor_cancel : (a b c : ℕ) → bit_xor a b ≡ bit_xor a c → b ≡ c
xor_cancel = bin_ind (λ (a : ℕ). (b c : ℕ) → bit_xor a b ≡ bit_xor a c → b ≡ c) base step
  where
    base : (b c : ℕ) → bit_xor 0 b ≡ bit_xor 0 c → b ≡ c
    base b c e = sym (xor_zero_l b) ∙ e ∙ xor_zero_l c

    step : (a : ℕ) → ((b c : ℕ) → bit_xor (a / 2) b ≡ bit_xor (a / 2) c → b ≡ c) → (b c : ℕ) → bit_xor a b ≡ bit_xor a c → b ≡ c
    step a ih b c e =
        let parted : bit_xor (a / 2) (b / 2) * 2 + differ (a % 2) (b % 2) ≡ bit_xor (a / 2) (c / 2) * 2 + differ (a % 2) (c % 2)
        = sym (xor_step a b) ∙ e ∙ xor_step a c in
        let low-b = differ_bit (a % 2) (b % 2) (omega arith) (omega arith) in
        let low-c = differ_bit (a % 2) (c % 2) (omega arith) (omega arith) in
        let high : bit_xor (a / 2) (b / 2) ≡ bit_xor (a / 2) (c / 2) = omega arith in
        let halves : b / 2 ≡ c / 2 = ih (b / 2) (c / 2) high in
        omega arith

last_same : (p a b s : ℕ) → a < p → b < p → (t u : ℕ) → a + s ≡ t → b + s ≡ u → t % p ≡ u % p → a ≡ b
last_same p a b s ha hb t u x y e =
    cong_small ha hb (cong_cancel s (omega arith) (record { same = ap (λ (n : ℕ). n % p) x ∙ e ∙ ap (λ (n : ℕ). n % p) (sym y) }))

-- two sharings of one value that agree in two sub-shares agree in the third
third_total : (U : Place) (p : ℕ) (z w : Place → ℕ) → Below p z → Below p w → z U ≡ w U → z (next U) ≡ w (next U) → total p z ≡ total p w
    → z (lacked_by U) ≡ w (lacked_by U)
unfolding total
third_total p0 p z w hz hw a b e =
    last_same p (z p2) (w p2) (z p0 + z p1) (hz p2) (hw p2) (z p0 + z p1 + z p2) (w p0 + w p1 + w p2) (omega arith) (omega arith) e
third_total p1 p z w hz hw a b e =
    last_same p (z p0) (w p0) (z p1 + z p2) (hz p0) (hw p0) (z p0 + z p1 + z p2) (w p0 + w p1 + w p2) (omega arith) (omega arith) e
third_total p2 p z w hz hw a b e =
    last_same p (z p1) (w p1) (z p2 + z p0) (hz p1) (hw p1) (z p0 + z p1 + z p2) (w p0 + w p1 + w p2) (omega arith) (omega arith) e

first-pair : (a b c a' b' c' : ℕ) → c ≡ c' → bit_xor (bit_xor a b) c ≡ bit_xor (bit_xor a' b') c' → bit_xor a b ≡ bit_xor a' b'
first-pair a b c a' b' c' q e =
    xor_cancel c (bit_xor a b) (bit_xor a' b')
    (xor_comm c (bit_xor a b) ∙ e ∙ xor_comm (bit_xor a' b') c' ∙ ap (λ (n : ℕ). bit_xor n (bit_xor a' b')) (sym q))

third_exclusive : (U : Place) (z w : Place → ℕ) → z U ≡ w U → z (next U) ≡ w (next U) → exclusive z ≡ exclusive w → z (lacked_by U) ≡ w (lacked_by U)
unfolding exclusive
third_exclusive p0 z w a b e = xor_cancel (bit_xor (z p0) (z p1)) (z p2) (w p2) (e ∙ ap (λ (n : ℕ). bit_xor n (w p2)) (ap₂ bit_xor (sym a) (sym b)))
third_exclusive p1 z w a b e =
    let pairs = first-pair (z p0) (z p1) (z p2) (w p0) (w p1) (w p2) b e in
    xor_cancel (z p1) (z p0) (w p0) (xor_comm (z p1) (z p0) ∙ pairs ∙ xor_comm (w p0) (w p1) ∙ ap (λ (n : ℕ). bit_xor n (w p0)) (sym a))
third_exclusive p2 z w a b e =
    let pairs = first-pair (z p0) (z p1) (z p2) (w p0) (w p1) (w p2) a e in
    xor_cancel (z p0) (z p1) (w p1) (pairs ∙ ap (λ (n : ℕ). bit_xor n (w p1)) (sym b))

pub third_same : (U : Place) (kind : Kind) (z w : Place → ℕ) → (kind ≡ empty → ⊥) → Fits kind z → Fits kind w
    → z U ≡ w U → z (next U) ≡ w (next U) → value_as kind z ≡ value_as kind w → z (lacked_by U) ≡ w (lacked_by U)
third_same U empty z w ne hz hw a b e = absurd (ne refl)
third_same U (number r) z w ne hz hw a b e = third_total U (modulus_of r) z w hz hw a b e
third_same U (bits l) z w ne hz hw a b e = third_exclusive U z w a b e
