-- What the code works out at one place is the definition's share.
use Prim.Native.Nat.{ℕ, ◌+◌, ◌*◌, ◌-◌, ◌%◌, ◌<◌}
use mathlib.Core.Path.{◌≡◌}
use native.Mathlib.Nat.{mod-lt}
use native.Mathlib.Omega.{arith}
use lib.Bits.{bit_xor}
use Rattle.ring.specs.Modular.{diff}
use Rattle.ring.specs.Rings.{bit_of}
use Rattle.ring.proofs.BitLaw.{xor_bit}
use Rattle.ring.proofs.CongLaw.{cong_add, cong_mod, cong_mul, cong_multiple, cong_of_eq, cong_refl, cong_sym, cong_trans, diff_cong, diff_only}
use Rattle.gate.specs.Places.{Place, parts, three}
use Rattle.gate.specs.declared.sharing.Sharing.{Sharing}
use Rattle.gate.proofs.PlaceLaw.{each}
use Rattle.circuit.specs.Compose.{joined}
use Rattle.compose.specs.Quotients.{quotient_with}
use Rattle.compose.specs.Steps.{Joined}

-- u + v - 2uv
pub join_is : (n u v uv : ℕ) → uv < n → Joined n u v uv (u + v + 2 * (n - uv))
join_is n u v uv small =
    let pos : 0 < n = omega arith in
    let h : ℕ = u + v + 2 * (n - uv) in
    let back : h + 2 * uv ≡ u + v + n * 2 = omega arith in
    let same : h % n ≡ joined n u v uv
    = diff_only (2 * uv) pos (mod-lt h pos)
    (cong_trans (cong_add (cong_mod n h) (cong_refl (2 * uv))) (cong_trans (cong_of_eq back) (cong_multiple n (u + v) 2))) in
    record { near = cong_trans (cong_sym (cong_mod n h)) (cong_of_eq same); most = omega arith }

-- 4^(-1) × (x - p q)
pub quartered_is : (n k p x q : ℕ) {y j pq rest r : ℕ} → 0 < n
    → y ≡ x % n → pq ≡ p * q % n → rest ≡ diff n y pq → j ≡ k → r ≡ j * rest % n
    → r ≡ k * diff n x (p * q) % n
quartered_is n k p x q pos reduced product difference inverse is =
    let rest_is : diff n (x % n) (p * q % n) ≡ diff n x (p * q) = diff_cong pos (cong_mod n x) (cong_mod n (p * q)) in
    rw (is, inverse, difference, product, reduced, rest_is)

-- and by place, where p was reduced
pub settled : (n k p : ℕ) (x q : Sharing) {m a z₀ z₁ z₂ : ℕ} → 0 < n
    → m ≡ p → a ≡ m % n
    → z₀ ≡ k * diff n x.s0 (a * q.s0) % n
    → z₁ ≡ k * diff n x.s1 (a * q.s1) % n
    → z₂ ≡ k * diff n x.s2 (a * q.s2) % n
    → (i : Place) → three z₀ z₁ z₂ i ≡ k * diff n (parts x i) (p * parts q i) % n
settled n k p x q {m} {a} {z₀} {z₁} {z₂} pos known reduced e₀ e₁ e₂ =
    let same : (y s : ℕ) → diff n y (a * s) ≡ diff n y (p * s)
    = λ y s. rw (reduced, known) (diff_cong pos (cong_refl y) (cong_mul (cong_mod n p) (cong_refl s))) in
    each (λ i. three z₀ z₁ z₂ i ≡ k * diff n (parts x i) (p * parts q i) % n)
    (rw (← same x.s0 q.s0) e₀) (rw (← same x.s1 q.s1) e₁) (rw (← same x.s2 q.s2) e₂)

-- the two bits of q
pub quotient_is : (r : ℕ) {carry low b : ℕ} → low ≡ bit_of r 0 → b ≡ bit_of r 1 → b < 2 → carry < 2 → low + 2 * bit_xor b carry ≡ quotient_with r carry
unfolding quotient_with
quotient_is r e₀ e₁ hb hc = rw (xor_bit hb hc, e₀, e₁)
