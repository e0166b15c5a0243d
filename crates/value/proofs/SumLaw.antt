-- Totals of three sub-shares, as congruences of whole numbers.
use Prim.Native.Nat.{ℕ, ◌+◌, ◌%◌, ◌<◌}
use mathlib.Core.Path.{◌≡◌}
use native.Mathlib.Nat.{mod-lt}
use native.Mathlib.Omega.{arith}
use Rattle.ring.specs.Modular.{Cong, diff}
use Rattle.ring.proofs.CongLaw.{cong_add, cong_cancel, cong_mod, cong_of_eq, cong_refl, cong_sym, cong_trans, diff-add}
use Rattle.gate.specs.Places.{Place, p0, p1, p2, total}
use Rattle.circuit.specs.Bits.{alone}
use Rattle.value.specs.Values.{summed}

pub total-lt : {m : ℕ} (x : Place → ℕ) → 0 < m → total m x < m
unfolding total
total-lt x h = mod-lt _ h

pub total_of : {m n : ℕ} (x : Place → ℕ) → Cong m (summed x) n → total m x ≡ n % m
unfolding total
total_of x h = h.same

pub total_cong : (m : ℕ) (x : Place → ℕ) → Cong m (total m x) (summed x)
unfolding total
total_cong m x = cong_mod m (summed x)

-- sub-share by sub-share
pub summed_cong : {m : ℕ} {x y : Place → ℕ} → ((i : Place) → Cong m (x i) (y i)) → Cong m (summed x) (summed y)
summed_cong h = cong_add (cong_add (h p0) (h p1)) (h p2)

pub summed-diff : (m : ℕ) → 0 < m → (x y : Place → ℕ) → Cong m (summed (λ i. diff m (x i) (y i)) + summed y) (summed x)
summed-diff m h x y =
    let d : Place → ℕ = λ i. diff m (x i) (y i) in
    let apart : summed d + summed y ≡ summed (λ i. d i + y i) = omega arith in
    cong_trans (cong_of_eq apart) (summed_cong (λ i. diff-add m (x i) (y i) h))

pub diff_of_summed : {m : ℕ} → 0 < m → (x y : Place → ℕ) {c : ℕ} → Cong m (summed y) c
    → Cong m (summed (λ i. diff m (x i) (y i))) (diff m (summed x) c)
diff_of_summed {m} h x y {c} is =
    cong_cancel c h
    (cong_trans (cong_add (cong_refl (summed (λ i. diff m (x i) (y i)))) (cong_sym is))
    (cong_trans (summed-diff m h x y) (cong_sym (diff-add m (summed x) c h))))

-- "A value known from sub-share i alone is shared by putting it at place i and 0 elsewhere"
pub summed-alone : (k : Place) (v : Place → ℕ) → summed (λ i. alone k i (v i)) ≡ v k
summed-alone p0 v = omega arith
summed-alone p1 v = omega arith
summed-alone p2 v = omega arith
