-- One gate: the states after it, and the total of its words; and a circuit's result.
use Prim.Native.Nat.{ℕ, ◌+◌, ◌*◌, ◌/◌, ◌%◌, ◌<◌}
use mathlib.Core.List.{List}
use mathlib.Core.Path.{◌≡◌, ap, ap₂, refl, ◌∙◌}
use lib.Dec.{lit<}
use Rattle.ring.specs.Modular.{Cong}
use Rattle.ring.proofs.CongLaw.{cong_mod, cong_mul, cong_of_eq, cong_sym, cong_trans}
use Rattle.gate.specs.Gates.{gated}
use Rattle.gate.specs.Places.{Place, tabled, total}
use Rattle.gate.proofs.PlaceLaw.{tabled_is}
use Rattle.gate.proofs.Theorems.{multiplies}
use Rattle.circuit.specs.Bits.{xor}
use Rattle.circuit.specs.Circuits.{Circuit, Gate, after, ends, heads, result, starts, words}
use Rattle.circuit.specs.Orders.{multiplication}
use Rattle.circuit.proofs.RunLaw.{step}
use Rattle.value.specs.Values.{summed}
use Rattle.value.proofs.AdderLaw.{majority_carries}
use Rattle.value.proofs.BitsLaw.{total-xor}
use Rattle.value.proofs.SumLaw.{total_cong, total-lt}

module _ {S : Type 0} where
  pub step_is : (g : Gate S) (s : Place → S) (t : Place → ℕ) → step g s t ≡ (λ i. g.absorb i (s i) (words g s t i))
  unfolding step after
  step_is g s t = tabled_is (λ i. g.absorb i (s i) (words g s t i))

  -- the product of the factors' totals
  pub words-total : (g : Gate S) → 0 < g.modulus → (s : Place → S) (t : Place → ℕ)
      → total g.modulus (words g s t)
      ≡ total g.modulus (λ i. g.left i (s i)) * total g.modulus (λ i. g.right i (s i)) % g.modulus
  unfolding words total
  words-total g h s t = multiplies g.modulus h (tabled (λ i. g.left i (s i))) (tabled (λ i. g.right i (s i))) t

  pub words_cong : (g : Gate S) → 0 < g.modulus → (s : Place → S) (t : Place → ℕ)
      → Cong g.modulus (summed (words g s t)) (summed (λ i. g.left i (s i)) * summed (λ i. g.right i (s i)))
  words_cong g h s t =
      cong_trans (cong_sym (total_cong g.modulus (words g s t)))
      (cong_trans (cong_of_eq (words-total g h s t))
      (cong_trans (cong_mod g.modulus _)
      (cong_mul (total_cong g.modulus (λ i. g.left i (s i))) (total_cong g.modulus (λ i. g.right i (s i))))))

-- the sub-shares that a circuit leaves, by place
pub result_is : (C : Circuit) (x y : Place → ℕ) (T : Place → List ℕ)
    → result C x y T ≡ (λ i. C.finish i (ends C.gates (λ j. C.start (x j) (y j)) T i))
unfolding result
result_is C x y T =
    tabled_is (λ i. C.finish i (ends C.gates (starts C x y) T i))
    ∙ ap (λ s. λ i. C.finish i (ends C.gates s T i)) (tabled_is (λ j. C.start (x j) (y j)))

-- "the word is the new sub-share"
pub multiplication_is : (p : ℕ) (x y : Place → ℕ) (T : Place → List ℕ)
    → result (multiplication p) x y T ≡ gated p (tabled x) (tabled y) (heads T)
unfolding result multiplication ends after words gated
multiplication_is p x y T = refl

-- where the word z is a majority gate's, its new bit is the carry of its three
pub majority-total : (x y c z : Place → ℕ)
    → total 2 z ≡ total 2 (λ i. xor (x i) (c i)) * total 2 (λ i. xor (y i) (c i)) % 2
    → total 2 (λ i. xor (c i) (z i)) ≡ (total 2 x + total 2 y + total 2 c) / 2
majority-total x y c z product =
    total-xor c z
    ∙ ap (λ (n : ℕ). xor (total 2 c) n) (product ∙ ap₂ (λ (u v : ℕ). u * v % 2) (total-xor x c) (total-xor y c))
    ∙ majority_carries (total-lt x (lit< tt)) (total-lt y (lit< tt)) (total-lt c (lit< tt))
