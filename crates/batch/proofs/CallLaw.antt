-- A call by its refusal: what checks that pass say, and what it leaves.
use Prim.Native.Nat.{ℕ, suc, ◌+◌, ◌-◌, ◌≤◌}
use mathlib.Core.Bool.{Bool, cond, false, true}
use mathlib.Core.List.{List}
use mathlib.Core.Path.{◌≡◌, refl, sym}
use native.Mathlib.Omega.{arith}
use borrow.Author.Tests.{eqb-true, leb-true, ltb-false, not-false}
use lib.Dec.{eqb, eqb-suc-zero, leb}
use lib.ListN.{length, replicate}
use Rattle.ring.specs.Rings.{modulus}
use Rattle.gate.specs.Places.{Place, p0, p1, p2}
use Rattle.gate.proofs.PlaceLaw.{each}
use Rattle.circuit.specs.Circuits.{gates_of}
use Rattle.circuit.specs.Orders.{decomposition}
use Rattle.machine.specs.Checks.{any_bad, first_met, uneven}
use Rattle.machine.proofs.KindLaw.{left_true, neither, right_true}
use Rattle.order.proofs.CheckLaw.{unmet_rest}
use Rattle.outcome.proofs.CheckLaw.{passed}
use Rattle.outcome.proofs.WorkLaw.{even}
use Rattle.lanes.specs.Lanes.{count}
use Rattle.batch.specs.Batch.{batch, checks, figure_checks, lengths, lengths_of, outcome, performed}

-- what checks 7, 10, 8, 9 and 11 say where none is met
pub record Accepted (e l : ℕ) (a T c : Place → List ℕ) : Type 0 where
  pub least : 1 ≤ l
  pub most : l ≤ e - 2
  pub sources : any_bad (replicate count (modulus e)) a ≡ false
  pub masks : (i : Place) → gates_of (decomposition e l) ≤ length (T i)
  pub room : (i : Place) → gates_of (decomposition e l) ≤ length (c i)

-- n words of each of three runs of one length
enough : (n : ℕ) (t : Place → List ℕ) → uneven (lengths t) ≡ false → n ≤ length (t p0) → (i : Place) → n ≤ length (t i)
enough n t same long =
    let as_first = (even (lengths t) same).same in
    each (λ i. n ≤ length (t i)) long (omega (arith, as_first p1)) (omega (arith, as_first p2))

pub fine : (e l : ℕ) (a T c : Place → List ℕ) → first_met (figure_checks e l a (lengths_of T c)) ≡ 0 → Accepted e l a T c
fine e l a T c h =
    let n = gates_of (decomposition e l) in
    let all = passed (figure_checks e l a (lengths_of T c)) refl h in
    let bits = not-false _ all.0 in
    let lens = neither (uneven (lengths T)) (uneven (lengths c)) all.1.1.0 in
    record {
      least = leb-true 1 l (left_true (leb 1 l) _ bits);
      most = leb-true l (e - 2) (right_true (leb 1 l) _ bits);
      sources = all.1.0;
      masks = enough n T lens.0 (omega (arith, ltb-false (length (T p0)) (0 + n) all.1.1.1.0));
      room = enough n c lens.1 (omega (arith, ltb-false (length (c p0)) (0 + n) all.1.1.1.1.0));
    }

module _ (e l : ℕ) (a T c z : Place → List ℕ) where
  pub refusal_is : (batch e l a T c z).refusal ≡ first_met (checks e l a T c z)
  unfolding batch
  refusal_is = go (eqb (first_met (checks e l a T c z)) 0) refl
    where
      go : (b : Bool) → eqb (first_met (checks e l a T c z)) 0 ≡ b
          → (cond b (performed e l a T c) (outcome (first_met (checks e l a T c z)) 0 c z)).refusal ≡ first_met (checks e l a T c z)
      go true h = sym (eqb-true (first_met (checks e l a T c z)) 0 h)
      go false h = refl

  pub done_is : first_met (checks e l a T c z) ≡ 0 → batch e l a T c z ≡ performed e l a T c
  unfolding batch
  done_is h = rw h

  pub declined_is : (n : ℕ) → first_met (checks e l a T c z) ≡ suc n → batch e l a T c z ≡ outcome (suc n) 0 c z
  unfolding batch
  declined_is n h = rw (h, eqb-suc-zero n)

  pub accepted : first_met (checks e l a T c z) ≡ 0 → Accepted e l a T c
  unfolding checks
  accepted h = fine e l a T c (unmet_rest _ 5 _ refl (unmet_rest _ 23 _ refl h))
