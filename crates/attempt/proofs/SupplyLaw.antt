-- What a task's gates take is what the orders on lent runs ask.
use Prim.Native.Nat.{ℕ, ◌+◌, ◌≤◌, ◌^◌}
use mathlib.Core.Bool.{Bool, false}
use mathlib.Core.List.{List, ◌++◌}
use mathlib.Core.Path.{◌≡◌, ap, ap₂, subst, sym, ◌∙◌}
use native.Mathlib.Omega.{arith}
use lib.ListN.{drop, length, length-append, length-map, length-replicate, replicate}
use lib.Seq.{get_or-drop}
use Rattle.ring.proofs.RangeLaw.{modulus-lt}
use Rattle.gate.specs.Places.{three}
use Rattle.circuit.specs.Circuits.{gates_of}
use Rattle.circuit.specs.Lent.{ItemsBelow, Long}
use Rattle.circuit.specs.Loans.{ItemsIn}
use Rattle.circuit.specs.declared.lent.Lent.{Lent}
use Rattle.machine.specs.Checks.{any_bad}
use Rattle.order.specs.Tasks.{circuit_of, cost_of}
use Rattle.order.specs.declared.tasks.Cost.{Cost}
use Rattle.order.specs.declared.tasks.Task.{Task}
use Rattle.order.specs.declared.tasks.Task.TheVariants.{Compose, Convert, Decompose, Multiply, Shift}
use Rattle.order.proofs.CostLaw.{Costs}
use Rattle.attempt.specs.Supplies.{Supplied}
use Rattle.attempt.proofs.ItemsLaw.{both_below}

-- as many gates as a cost says
pub gates_cost : {t : Task} {k : Cost} → Costs t k → gates_of (circuit_of t) ≡ k.bits + k.ring
gates_cost {t} {k} cost =
    sym (length-map (circuit_of t).gates (λ g. g.modulus))
    ∙ ap length cost.moduli
    ∙ length-append (replicate k.bits 2) (replicate k.ring k.modulus)
    ∙ ap₂ ◌+◌ (length-replicate k.bits 2) (length-replicate k.ring k.modulus)

-- its modulus leaves a word's top bit free
pub cost_modulus : (t : Task) {k : Cost} → k ≡ cost_of t → k.modulus ≤ 2 ^ 63
cost_modulus t is = rw is (own t)
  where
    own : (t : Task) → (cost_of t).modulus ≤ 2 ^ 63
    own (Multiply r x y) = omega (arith, modulus-lt r)
    own (Decompose r a l) = omega (arith, modulus-lt r)
    own (Convert e f a) = omega (arith, modulus-lt f)
    own (Shift r a s) = omega (arith, modulus-lt r)
    own (Compose f w l) = omega (arith, modulus-lt f)

-- runs long enough, with no item out of range
pub supplied : (t : Task) {k : Cost} {t₀ t₁ t₂ c₀ c₁ c₂ : List ℕ} {bad : Bool} → k ≡ cost_of t
    → Long (k.bits + k.ring) t₀ t₁ t₂
    → Long (k.bits + k.ring) c₀ c₁ c₂
    → bad ≡ any_bad (replicate k.bits 2 ++ replicate k.ring k.modulus) (three t₀ t₁ t₂)
    → bad ≡ false
    → Supplied (cost_of t) t₀ t₁ t₂ c₀ c₁ c₂
supplied t {k} {t₀} {t₁} {t₂} {c₀} {c₁} {c₂} is masks room found good =
    let items = both_below k.bits k.ring k.modulus (sym found ∙ good) in
    subst (λ (k : Cost). Supplied k t₀ t₁ t₂ c₀ c₁ c₂) is
    (record { masks = masks; room = room; first = items.0; items = items.1 })

-- items below m from the k-th on, of tapes that are lent whole
pub items_whole : {m k n : ℕ} {v : Lent} → v.at ≡ 0 → ItemsBelow m n (drop k v.m0.now) (drop k v.m1.now) (drop k v.m2.now) → ItemsIn m k n v
items_whole {m} {k} {n} {v} start items =
    record {
      below = λ j h.
          let at : v.at + k + j ≡ k + j = omega (arith, start) in
          rw at
          (record {
            zero = rw get_or-drop at (items.zero j h);
            one = rw get_or-drop at (items.one j h);
            two = rw get_or-drop at (items.two j h);
          });
    }
