-- What a task costs is what its circuit takes.
use Prim.Native.Nat.{◌+◌, ◌*◌, ◌≤◌}
use mathlib.Core.List.{◌++◌, append-nil}
use mathlib.Core.Path.{◌≡◌, refl, sym, ◌∙◌}
use native.Mathlib.Omega.{arith}
use lib.ListN.{replicate}
use Rattle.ring.specs.Rings.{width_of}
use Rattle.ring.proofs.RangeLaw.{width_ge, width_le}
use Rattle.circuit.specs.Circuits.{moduli}
use Rattle.circuit.specs.Orders.{multiplication}
use Rattle.value.proofs.Counts.{compose_moduli, convert_moduli, decompose_moduli, shift_moduli}
use Rattle.order.specs.Tasks.{Fit, circuit_of, cost_of}
use Rattle.order.specs.declared.tasks.Cost.{Cost}
use Rattle.order.specs.declared.tasks.Task.{Task}
use Rattle.order.specs.declared.tasks.Task.TheVariants.{Compose, Convert, Decompose, Multiply, Shift}

-- the gates on bits, then those in the ring of that modulus
pub record Costs (t : Task) (k : Cost) : Type 0 where
  pub moduli : moduli (circuit_of t).gates ≡ replicate k.bits 2 ++ replicate k.ring k.modulus
  pub few : k.bits + k.ring ≤ 296

own_costs : (t : Task) → Fit t → Costs t (cost_of t)
unfolding multiplication
own_costs (Multiply r x y) fit = record { moduli = refl; few = omega arith }
own_costs (Decompose r a l) fit =
    record {
      moduli = decompose_moduli (width_of r) l fit.least ∙ sym (append-nil (replicate (3 * l + 1) 2));
      few = omega (arith, fit.most, width_le r);
    }
own_costs (Convert e f a) fit = record { moduli = convert_moduli (width_of e) (width_of f); few = omega arith }
own_costs (Shift r a s) fit =
    record { moduli = shift_moduli (width_of r) s (omega (arith, width_ge r)); few = omega (arith, width_le r) }
own_costs (Compose f w l) fit = record { moduli = compose_moduli (width_of f) l; few = omega arith }

pub costs : (t : Task) {k : Cost} → Fit t → k ≡ cost_of t → Costs t k
costs t fit is = rw is (own_costs t fit)
