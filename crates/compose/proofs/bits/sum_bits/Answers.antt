-- Invariant: k bits are composed.
use Prim.Native.Nat.{◌*◌}
use native.Mathlib.Omega.{arith}
use Rattle.ring.specs.Rings.{Sized}
use Rattle.ring.proofs.RangeLaw.{sized, sized_gt}
use Rattle.circuit.proofs.LoanLaw.{supplied_later}
use Rattle.compose.proofs.TurnLaw.{at-start, went_on}
use Rattle.compose.proofs.bits.sum_bits.Goals as goal

pub loop-k-init : goal.loop-k-init
loop-k-init c =
    let known : Sized c.width-e.result c.modulus-p.result = sized c.args.r c.width-e.ensures c.modulus-p.ensures in
    (at-start c.modulus-p.result c.args.from _ (omega (arith, sized_gt known)) c.zeros-sum.ensures, omega (arith, known))

pub join_bit-b-requires-clause-supplied : goal.join_bit-b-requires-clause-supplied
join_bit-b-requires-clause-supplied c =
    rw (← c.modulus-p.ensures) at (supplied_later (2 * c.loop-k.k) 2 (omega arith) c.requires.supplied c.loop-k.invariant.0.sums)

pub loop-k-preserved : goal.loop-k-preserved
loop-k-preserved c =
    let known : Sized c.width-e.result c.modulus-p.result = sized c.args.r c.width-e.ensures c.modulus-p.ensures in (
      went_on c.loop-k.invariant.0 (rw known.is c.next_power-power.ensures.is) c.add_weighted-sum.ensures.below
          c.join_bit-b.ensures.is c.add_weighted-sum.ensures.is,
      c.next_power-power.ensures.below,
    )
