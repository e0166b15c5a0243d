-- Invariant: an item is out of range where the word of the items seen has the top bit, or one from k on is.
use native.Mathlib.Omega.{arith}
use Rattle.attempt.proofs.ItemsLaw.{high_end, high_on}
use Rattle.attempt.proofs.items.any_outside.Goals as goal

pub loop-k-preserved : goal.loop-k-preserved
loop-k-preserved c = (
  omega arith,
  high_on 63 _ _ c.loop-k.k c.loop-k.all _ _ _ c.loop-k.invariant.1
      c.beyond.result c.beyond-in-loop-k.result c.beyond-in-loop-k-2.result c.beyond.ensures c.beyond-in-loop-k.ensures
      c.beyond-in-loop-k-2.ensures (omega arith),
)

pub returns : goal.returns
returns c =
    high_end 63 _ _ c.loop-k.k c.loop-k.all _ _ _ c.loop-k.invariant.1 (omega arith)
