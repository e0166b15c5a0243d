-- Invariant: an item is no bit where the items seen have a bit above the lowest, or one from k on is.
use mathlib.Core.Path.{refl}
use native.Mathlib.Omega.{arith}
use Rattle.attempt.proofs.ItemsLaw.{high_end, high_on}
use Rattle.attempt.proofs.items.any_wider.Goals as goal

pub loop-k-preserved : goal.loop-k-preserved
loop-k-preserved c = (
  omega arith,
  high_on 1 2 _ c.loop-k.k c.loop-k.all _ _ _ c.loop-k.invariant.1 _ _ _ refl refl refl (omega arith),
)

pub returns : goal.returns
returns c =
    high_end 1 2 _ c.loop-k.k c.loop-k.all _ _ _ c.loop-k.invariant.1 (omega arith)
