use mathlib.Core.List.{◌++◌}
use mathlib.Core.Path.{◌≡◌}
use lib.ListN.{drop, take}
use Rattle.timing.specs.Products.{products}
use Rattle.timing.proofs.products.multiply_all.Given as goal

abbrev pub invariant-loop-i : goal.invariant-loop-i
invariant-loop-i l = products l.p l.xs l.ys ≡ take l.i l.zs ++ products l.p (drop l.i l.xs) (drop l.i l.ys)
