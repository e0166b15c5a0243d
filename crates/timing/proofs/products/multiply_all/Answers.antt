-- Invariant: the products written, with those that are left, are all of them.
use mathlib.Core.Path.{sym, ◌∙◌}
use native.Mathlib.Omega.{arith}
use Rattle.timing.proofs.ProductLaw.{all_done, one_more}
use Rattle.timing.proofs.products.multiply_all.Goals as goal

pub loop-i-preserved : goal.loop-i-preserved
loop-i-preserved c =
    let head = c.loop-i in
    head.invariant ∙ one_more _ _ _ head.zs head.i (omega arith) (omega arith) (omega arith) c.checked_product.ensures

pub returns : goal.returns
returns c =
    rw (← c.modulus-p.ensures)
    (sym (c.loop-i.invariant ∙ all_done _ _ _ c.loop-i.zs c.loop-i.i (omega arith) (omega arith)))
