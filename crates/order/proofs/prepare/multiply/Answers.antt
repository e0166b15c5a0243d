use mathlib.Core.Path.{refl, sym, ◌∙◌}
use Rattle.machine.specs.declared.orders.Order.TheVariants.{Multiply}
use Rattle.order.proofs.PrepareLaw.{multiply_prepares, pair_checks, pair_left, pair_right}
use Rattle.order.proofs.StepLaw.{because, told}
use Rattle.order.proofs.prepare.multiply.Goals as goal

pub returns-in_err-r : goal.returns-in_err-r
returns-in_err-r c =
    λ m from. told _ m _ _ c.from_residual.ensures.1 (because _ m _ (pair_checks m _ _ _ from (Multiply _ _ _) refl refl ∙ sym c.in_err-r.ensures.refusal))

pub returns : goal.returns
returns c =
    λ m from. multiply_prepares m _ _ (pair_left m _ _ from c.in_ok-r.ensures.found.0) _ (pair_right m _ _ from c.in_ok-r.ensures.found.1)
    (pair_checks m _ _ _ from (Multiply _ _ _) refl refl ∙ sym c.in_ok-r.ensures.refusal)
