use mathlib.Core.Path.{refl, sym, ◌∙◌}
use Rattle.machine.specs.declared.orders.Order.TheVariants.{Add}
use Rattle.order.proofs.PrepareLaw.{add_prepares, good, pair_checks, pair_left, pair_right}
use Rattle.order.proofs.StepLaw.{because, told}
use Rattle.order.proofs.SoundLaw.{number_in}
use Rattle.order.proofs.prepare.add.Goals as goal

pub returns-in_err-r : goal.returns-in_err-r
returns-in_err-r c =
    λ m from. told _ m _ _ c.from_residual.ensures.1 (because _ m _ (pair_checks m _ _ _ from (Add _ _ _) refl refl ∙ sym c.in_err-r.ensures.refusal))

-- some record has these sources
pub sums-requires : goal.sums-requires
sums-requires c =
    let m = c.requires.0 in
    let from = c.requires.1 in
    let sure = good m _ (pair_checks m _ _ _ from (Add _ _ _) refl refl ∙ sym c.in_ok-r.ensures.refusal) in
    record {
      left = number_in m sure _ (pair_left m _ _ from c.in_ok-r.ensures.found.0);
      right = number_in m sure _ (pair_right m _ _ from c.in_ok-r.ensures.found.1);
    }

pub returns : goal.returns
returns c =
    λ m from. add_prepares m _ _ (pair_left m _ _ from c.in_ok-r.ensures.found.0) _ (pair_right m _ _ from c.in_ok-r.ensures.found.1)
    (pair_checks m _ _ _ from (Add _ _ _) refl refl ∙ sym c.in_ok-r.ensures.refusal) c.sums.ensures
