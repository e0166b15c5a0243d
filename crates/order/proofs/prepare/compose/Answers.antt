use mathlib.Core.List.{[]}
use mathlib.Core.Path.{ap, sym, ◌∙◌}
use Rattle.machine.specs.Checks.{no_ring}
use Rattle.machine.specs.Registers.{kind_of}
use Rattle.order.proofs.CheckLaw.{all_passed, met}
use Rattle.order.proofs.PrepareLaw.{compose_one, compose_prepares, one_fine, one_refused, own_refused, parsed, source_at, unparsed}
use Rattle.order.proofs.StepLaw.{told}
use Rattle.order.proofs.prepare.compose.Goals as goal

pub returns-in_err-l : goal.returns-in_err-l
returns-in_err-l c =
    λ m from. told _ m _ _ c.from_residual.ensures.1 (one_refused (compose_one _ _ _) m from _ c.in_err-l.ensures.refusal)

pub returns-in_err-r : goal.returns-in_err-r
returns-in_err-r c =
    λ m from. let none = unparsed c.of_width.result _ _ (sym c.ok_or.ensures.value ∙ c.in_err-r.was) in
    told _ m _ _ c.from_residual-in_err-r.ensures.1
    (own_refused (compose_one _ _ _) m from _ c.in_ok-l.ensures.refusal (ap kind_of c.in_ok-l.ensures.found)
    (rw none.1 (met 5 [] (ap no_ring (sym c.of_width.ensures ∙ none.0)))))

pub returns : goal.returns
returns c =
    λ m from. let some = sym c.of_width.ensures ∙ parsed c.of_width.result _ (sym c.ok_or.ensures.value ∙ c.in_ok-r.was) in
    compose_prepares m _ _ _ (source_at (compose_one c.args.d c.args.x c.args.f) m from c.in_ok-l.ensures.found)
    (one_fine (compose_one _ _ _) m from c.in_ok-l.ensures.refusal (ap kind_of c.in_ok-l.ensures.found) (all_passed 5 (ap no_ring some)))
    some
