use mathlib.Core.List.{[]}
use mathlib.Core.Path.{ap, sym, ◌∙◌}
use Rattle.machine.specs.Checks.{no_ring}
use Rattle.machine.specs.Registers.{kind_of}
use Rattle.order.proofs.CheckLaw.{all_passed, met}
use Rattle.order.proofs.PrepareLaw.{convert_one, convert_prepares, one_fine, one_refused, own_refused, parsed, source_at, unparsed}
use Rattle.order.proofs.StepLaw.{told}
use Rattle.order.proofs.prepare.convert.Goals as goal

pub returns-in_err-r : goal.returns-in_err-r
returns-in_err-r c =
    λ m from. told _ m _ _ c.from_residual.ensures.1 (one_refused (convert_one _ _ _) m from _ c.in_err-r.ensures.refusal)

pub returns-in_err-to : goal.returns-in_err-to
returns-in_err-to c =
    λ m from. let none = unparsed c.of_width.result _ _ (sym c.ok_or.ensures.value ∙ c.in_err-to.was) in
    told _ m _ _ c.from_residual-in_err-to.ensures.1
    (own_refused (convert_one _ _ _) m from _ c.in_ok-r.ensures.refusal (ap kind_of c.in_ok-r.ensures.found)
    (rw none.1 (met 5 [] (ap no_ring (sym c.of_width.ensures ∙ none.0)))))

pub returns : goal.returns
returns c =
    λ m from. let a = c.args in
    let some = sym c.of_width.ensures ∙ parsed c.of_width.result _ (sym c.ok_or.ensures.value ∙ c.in_ok-to.was) in
    convert_prepares m _ _ (source_at (convert_one c.args.d c.args.x c.args.f) m from c.in_ok-r.ensures.found) a.f
    (one_fine (convert_one _ _ _) m from c.in_ok-r.ensures.refusal (ap kind_of c.in_ok-r.ensures.found) (all_passed 5 (ap no_ring some)))
    some
