use mathlib.Core.List.{[]}
use mathlib.Core.Path.{◌≡◌, ap}
use borrow.Author.Tests.{le-leb, lt-leb}
use Rattle.machine.specs.Registers.{kind_of}
use Rattle.machine.specs.declared.registers.Machine.{Machine}
use Rattle.machine.specs.declared.orders.Order.TheVariants.{Scale}
use Rattle.order.specs.Attempts.{record_refusal}
use Rattle.order.specs.Sources.{sources_in}
use Rattle.order.proofs.CheckLaw.{all_passed, met}
use Rattle.order.proofs.PrepareLaw.{good, one_fine, one_refused, own_refused, scale_one, scale_prepares, source_at}
use Rattle.order.proofs.SoundLaw.{number_in}
use Rattle.order.proofs.StepLaw.{told}
use Rattle.order.proofs.prepare.scale.Goals as goal

pub returns-in_err-r : goal.returns-in_err-r
returns-in_err-r c =
    λ m from. told _ m _ _ c.from_residual.ensures.1 (one_refused (scale_one _ _ _) m from _ c.in_err-r.ensures.refusal)

pub returns-then-modulus-c : goal.returns-then-modulus-c
returns-then-modulus-c c =
    λ m from. let a = c.args in
    own_refused (scale_one _ _ _) m from _ c.in_ok-r.ensures.refusal (ap kind_of c.in_ok-r.ensures.found)
    (met 7 [] (le-leb _ a.c (rw c.modulus.ensures at c.if-modulus-c.true)))

accepted : (c : goal.Else-modulus-c) (m : Machine) → c.args.s ≡ sources_in m (Scale c.args.d c.args.x c.args.c)
    → record_refusal (Scale c.args.d c.args.x c.args.c) m ≡ 0
accepted c m from =
    let a = c.args in
    one_fine (scale_one _ _ _) m from c.in_ok-r.ensures.refusal (ap kind_of c.in_ok-r.ensures.found)
    (all_passed 7 (lt-leb _ a.c (rw c.modulus.ensures at c.if-modulus-c.false)))

-- some record has these sources
pub products-requires-clause-source : goal.products-requires-clause-source
products-requires-clause-source c =
    let a = c.args in
    let m = c.requires.0 in
    let from = c.requires.1 in
    number_in m (good m (Scale a.d a.x a.c) (accepted c m from)) a.x (source_at (scale_one a.d a.x a.c) m from c.in_ok-r.ensures.found)

pub returns : goal.returns
returns c =
    λ m from. let a = c.args in
    scale_prepares m _ _ (source_at (scale_one a.d a.x a.c) m from c.in_ok-r.ensures.found) a.c (accepted c.before m from) c.products.ensures
