use mathlib.Core.List.{[]}
use mathlib.Core.Path.{ap, ◌≡◌}
use mathlib.Core.Bool.{not, true, ◌&&◌}
use Prim.Native.Nat.{◌-◌}
use borrow.Author.Tests.{leb-true}
use lib.Dec.{leb}
use Rattle.ring.specs.Rings.{width_of}
use Rattle.machine.proofs.KindLaw.{left_true, right_true}
use Rattle.machine.specs.Registers.{kind_of}
use Rattle.order.proofs.CheckLaw.{all_passed, met}
use Rattle.order.proofs.PrepareLaw.{decompose_one, decompose_prepares, one_fine, one_refused, own_refused, source_at}
use Rattle.order.proofs.StepLaw.{told}
use Rattle.order.proofs.prepare.decompose.Goals as goal

pub returns-in_err-r : goal.returns-in_err-r
returns-in_err-r c =
    λ m from. told _ m _ _ c.from_residual.ensures.1 (one_refused (decompose_one _ _ _) m from _ c.in_err-r.ensures.refusal)

pub returns-then-not-l-most : goal.returns-then-not-l-most
returns-then-not-l-most c =
    λ m from. own_refused (decompose_one _ _ _) m from _ c.in_ok-r.ensures.refusal (ap kind_of c.in_ok-r.ensures.found)
    (met 7 [] (ap not (rw c.width-most.ensures at c.if-not-l-most.true)))

pub returns : goal.returns
returns c =
    λ m from. let a = c.args in
    let most = width_of c.in_ok-r.r - 2 in
    let inside : leb 1 a.l && leb a.l most ≡ true = rw c.width-most.ensures at c.if-not-l-most.false in
    decompose_prepares m _ _ (source_at (decompose_one c.args.d c.args.x c.args.l) m from c.in_ok-r.ensures.found) a.l
    (one_fine (decompose_one _ _ _) m from c.in_ok-r.ensures.refusal (ap kind_of c.in_ok-r.ensures.found) (all_passed 7 (ap not inside)))
    (leb-true 1 a.l (left_true (leb 1 a.l) (leb a.l most) inside))
    (leb-true a.l most (right_true (leb 1 a.l) (leb a.l most) inside))
