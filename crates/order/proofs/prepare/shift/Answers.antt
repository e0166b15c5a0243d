use mathlib.Core.List.{[]}
use mathlib.Core.Path.{ap}
use mathlib.Core.Bool.{not}
use Prim.Native.Nat.{◌-◌, ◌≤◌}
use borrow.Author.Tests.{le-leb, lt-leb}
use Rattle.ring.specs.Rings.{width_of}
use Rattle.machine.specs.Registers.{kind_of}
use Rattle.order.proofs.CheckLaw.{all_passed, met}
use Rattle.order.proofs.PrepareLaw.{one_fine, one_refused, own_refused, shift_one, shift_prepares, source_at}
use Rattle.order.proofs.StepLaw.{told}
use Rattle.order.proofs.prepare.shift.Goals as goal

pub returns-in_err-r : goal.returns-in_err-r
returns-in_err-r c =
    λ m from. told _ m _ _ c.from_residual.ensures.1 (one_refused (shift_one _ _ _) m from _ c.in_err-r.ensures.refusal)

pub returns-then-most-n : goal.returns-then-most-n
returns-then-most-n c =
    λ m from. let a = c.args in
    own_refused (shift_one _ _ _) m from _ c.in_ok-r.ensures.refusal (ap kind_of c.in_ok-r.ensures.found)
    (met 7 [] (ap not (lt-leb a.n (width_of c.in_ok-r.r - 3) (rw c.width-most.ensures at c.if-most-n.true))))

pub returns : goal.returns
returns c =
    λ m from. let a = c.args in
    let most : a.n ≤ width_of c.in_ok-r.r - 3 = rw c.width-most.ensures at c.if-most-n.false in
    shift_prepares m _ _ (source_at (shift_one a.d a.x a.n) m from c.in_ok-r.ensures.found) a.n
    (one_fine (shift_one _ _ _) m from c.in_ok-r.ensures.refusal (ap kind_of c.in_ok-r.ensures.found)
    (all_passed 7 (ap not (le-leb a.n (width_of c.in_ok-r.r - 3) most))))
    most
