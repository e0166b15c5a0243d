-- The two products, folded once, are below 2p, and so is what is added: there is room for one fold more.
use Prim.Native.Nat.{◌+◌, ◌*◌, ◌<◌, ◌^◌}
use mathlib.Core.Path.{◌∙◌}
use native.Mathlib.Omega.{arith}
use Rattle.ring.proofs.CongLaw.{cong_add, cong_refl}
use Rattle.ring.proofs.FoldLaw.{fold-lt, folded_near}
use Rattle.ring.proofs.RangeLaw.{few_above}
use Rattle.ring.proofs.modular.mul_add_mod.Goals as goal

folded : (c : goal.After-fold) → c.fold.result < c.args.p + c.args.p
folded c =
    let known = c.requires.sized in
    rw c.fold.ensures (fold-lt _ _ _ known.is (rw known.odd at c.columns.ensures.below.0))

room : (c : goal.After-fold) → (c.fold.result + c.args.s < c.args.p * 2 ^ c.args.e)
    × (c.fold.result + c.args.s < 15 * 2 ^ 60)
room c = few_above _ c.requires.sized (omega (arith, folded c))

pub returns-clause-is : goal.returns-clause-is
returns-clause-is c =
    let a = c.args in
    let products = c.columns in
    let near = folded_near _ _ products.result (a.a * a.b + a.c * a.d) c.requires.sized.is c.fold.ensures products.ensures.is in
    c.reduce_short.ensures.is ∙ (cong_add near (cong_refl a.s)).same

pub overflow_add-fold : goal.overflow_add-fold
overflow_add-fold c =
    omega (arith, room c)

pub reduce_short-requires-clause-room : goal.reduce_short-requires-clause-room
reduce_short-requires-clause-room = room
