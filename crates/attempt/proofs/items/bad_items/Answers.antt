use lib.ListN.{replicate}
use Rattle.attempt.proofs.ItemsLaw.{bad_parts}
use Rattle.attempt.proofs.items.bad_items.Goals as goal

pub returns : goal.returns
returns c =
    let a = c.args in
    bad_parts a.k.bits 2 (replicate a.k.ring a.k.modulus) _ _ _
    c.any_wider-first.ensures c.any_outside.ensures
