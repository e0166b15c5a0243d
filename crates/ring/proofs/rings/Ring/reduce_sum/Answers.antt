use Rattle.ring.proofs.RangeLaw.{few_above, sized}
use Rattle.ring.proofs.rings.Ring.reduce_sum.Goals as goal

pub reduce_short-requires-clause-room : goal.reduce_short-requires-clause-room
reduce_short-requires-clause-room c =
    few_above c.args.s (sized c.args.self c.width.ensures c.modulus.ensures) (rw c.modulus.ensures c.requires)
