-- The channels come back from what was lent as they are there at the end.
use mathlib.Core.Path.{sym}
use Rattle.ring.specs.Rings.{width_of}
use Rattle.lanes.proofs.OrderLaw.{laned}
use Rattle.lanes.proofs.order.decompose_lanes.Goals as goal

pub returns-clause-is : goal.returns-clause-is
returns-clause-is c =
    let out = c.unload in
    let sent = c.work.ensures.is in
    rw (c.c0-1.given.1.1 (sym sent.same.c0), c.c1-1.given.1.1 (sym sent.same.c1), c.c2-1.given.1.1 (sym sent.same.c2))
    (laned (width_of _) _ _ _ _ out.new.z0 out.new.z1 out.new.z2 c.load.ensures.is sent.ahead out.ensures.is)
