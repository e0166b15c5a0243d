use Rattle.std.proofs.Common.{rules}
use Rattle.ring.specs.Rings.{width_of}
use Rattle.batch.proofs.CodeLaw.{performed_is}
use Rattle.batch.proofs.calls.run.Goals as goal

pub returns : goal.returns
returns c =
    let ran = c.decompose_lanes in
    performed_is (width_of _) _ _ _ _ ran.new.z0 ran.new.z1 ran.new.z2
    _ _ _ ran.new.c0 ran.new.c1 ran.new.c2 _
    c.requires.count.0 ran.ensures.is
    (search rules)
    (search rules)
    (search rules)
    (search rules)
    (search rules)
    (search rules)
    ran.ensures.long.0 ran.ensures.long.1 ran.ensures.long.2
