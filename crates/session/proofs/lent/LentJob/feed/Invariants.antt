use Prim.Native.Nat.{◌-◌}
use lib.ListN.{length}
use Rattle.session.specs.Kept.{SameLent, standing_on}
use Rattle.session.proofs.FeedLaw.{Feeding}
use Rattle.session.proofs.lent.LentJob.feed.Given as goal

abbrev pub invariant-loop-i : goal.invariant-loop-i
invariant-loop-i l =
    record {
      fed : Feeding l.buf (standing_on l.initial.self) l.initial.out (standing_on l.self) l.out l.i l.at;
      same : SameLent l.initial.self l.self;
    }

abbrev pub decreases-loop-i : goal.decreases-loop-i
decreases-loop-i l = length l.buf - l.i
