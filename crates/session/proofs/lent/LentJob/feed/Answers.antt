-- A chunk, part by part.
use native.Mathlib.Omega.{arith}
use lib.ListN.{drop_of_length-le}
use Rattle.session.proofs.AdvanceLaw.{advanced_all, advanced_on}
use Rattle.session.proofs.LentLaw.{same_then}
use Rattle.session.proofs.lent.LentJob.feed.Goals as goal

pub loop-i-preserved : goal.loop-i-preserved
loop-i-preserved c =
    let inv = c.loop-i.invariant.fed in
    let told = c.take_one.ensures in
    record {
      fed =
          record {
            done = advanced_on inv.done told.is (omega (arith, inv.short, inv.within, c.requires.room));
            within = told.within;
            short = omega (arith, told.short, inv.short);
          };
      same = same_then c.loop-i.invariant.same told.same;
    }

pub returns-clause-is : goal.returns-clause-is
returns-clause-is c = (advanced_all c.loop-i.invariant.fed.done (drop_of_length-le _ c.loop-i-test.false)).0

pub returns-clause-writes : goal.returns-clause-writes
returns-clause-writes c = (advanced_all c.loop-i.invariant.fed.done (drop_of_length-le _ c.loop-i-test.false)).1
