-- A line's end is the definition's, before and after line 1,000,000.
use native.Mathlib.Omega.{arith}
use Rattle.session.specs.Kept.{standing_on}
use Rattle.session.proofs.EndLaw.{late_after, late_printed, line_kept, none-printed, reply-printed}
use Rattle.session.proofs.ReplyLaw.{wrote_none, wrote_same}
use Rattle.session.proofs.lent.LentJob.end_line.Goals as goal

pub returns-then-self-ge-LAST_LINE-clause-is : goal.returns-then-self-ge-LAST_LINE-clause-is
returns-then-self-ge-LAST_LINE-clause-is c = rw c.start-self.ensures (late_after (standing_on c.args.self.now) (omega arith))

pub returns-then-self-ge-LAST_LINE-clause-writes : goal.returns-then-self-ge-LAST_LINE-clause-writes
returns-then-self-ge-LAST_LINE-clause-writes c =
    wrote_same (late_printed (standing_on c.args.self.now) (omega arith)) (wrote_none c.args.at c.args.out.now)

pub returns-in-None-clause-is : goal.returns-in-None-clause-is
returns-in-None-clause-is c =
    let told = c.take_command.ensures in
    rw (told.lines, told.reading, c.start-self.ensures)
    (line_kept (standing_on c.args.self.now) c.command-command.ensures.is told.is (omega arith))

pub returns-in-None-clause-writes : goal.returns-in-None-clause-writes
returns-in-None-clause-writes c =
    wrote_same
    (none-printed (standing_on c.args.self.now) c.command-command.ensures.is c.take_command.ensures.is (omega arith) c.in-None.is)
    (wrote_none c.args.at c.args.out.now)

pub returns-in-Some-clause-is : goal.returns-in-Some-clause-is
returns-in-Some-clause-is c =
    let told = c.take_command.ensures in
    rw (told.lines, told.reading, c.start-self.ensures)
    (line_kept (standing_on c.args.self.now) c.command-command.ensures.is told.is (omega arith))

pub returns-in-Some-clause-writes : goal.returns-in-Some-clause-writes
returns-in-Some-clause-writes c =
    let told = c.take_command.ensures in
    wrote_same
    (reply-printed (standing_on c.args.self.now) c.command-command.ensures.is told.is (omega arith) c.in-Some.is c.masks_at.ensures
    c.channels_at.ensures)
    (rw told.lines at c.print_line.ensures.writes)
