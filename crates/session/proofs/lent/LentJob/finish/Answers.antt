-- The last line, where a byte of it was seen.
use mathlib.Core.Path.{◌∙◌}
use Rattle.session.specs.Kept.{standing_on}
use Rattle.session.proofs.EndLaw.{last-seen, last_unseen}
use Rattle.session.proofs.ReplyLaw.{wrote_none, wrote_same}
use Rattle.session.proofs.lent.LentJob.finish.Goals as goal

pub returns-then-self-clause-is : goal.returns-then-self-clause-is
returns-then-self-clause-is c = c.end_line.ensures.is ∙ (last-seen (standing_on c.args.self.now) c.if-self.true).0

pub returns-then-self-clause-writes : goal.returns-then-self-clause-writes
returns-then-self-clause-writes c = wrote_same (last-seen (standing_on c.args.self.now) c.if-self.true).1 c.end_line.ensures.writes

pub returns-clause-is : goal.returns-clause-is
returns-clause-is c = (last_unseen (standing_on c.args.self.now) c.if-self.false).0

pub returns-clause-writes : goal.returns-clause-writes
returns-clause-writes c = wrote_same (last_unseen (standing_on c.args.self.now) c.if-self.false).1 (wrote_none 0 c.args.out.now)
