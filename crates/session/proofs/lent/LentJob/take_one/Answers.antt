-- A line that ends in the chunk, or the rest of the chunk.
use Rattle.session.specs.Kept.{standing_on}
use Rattle.session.proofs.AdvanceLaw.{advanced_closed, advanced_open, stop_within}
use Rattle.session.proofs.lent.LentJob.take_one.Goals as goal

pub returns-then-buf-stop-clause-is : goal.returns-then-buf-stop-clause-is
returns-then-buf-stop-clause-is c =
    let told = c.take_line-taken.ensures in
    advanced_open (standing_on c.args.self.now) _ _ _ _ told.reading told.stop _ _ c.if-buf-stop.true

pub returns-then-buf-stop-clause-within : goal.returns-then-buf-stop-clause-within
returns-then-buf-stop-clause-within c =
    let told = c.take_line-taken.ensures in
    stop_within (standing_on c.args.self.now) _ _ _ _ told.reading told.stop c.requires.inside

pub returns-clause-is : goal.returns-clause-is
returns-clause-is c =
    let told = c.take_line-taken.ensures in
    advanced_closed (standing_on c.args.self.now) _ _ _ _ told.reading told.stop c.end_line.ensures.is c.end_line.ensures.writes
    c.if-buf-stop.false c.requires.inside
