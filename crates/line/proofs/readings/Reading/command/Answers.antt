-- What a reading says is what its bytes say.
use Rattle.line.specs.Readings.{command_in}
use Rattle.line.proofs.ReadLaw.{reads}
use Rattle.line.proofs.readings.Reading.command.Goals as goal

pub returns-in-Some-clause-reads : goal.returns-in-Some-clause-reads
unfolding command_in
returns-in-Some-clause-reads c = λ bs h. rw (← reads, ← h, c.in-Some.is) c.command.ensures

pub returns-in-None-clause-reads : goal.returns-in-None-clause-reads
unfolding command_in
returns-in-None-clause-reads c = λ bs h. rw (← reads, ← h, c.in-None.is)
