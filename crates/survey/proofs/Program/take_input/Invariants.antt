-- Chunk after chunk: what was read so far.
use Rattle.session.specs.Kept.{standing_of}
use Rattle.survey.proofs.LoopLaw.{Reading}
use Rattle.survey.proofs.Program.take_input.Given as goal

abbrev pub invariant-loop : goal.invariant-loop
invariant-loop l = Reading (standing_of l.self.job) l.last l.self.buf l.counter
