use Rattle.layout.proofs.ReadLaw.{Passed}
use Rattle.layout.proofs.records.see.Given as goal

abbrev pub invariant-loop-k : goal.invariant-loop-k
invariant-loop-k l = Passed l.words l.k l.sound
