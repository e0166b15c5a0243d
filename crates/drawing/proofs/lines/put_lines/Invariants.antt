use Rattle.drawing.proofs.LinesLaw.{Lined}
use Rattle.drawing.proofs.lines.put_lines.Given as goal

abbrev pub invariant-loop-k : goal.invariant-loop-k
invariant-loop-k l = Lined l.kind l.items l.initial.out l.n l.out l.at l.k
