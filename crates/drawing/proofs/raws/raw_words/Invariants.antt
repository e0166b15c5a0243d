use Prim.Native.Nat.{◌/◌}
use lib.ListN.{length}
use Rattle.drawing.proofs.RawLaw.{Worded}
use Rattle.drawing.proofs.raws.raw_words.Given as goal

abbrev pub invariant-loop-i : goal.invariant-loop-i
invariant-loop-i l = Worded l.fn.raw l.fn.words (length l.fn.raw / 8) l.words l.i
