use Prim.Native.Nat.{◌≤◌, max}
use lib.ListN.{length}
use Rattle.line.proofs.LineLaw.{Left}
use Rattle.line.proofs.readings.take_line.Given as goal

abbrev pub invariant-loop-i : goal.invariant-loop-i
invariant-loop-i l = Left l.buf l.at l.i l.fn.before l.reading × (l.i ≤ max l.at (length l.buf))
