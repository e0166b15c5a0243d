use Prim.Native.Nat.{◌-◌}
use mathlib.Core.Path.{◌≡◌}
use lib.ListN.{length, drop, take}
use Rattle.tape.specs.Tapes.{fill}
use Rattle.tape.proofs.FillLaw.{joined}
use Rattle.tape.proofs.passes.fill_run.Given as goal

abbrev pub invariant-loop-slot : goal.invariant-loop-slot
invariant-loop-slot l =
    fill l.width l.limit (length l.initial.run) 0 l.raw ≡ joined (take l.slot-index l.run)
    (fill l.width l.limit (length l.initial.run - l.slot-index) l.at (drop l.at l.raw))
