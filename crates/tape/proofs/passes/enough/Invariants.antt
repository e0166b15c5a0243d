use mathlib.Core.Path.{◌≡◌}
use lib.ListN.{drop}
use Rattle.tape.specs.Draws.{suffices}
use Rattle.tape.specs.Tapes.{fill}
use Rattle.tape.proofs.passes.enough.Given as goal

abbrev pub invariant-loop-word : goal.invariant-loop-word
invariant-loop-word l =
    suffices (fill l.width l.limit l.n 0 l.raw) ≡ suffices (fill l.width l.limit l.left l.word-index (drop l.word-index l.raw))
