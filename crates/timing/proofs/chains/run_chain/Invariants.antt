use mathlib.Core.Path.{◌≡◌}
use lib.ListN.{length}
use Rattle.gate.specs.Places.{InRange, three}
use Rattle.timing.proofs.ChainLaw.{Reached}
use Rattle.timing.proofs.chains.run_chain.Given as goal

abbrev pub invariant-loop-i : goal.invariant-loop-i
invariant-loop-i l =
    (length l.c0 ≡ length l.initial.c0) × (length l.c1 ≡ length l.initial.c1) × (length l.c2 ≡ length l.initial.c2)
    × InRange l.p l.z × Reached l.p l.initial.z l.y l.items (three l.initial.c0 l.initial.c1 l.initial.c2) l.i l.z (three l.c0 l.c1 l.c2)
