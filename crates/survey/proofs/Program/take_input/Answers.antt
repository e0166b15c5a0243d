-- Chunk after chunk, in less than 2^64 turns.
use Prim.Native.Nat.{◌<◌}
use mathlib.Core.Path.{refl, sym}
use native.Mathlib.Omega.{arith}
use lib.ListN.{length}
use Rattle.survey.proofs.LoopLaw.{first, going, onward, over}
use Rattle.survey.proofs.Program.take_input.Goals as goal

pub loop-init : goal.loop-init
loop-init c = first c.requires refl

pub loop-preserved : goal.loop-preserved
loop-preserved c =
    let room : 0 < length c.take_chunk-last.new.self.buf = omega (arith, c.take_chunk-last.ensures.room) in
    onward (going c.loop.invariant) c.take_chunk-last.ensures.took.after room (sym c.if-not-goes_on.ensures)

pub returns-then-not-goes_on : goal.returns-then-not-goes_on
returns-then-not-goes_on c =
    over (going c.loop.invariant) c.take_chunk-last.ensures.took.after (sym c.if-not-goes_on.ensures)
