-- Invariant: the words of the bytes so far stand in the run.
use Prim.Native.Nat.{◌/◌, ◌<◌}
use mathlib.Core.Path.{refl}
use native.Mathlib.Omega.{arith}
use lib.ListN.{length}
use Rattle.drawing.specs.Raws.{raw_words}
use Rattle.drawing.proofs.RawLaw.{one_word, word_is}
use Rattle.drawing.proofs.raws.raw_words.Goals as goal

pub loop-i-init : goal.loop-i-init
unfolding raw_words
loop-i-init c = record { few = omega arith; long = refl; same = refl }

pub loop-i-preserved : goal.loop-i-preserved
loop-i-preserved c =
    let more : c.loop-i.i < length c.args.raw.now / 8 = omega (arith, c.loop-i-test.true, c.as_chunks.ensures.front_len) in
    one_word c.loop-i.invariant more c.requires (word_is _ _ _ _ _ c.as_chunks.ensures.front more c.from_le_bytes.ensures)
