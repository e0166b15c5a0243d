-- Invariant: gate i is reached.
use Prim.Native.Nat.{◌-◌}
use mathlib.Core.Path.{◌∙◌, refl, sym}
use native.Mathlib.Omega.{arith}
use borrow.Rule.Slice.PartMut.{same_len_mid}
use lib.ListN.{length}
use Rattle.gate.proofs.PlaceLaw.{in_range}
use Rattle.timing.proofs.ChainLaw.{at-start, full, stopped, went_on}
use Rattle.timing.proofs.chains.run_chain.Goals as goal

pub loop-i-init : goal.loop-i-init
loop-i-init c = (refl, refl, refl, c.requires.left, at-start _ _ _ _ _)

-- an item out of range ends the chain
pub returns-then-not-is_below : goal.returns-then-not-is_below
returns-then-not-is_below c =
    stopped _ _ _ _ _ c.loop-i.invariant.4 (omega arith) c.triple-t.ensures
    (sym c.is_below.ensures ∙ c.if-not-is_below.true)

pub ring_words-z-requires : goal.ring_words-z-requires
ring_words-z-requires c =
    let fits = sym c.is_below.ensures ∙ c.if-not-is_below.false in record {
      sized = c.requires.sized;
      left = c.loop-i.invariant.3;
      right = c.requires.right;
      items = in_range fits;
    }

pub loop-i-preserved : goal.loop-i-preserved
loop-i-preserved c =
    let inv = c.loop-i.invariant in
    let i = c.loop-i.i in (
      same_len_mid i (length c.loop-i.c0 - i) c.loop-i.c0 c.send.new.c0 c.send.auto.c0 ∙ inv.0,
      same_len_mid i (length c.loop-i.c1 - i) c.loop-i.c1 c.send.new.c1 c.send.auto.c1 ∙ inv.1,
      same_len_mid i (length c.loop-i.c2 - i) c.loop-i.c2 c.send.new.c2 c.send.auto.c2 ∙ inv.2,
      c.ring_words-z.ensures.below,
      went_on _ _ _ _ _ inv.4 (omega (arith, c.loop-i-test.true, inv.0)) c.requires.lengths.one c.requires.lengths.two
          inv.0 inv.1 inv.2
          c.triple-t.ensures
          (sym c.is_below.ensures ∙ c.if-not-is_below.false)
          c.ring_words-z.ensures.is
          c.send.ensures,
    )

pub returns : goal.returns
returns c = full _ _ _ _ _ c.loop-i.invariant.4 (omega arith)
