-- Products below 5p and a mask below 2p make a sum below 7p.
use Prim.Native.Nat.{◌+◌}
use mathlib.Core.Path.{◌∙◌}
use native.Mathlib.Omega.{arith}
use Rattle.ring.proofs.CongLaw.{cong_add, cong_refl}
use Rattle.ring.proofs.RangeLaw.{few_above}
use Rattle.gate.proofs.words.masked.Goals as goal

pub reduce_short-requires : goal.reduce_short-requires
reduce_short-requires c =
    let known = c.requires.sized in
    record {
      modulus = known.is;
      width = omega (arith, known);
      room = few_above (c.args.products + c.mask_word-d.result) known (omega arith);
    }

pub returns : goal.returns
returns c =
    record {
      is = c.reduce_short.ensures.is ∙ (cong_add (cong_refl c.args.products) c.mask_word-d.ensures.is).same;
      below = c.reduce_short.ensures.below;
    }
