-- All is modulo p'.
use native.Mathlib.Omega.{arith}
use Rattle.ring.proofs.RangeLaw.{quarter-lt}
use Rattle.compose.proofs.ShareLaw.{quartered_is}
use Rattle.compose.proofs.quotients.quartered.Goals as goal

pub mul-requires-2 : goal.mul-requires-2
mul-requires-2 c = record { left = rw c.quarter.ensures (quarter-lt c.args.f); right = c.sub-rest.ensures.below }

pub returns : goal.returns
returns c =
    record {
      is = quartered_is _ _ _ _ _ (omega arith) c.reduce.ensures.is c.mul.ensures.is c.sub-rest.ensures.is
          c.quarter.ensures c.mul-2.ensures.is;
      below = c.mul-2.ensures.below;
    }
