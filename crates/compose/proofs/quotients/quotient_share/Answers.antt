-- Of bits `^` is their sum modulo 2.
use Rattle.compose.proofs.ShareLaw.{quotient_is}
use Rattle.compose.proofs.quotients.quotient_share.Goals as goal

pub returns : goal.returns
returns c = quotient_is _ c.bit-low.ensures.is c.bit.ensures.is c.bit.ensures.below c.requires
