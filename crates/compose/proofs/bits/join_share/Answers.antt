-- The sum with 2 (p - uv) stands for the difference.
use Rattle.compose.proofs.ShareLaw.{join_is}
use Rattle.compose.proofs.bits.join_share.Goals as goal

pub returns : goal.returns
returns c =
    join_is _ _ _ _ c.requires.product
