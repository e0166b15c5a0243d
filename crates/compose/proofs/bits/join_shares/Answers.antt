-- Each place joins its own shares.
use Rattle.gate.proofs.PlaceLaw.{each}
use Rattle.compose.proofs.bits.join_shares.Goals as goal

pub returns : goal.returns
returns c =
    each _ c.join_share-s0.ensures c.join_share-s1.ensures c.join_share-s2.ensures
