-- What is drawn of a raw word.
use Prim.Native.Nat.{◌≤◌}
use lib.Dec.{lit≤}
use Rattle.ring.proofs.RangeLaw.{width_le}
use Rattle.tape.specs.Tapes.{width_of}
use Rattle.tape.specs.declared.items.Items.{Items}
use Rattle.tape.specs.declared.items.Items.TheVariants.{Bits, Numbers}

-- items are narrower than a word
pub narrow : (i : Items) → width_of i ≤ 61
narrow Bits = lit≤ tt
narrow (Numbers r) = width_le r
