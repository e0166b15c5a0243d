-- A shift divides, and the mask takes the remainder by two.
use Prim.Native.Nat.{◌/◌, ◌^◌}
use lib.Bits.{and_mask}
use Rattle.ring.specs.Rings.{bit_of}
use Rattle.ring.proofs.bits.bit.Goals as goal

pub returns-clause-is : goal.returns-clause-is
unfolding bit_of
returns-clause-is c = and_mask (c.args.w / 2 ^ c.args.j) 1
