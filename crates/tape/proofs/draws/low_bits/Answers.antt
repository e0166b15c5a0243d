-- The mask is one less than a power of two.
use lib.Bits.{and_mask}
use Rattle.ring.proofs.WordLaw.{shifted_one}
use Rattle.tape.specs.Tapes.{low_bits}
use Rattle.tape.proofs.draws.low_bits.Goals as goal

pub returns : goal.returns
unfolding low_bits
returns c = rw (shifted_one c.args.width c.requires) (and_mask c.args.w c.args.width)
