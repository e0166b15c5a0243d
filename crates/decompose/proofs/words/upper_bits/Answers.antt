-- The mask is one less than a power of two.
use mathlib.Core.Path.{refl}
use Rattle.decompose.proofs.WordLaw.{upper_is, upper_lt}
use Rattle.decompose.proofs.words.upper_bits.Goals as goal

pub returns : goal.returns
returns c = rw (upper_is c.args.total c.args.raising c.requires) record { is = refl; below = upper_lt c.args.total c.args.raising c.args.l }
