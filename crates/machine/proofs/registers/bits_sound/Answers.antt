-- A shift by 59 at most is a power of two.
use mathlib.Core.Bool.{Bool, false, true, ◌&&◌}
use mathlib.Core.Path.{◌≡◌, refl}
use native.Mathlib.Omega.{arith}
use borrow.Author.Tests.{le-leb, lt-leb}
use lib.Dec.{leb}
use Rattle.ring.proofs.WordLaw.{shifted_one}
use Rattle.machine.specs.Registers.{sound_register}
use Rattle.machine.proofs.registers.bits_sound.Goals as goal

both_false : (b : Bool) → false ≡ b && false
both_false false = refl
both_false true = refl

pub returns-then-l-gt-MOST_BITS : goal.returns-then-l-gt-MOST_BITS
unfolding sound_register
returns-then-l-gt-MOST_BITS c = rw (lt-leb c.args.l 59 c.if-l-gt-MOST_BITS.true) (both_false (leb 1 c.args.l))

pub returns : goal.returns
unfolding sound_register
returns c = rw (c.is_below.ensures, le-leb c.args.l 59 c.if-l-gt-MOST_BITS.false, shifted_one c.args.l (omega arith))
