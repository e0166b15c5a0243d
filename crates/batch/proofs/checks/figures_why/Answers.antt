-- The verdict is the first of the checks that is met.
use mathlib.Core.Bool.{not}
use mathlib.Core.Path.{ap}
use native.Mathlib.Omega.{arith}
use Rattle.attempt.specs.Lengths.{lengths_told}
use Rattle.ring.proofs.RangeLaw.{modulus-lt}
use Rattle.batch.proofs.CodeLaw.{bits_met, lengths-left, share_met}
use Rattle.batch.proofs.checks.figures_why.Goals as goal

pub any_outside-requires : goal.any_outside-requires
any_outside-requires c =
    record {
      modulus = omega (arith, c.modulus-p.ensures, modulus-lt c.args.r);
      long = record { zero = omega (arith, c.requires.0); one = omega (arith, c.requires.1); two = omega (arith, c.requires.2) };
    }

pub returns-then-not-l-most : goal.returns-then-not-l-most
returns-then-not-l-most c =
    bits_met _ _ _ (lengths_told c.args.len) c.width-most.ensures (ap not c.if-not-l-most.true)

pub returns-then-any_outside : goal.returns-then-any_outside
returns-then-any_outside c =
    share_met _ _ _ (lengths_told c.args.len) c.width-most.ensures c.modulus-p.ensures (ap not c.if-not-l-most.false)
    c.any_outside.ensures c.if-any_outside.true

pub returns : goal.returns
returns c =
    lengths-left _ _ _ (lengths_told c.args.len) c.width-most.ensures c.modulus-p.ensures
    (ap not c.if-not-l-most.false) c.any_outside.ensures c.if-any_outside.false c.room.ensures
