-- One fold leaves the remainder: `reduced_multiple`, by `FourTimes`.
use mathlib.Core.Path.{◌∙◌}
use native.Mathlib.Nat.{mod-lt}
use native.Mathlib.Omega.{arith}
use Rattle.ring.proofs.FoldLaw.{reduced_multiple}
use Rattle.ring.proofs.modular.reduce_multiple.Goals as goal

pub returns-clause-is : goal.returns-clause-is
returns-clause-is c =
    c.fold.ensures
    ∙ reduced_multiple c.args.e c.args.p c.args.s c.requires.modulus c.requires.width.0 c.requires.multiple c.requires.number

pub returns-clause-below : goal.returns-clause-below
returns-clause-below c = omega (arith, returns-clause-is c, mod-lt c.args.s {m = c.args.p} (omega arith))
