use native.Mathlib.Omega.{arith}
use Rattle.gate.proofs.WordLaw.{mask_near}
use Rattle.gate.proofs.words.mask_word.Goals as goal

pub returns : goal.returns
returns c =
    record { is = mask_near c.args.p c.args.t c.args.tf c.requires.items.own; below = omega (arith, c.requires.items) }
