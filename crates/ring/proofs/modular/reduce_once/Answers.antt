-- One bit more than twice the modulus fits a word, and the mask leaves the remainder.
use Prim.Native.Nat.{◌+◌, ◌/◌, ◌%◌, ◌^◌}
use mathlib.Core.Path.{◌≡◌}
use native.Mathlib.Omega.{arith}
use native.Mathlib.Nat.{mod-lt}
use lib.Bits.{bit_and}
use Rattle.ring.proofs.FoldLaw.{modulus_room, passes_once, reduced}
use Rattle.ring.proofs.modular.reduce_once.Goals as goal

pub returns : goal.returns
returns c =
    let s = c.args.s in
    let p = c.args.p in
    let is : bit_and (s + (s + 1) / 2 ^ c.args.e) p ≡ s % p = reduced c.args.e p s c.requires.modulus c.requires.sum in
    record { is = is; below = omega (arith, is, mod-lt s {m = p} (omega arith)) }

pub overflow_add-result-2 : goal.overflow_add-result-2
overflow_add-result-2 c =
    omega (
      arith,
      modulus_room c.requires.modulus c.requires.width,
      passes_once c.args.e c.args.p c.args.s c.requires.modulus
          c.requires.sum,
    )
