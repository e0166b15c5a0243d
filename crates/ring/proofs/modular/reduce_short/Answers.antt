-- The word passes bit e once for each p in it, and the mask leaves the remainder.
use Prim.Native.Nat.{◌+◌, ◌/◌, ◌%◌, ◌^◌, ◌≤◌}
use mathlib.Core.Path.{◌≡◌}
use native.Mathlib.Nat.{mod-lt}
use native.Mathlib.Omega.{arith}
use lib.Bits.{bit_and}
use lib.Pow.{pow_mono}
use Rattle.ring.proofs.FoldLaw.{fold-lt, passes, passes_once, reduced_short}
use Rattle.ring.proofs.Theorems.{div-pow-le, modulus-suc}
use Rattle.ring.proofs.modular.reduce_short.Goals as goal

-- little is above bit e
few : (c : goal.Start) → c.args.s / 2 ^ c.args.e ≤ c.args.s / 2 ^ 5
few c = div-pow-le c.args.s c.requires.width.0

positive : (c : goal.Start) → 1 ≤ c.args.p
positive c = omega (arith, modulus-suc c.args.e, c.requires.modulus, pow_mono {i = 5} c.requires.width.0)

above : (c : goal.Start) → (c.args.s + c.args.s / 2 ^ c.args.e + 1) / 2 ^ c.args.e ≤ c.args.s / 2 ^ c.args.e + 1
above c =
    let small = fold-lt c.args.e c.args.p c.args.s c.requires.modulus c.requires.room.0 in
    omega (arith, passes c.args.e c.args.p c.args.s c.requires.modulus small, passes_once c.args.e c.args.p _ c.requires.modulus small)

pub returns : goal.returns
returns c =
    let s = c.args.s in
    let e = c.args.e in
    let p = c.args.p in
    let is : bit_and (s + (s + s / 2 ^ e + 1) / 2 ^ e) p ≡ s % p = reduced_short e p s c.requires.modulus c.requires.room.0 in
    record { is = is; below = omega (arith, is, mod-lt s {m = p} (omega (arith, positive c))) }

pub overflow_add-result : goal.overflow_add-result
overflow_add-result c =
    omega (arith, few c)

pub overflow_add-result-2 : goal.overflow_add-result-2
overflow_add-result-2 c =
    omega (arith, few c)

pub overflow_add-result-3 : goal.overflow_add-result-3
overflow_add-result-3 c =
    omega (arith, few c, above c)
