-- The columns fit a word with room to fold, and are the two products modulo p.
use Prim.Native.Nat.{◌+◌, ◌*◌, ◌<◌, ◌≤◌, ◌^◌}
use native.Mathlib.Omega.{arith}
use native.Mathlib.Nat.{mul-le-mul, le_refl}
use Rattle.ring.proofs.Theorems.{odd_power}
use Rattle.ring.proofs.WordLaw.{Carried, Parted, carried, middle, parted, summed, summed_cong}
use Rattle.ring.proofs.modular.columns.Goals as goal

left : (c : goal.Start) → Parted c.args.k c.args.p c.args.a c.args.b
left c = parted c.args.k c.args.p c.requires.modulus c.requires.left.0 c.requires.left.1

right : (c : goal.Start) → Parted c.args.k c.args.p c.args.c c.args.d
right c = parted c.args.k c.args.p c.requires.modulus c.requires.right.0 c.requires.right.1

center : (c : goal.Start)
    → Carried c.args.k c.args.p (middle c.args.k c.args.p c.args.a c.args.b c.args.c c.args.d)
center c = carried c.args.k c.args.p c.requires.modulus _ c.requires.width.0 c.requires.width.1 (omega (arith, left c, right c))

room : (c : goal.Start)
    → summed c.args.k c.args.p c.args.a c.args.b c.args.c c.args.d < c.args.p * 2 ^ (2 * c.args.k + 1)
room c =
    let L = 2 ^ c.args.k in
    let square : 4 * L ≤ L * L = mul-le-mul (center c).least (le_refl L) in
    let large : 31 ≤ c.args.p = omega (arith, center c) in
    omega (arith, left c, right c, center c, mul-le-mul large (le_refl (2 ^ (2 * c.args.k + 1))), odd_power c.args.k)

pub returns : goal.returns
returns c = record {
  is = summed_cong c.args.k c.args.p c.requires.modulus c.args.a c.args.b c.args.c c.args.d c.requires.width.1;
  below = (room c, omega (arith, left c, right c, center c));
}
