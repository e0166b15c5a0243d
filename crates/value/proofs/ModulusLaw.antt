-- What is used of p = 2^e - 1, for every width e.
use Prim.Native.Nat.{ℕ, ◌+◌, ◌*◌, ◌-◌, ◌<◌, ◌≤◌, ◌^◌}
use mathlib.Core.Path.{◌≡◌, sym, ◌∙◌}
use native.Mathlib.Omega.{arith}
use lib.Pow.{pow_mono}
use Rattle.ring.specs.Rings.{modulus}
use Rattle.ring.proofs.Theorems.{four_quarters, modulus-suc}

pub modulus_pos : (e : ℕ) → 1 ≤ e → 0 < modulus e
modulus_pos e h =
    let large : 2 ^ 1 ≤ 2 ^ e = pow_mono h in
    omega (arith, modulus-suc e)

-- p is -1 modulo 4
pub modulus_fours : (e : ℕ) → 2 ≤ e → modulus e + 1 ≡ 4 * 2 ^ (e - 2)
modulus_fours e h = modulus-suc e ∙ sym (four_quarters e h)

-- a value of which four times is below p
pub value-lt : (e a : ℕ) → 2 ≤ e → 4 * a < modulus e → a < 2 ^ (e - 2)
value-lt e a h small = omega (arith, modulus_fours e h)
