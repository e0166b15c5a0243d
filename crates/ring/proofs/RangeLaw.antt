-- The three rings' numbers fit a word with room: what callers need of a modulus they know by its ring.
use Rattle.std.specs.Prelude.{Some, None}
use Prim.Native.Nat.{ℕ, ◌+◌, ◌*◌, ◌/◌, ◌<◌, ◌≤◌, ◌^◌}
use mathlib.Core.Bool.{Bool, cond, false, true}
use mathlib.Core.Path.{◌≡◌, refl, ap, ◌∙◌}
use native.Mathlib.Nat.{le_refl, mul-le-mul}
use native.Mathlib.Omega.{arith}
use borrow.Author.Tests.{eqb-true}
use lib.Dec.{eqb, lit≤}
use lib.Pow.{pow_mono}
use Rattle.ring.specs.Rings.{Sized, modulus_of, quarter_of, ring_of, width_of}
use Rattle.ring.specs.declared.rings.Ring.{Ring}
use Rattle.ring.specs.declared.rings.Ring.TheVariants.{R13, R31, R61}
use Rattle.ring.proofs.Theorems.{modulus-suc, quarter_below}

-- what is known of the three widths
pub width_le : (r : Ring) → width_of r ≤ 61
width_le R13 = lit≤ tt
width_le R31 = lit≤ tt
width_le R61 = lit≤ tt

pub width_ge : (r : Ring) → 13 ≤ width_of r
width_ge R13 = lit≤ tt
width_ge R31 = lit≤ tt
width_ge R61 = lit≤ tt

width_odd : (r : Ring) → 2 * (width_of r / 2) + 1 ≡ width_of r
width_odd R13 = refl
width_odd R31 = refl
width_odd R61 = refl

-- the width of a ring that is named
pub width_named : (e : ℕ) {r : Ring} → ring_of e ≡ Some r → e ≡ width_of r
unfolding ring_of
width_named e {r} named = go (eqb e 13) (eqb e 31) (eqb e 61) refl refl refl named
  where
    go : (a b c : Bool) → eqb e 13 ≡ a → eqb e 31 ≡ b → eqb e 61 ≡ c
        → cond a (Some R13) (cond b (Some R31) (cond c (Some R61) None)) ≡ Some r → e ≡ width_of r
    go true b c h k l named = let q : R13 ≡ r = cc in eqb-true e 13 h ∙ ap width_of q
    go false true c h k l named = let q : R31 ≡ r = cc in eqb-true e 31 k ∙ ap width_of q
    go false false true h k l named = let q : R61 ≡ r = cc in eqb-true e 61 l ∙ ap width_of q
    go false false false h k l named = cc

-- so of a width and a modulus as numbers
pub sized : (r : Ring) {e p : ℕ} → e ≡ width_of r → p ≡ modulus_of r → Sized e p
sized r he hp = record { is = rw he hp; least = omega (arith, width_ge r); most = omega (arith, width_le r); odd = rw he (width_odd r) }

pub sized_lt : {e p : ℕ} → Sized e p → p < 2 ^ 61
sized_lt {e} h = omega (arith, h, modulus-suc e, pow_mono {i = e} {j = 61} h.most)

pub sized_gt : {e p : ℕ} → Sized e p → 2 ^ 12 < p
sized_gt {e} h = omega (arith, h, modulus-suc e, pow_mono {i = 13} {j = e} h.least)

pub modulus-lt : (r : Ring) → modulus_of r < 2 ^ 61
modulus-lt r = sized_lt (sized r refl refl)

pub quarter-lt : (r : Ring) → quarter_of r < modulus_of r
quarter-lt r = quarter_below (width_of r) (omega (arith, width_ge r))

-- seven times p has few bits above bit e
pub few_above : {e p : ℕ} (s : ℕ) → Sized e p → s < 7 * p → (s < p * 2 ^ e) × (s < 15 * 2 ^ 60)
few_above {e} {p} s h sum =
    let eight : 8 ≤ 2 ^ e = pow_mono {i = 3} (omega (arith, h)) in
    (omega (arith, mul-le-mul (le_refl p) eight), omega (arith, sized_lt h))
