-- 01, "Rings, parts and units": each ring has its width e and its modulus p = 2^e - 1.
use Rattle.std.specs.Prelude.{ℕ, ◌+◌, ◌*◌, ◌-◌, ◌/◌, ◌%◌, ◌≤◌, ◌^◌, cond, ◌≡◌, eqb, Some, None, Option}
use Rattle.ring.specs.declared.rings.Ring.{Ring}
use Rattle.ring.specs.declared.rings.Ring.TheVariants.{R13, R31, R61}

-- p of width e
unfoldable pub modulus : ℕ → ℕ
modulus e = 2 ^ e - 1

-- u of document 000: its 2^u (Schemes 2 and 3, step 1) is the 4 of order 5
abbrev pub u : ℕ
u = 2

-- the inverse of four modulo p
unfoldable pub quarter : ℕ → ℕ
quarter e = 2 ^ (e - 2)

-- "a turn of its e bits left" (order 5, by two) by k: the low e - k bits move up, the k highest come in below
unfoldable pub rotated : ℕ → ℕ → ℕ → ℕ
rotated e k a = a % 2 ^ (e - k) * 2 ^ k + a / 2 ^ (e - k)

-- "Bit j of a sub-share word is the one of weight 2^j"
unfoldable pub bit_of : ℕ → ℕ → ℕ
bit_of w j = w / 2 ^ j % 2

-- e is 13, 31 or 61
abbrev pub width_of : Ring → ℕ
width_of R13 = 13
width_of R31 = 31
width_of R61 = 61

abbrev pub modulus_of : Ring → ℕ
modulus_of r = modulus (width_of r)

abbrev pub quarter_of : Ring → ℕ
quarter_of r = quarter (width_of r)

-- the ring of a width, where there is one
unfoldable pub ring_of : ℕ → Option Ring
ring_of e = cond (eqb e 13) (Some R13) (cond (eqb e 31) (Some R31) (cond (eqb e 61) (Some R61) None))

-- a width and a modulus as numbers: what code that is given both knows of them; used by contracts alone
pub record Sized (e p : ℕ) : Type 0 where
  pub is : p ≡ modulus e
  pub least : 13 ≤ e
  pub most : e ≤ 61
  pub odd : 2 * (e / 2) + 1 ≡ e
