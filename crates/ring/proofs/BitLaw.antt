-- Single bits are numbers modulo 2: `^` adds them and `&` multiplies them.
use Prim.Native.Nat.{ℕ, ◌+◌, ◌*◌, ◌%◌, ◌<◌}
use mathlib.Core.Logic.{⊎_elim}
use mathlib.Core.Path.{◌≡◌, ◌∙◌}
use native.Mathlib.Nat.{eq-zero-or-pos, mod-eq_of_lt, zero-mul}
use native.Mathlib.Omega.{arith}
use lib.Bits.{and_comm, and_mask, and_zero_l, bit_and, bit_xor, xor_add_and, xor_lt}

pub xor_bit : {a b : ℕ} → a < 2 → b < 2 → bit_xor a b ≡ (a + b) % 2
xor_bit {a} {b} ha hb = omega (arith, xor_add_and a b, xor_lt 1 a b ha hb)

pub and_bit : {a b : ℕ} → a < 2 → b < 2 → bit_and a b ≡ a * b
and_bit {a} {b} ha hb = ⊎_elim none one (eq-zero-or-pos a)
  where
    none : a ≡ 0 → bit_and a b ≡ a * b
    none e = rw e (and_zero_l b ∙ omega (arith, zero-mul b))

    one : 0 < a → bit_and a b ≡ a * b
    one h =
        let e : a ≡ 1 = omega arith in
        rw e (and_comm 1 b ∙ and_mask b 1 ∙ mod-eq_of_lt hb ∙ omega arith)
