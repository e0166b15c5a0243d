-- The masks of the levels, and the levels one after another.
use Prim.Native.Nat.{ℕ, zero, suc, ◌+◌, ◌*◌, ◌-◌, ◌/◌, ◌%◌, ◌<◌, ◌^◌}
use mathlib.Core.Bool.{Bool, true, false, cond}
use mathlib.Core.Logic.{⊎_elim}
use mathlib.Core.List.{List}
use mathlib.Core.Path.{◌≡◌, ap, refl, ◌∙◌}
use native.Mathlib.Nat.{add-mul-div_right, div-eq_of_lt, eq-or-lt_of_le, eq-zero-or-pos, le_of_suc-le-suc, not-suc-le-zero}
use native.Mathlib.Omega.{arith}
use lib.Dec.{T, eqb, eqb→eq}
use Rattle.ring.specs.Rings.{bit_of}
use Rattle.planes.specs.Squares.{BlocksTransposed, Levelled, Striped, Transposed}
use Rattle.planes.proofs.CellLaw.{bit_above}
use Rattle.planes.proofs.TurnLaw.{doubled, single_bits, whole_square}

-- whether the first n bits of m are those of a mask of width h
abbrev pub striped_to : ℕ → ℕ → ℕ → Bool
striped_to zero h m = true
striped_to (suc j) h m = cond (eqb (m / 2 ^ j % 2) (j / h % 2)) (striped_to j h m) false

both : (b d : Bool) → T (cond b d false) → T b × T d
both true d t = (tt, t)
both false d t = absurd t

bits_to : (n h m : ℕ) → T (striped_to n h m) → (j : ℕ) → j < n → bit_of m j ≡ j / h % 2
unfolding bit_of
bits_to zero h m t j below = absurd (not-suc-le-zero below)
bits_to (suc n) h m t j below =
    let parts = both (eqb (m / 2 ^ n % 2) (n / h % 2)) (striped_to n h m) t in
    ⊎_elim (λ e. rw e (eqb→eq (m / 2 ^ n % 2) (n / h % 2) parts.0))
    (λ lt. bits_to n h m parts.1 j lt) (eq-or-lt_of_le (le_of_suc-le-suc below))

-- which stripe
stripe : (h u l : ℕ) → l < h → (u * (2 * h) + l) / h ≡ 2 * u
stripe h u l hl =
    let as_sum : u * (2 * h) + l ≡ l + 2 * u * h = omega arith in
    let some : 0 < h = omega arith in
    ap (λ (n : ℕ). n / h) as_sum ∙ add-mul-div_right l (2 * u) some ∙ ap (λ (n : ℕ). n + 2 * u) (div-eq_of_lt hl) ∙ omega arith

stripe_odd : (h u l : ℕ) → l < h → (u * (2 * h) + l + h) / h ≡ 2 * u + 1
stripe_odd h u l hl =
    let as_sum : u * (2 * h) + l + h ≡ l + (2 * u + 1) * h = omega arith in
    let some : 0 < h = omega arith in
    ap (λ (n : ℕ). n / h) as_sum ∙ add-mul-div_right l (2 * u + 1) some ∙ ap (λ (n : ℕ). n + (2 * u + 1)) (div-eq_of_lt hl) ∙ omega arith

even_is : (u : ℕ) → 2 * u % 2 ≡ 0
even_is u = omega arith

odd_is : (u : ℕ) → (2 * u + 1) % 2 ≡ 1
odd_is u = omega arith

pub striped : (h m : ℕ) → T (striped_to 64 h m) → m < 2 ^ 64 → Striped h m
striped h m t small = record {
  even = λ u l hl.
      ⊎_elim
      (λ far. bit_above 64 m (u * (2 * h) + l) small (omega arith))
      (λ near. bits_to 64 h m t (u * (2 * h) + l) (omega arith) ∙ ap (λ (n : ℕ). n % 2) (stripe h u l hl) ∙ even_is u)
      (eq-zero-or-pos (64 - (u * (2 * h) + l)));
  odd = λ u l hl room.
      bits_to 64 h m t (u * (2 * h) + l + h) (omega arith) ∙ ap (λ (n : ℕ). n % 2) (stripe_odd h u l hl) ∙ odd_is u;
}

-- five levels, from single bits up, of n squares below each other
pub five_levels : (n : ℕ) {w₀ w₁ w₂ w₃ w₄ w₅ : List ℕ}
    → Levelled 1 0xaaaaaaaaaaaaaaaa (n * 16) w₀ w₁
    → Levelled 2 0xcccccccccccccccc (n * 8) w₁ w₂
    → Levelled 4 0xf0f0f0f0f0f0f0f0 (n * 4) w₂ w₃
    → Levelled 8 0xff00ff00ff00ff00 (n * 2) w₃ w₄
    → Levelled 16 0xffff0000ffff0000 n w₄ w₅
    → BlocksTransposed 32 (n * 32) w₀ w₅
five_levels n {w₀} l₁ l₂ l₃ l₄ l₅ =
    doubled (striped 16 0xffff0000ffff0000 tt (omega arith)) (omega arith)
    (doubled (striped 8 0xff00ff00ff00ff00 tt (omega arith)) (omega arith)
    (doubled (striped 4 0xf0f0f0f0f0f0f0f0 tt (omega arith)) (omega arith)
    (doubled (striped 2 0xcccccccccccccccc tt (omega arith)) (omega arith)
    (doubled (striped 1 0xaaaaaaaaaaaaaaaa tt (omega arith)) (omega arith) (single_bits (n * 32) w₀) l₁) l₂) l₃) l₄) l₅

-- and a sixth
pub sixth_level : {w₀ w₁ w₂ : List ℕ} → BlocksTransposed 32 64 w₀ w₁ → Levelled 32 0xffffffff00000000 1 w₁ w₂ → Transposed w₀ w₂
sixth_level halves level = whole_square (doubled (striped 32 0xffffffff00000000 tt (omega arith)) refl halves level)
