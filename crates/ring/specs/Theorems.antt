-- Ring facts, each for all widths together. Proofs: proofs/Theorems.antt.
use Rattle.std.specs.Prelude.{ℕ, ◌+◌, ◌*◌, ◌%◌, ◌≤◌, ◌<◌, ◌^◌, ◌≡◌}
use Rattle.ring.specs.Modular.{Cong}
use Rattle.ring.specs.Rings.{modulus, quarter, rotated}

-- a word above bit e folds onto the low bits: 2^e is 1 modulo p
abbrev pub Folds : Type 0
Folds = (e high low : ℕ) → Cong (modulus e) (high * 2 ^ e + low) (high + low)

-- 2^k times a number below p is the turn of its e bits left by k
abbrev pub Rotates : Type 0
Rotates = (e k a : ℕ) → k ≤ e → a < modulus e → rotated e k a ≡ 2 ^ k * a % modulus e

-- so four times is the turn by two
abbrev pub FourTimes : Type 0
FourTimes = (e a : ℕ) → 2 ≤ e → a < modulus e → rotated e 2 a ≡ 4 * a % modulus e

-- the inverse of four
abbrev pub Quarter : Type 0
Quarter = (e : ℕ) → 2 ≤ e → 4 * quarter e % modulus e ≡ 1

-- two products in words of half the width, for every odd width: factors cut above bit k, the middle column at bit k
abbrev pub Product : Type 0
Product = (k a₁ a₀ b₁ b₀ c₁ c₀ d₁ d₀ m₁ m₀ : ℕ)
    → a₁ * b₀ + a₀ * b₁ + (c₁ * d₀ + c₀ * d₁) ≡ m₁ * 2 ^ k + m₀
    → Cong (modulus (2 * k + 1))
    (2 * (a₁ * b₁ + c₁ * d₁) + m₁ + m₀ * 2 ^ (k + 1) + (a₀ * b₀ + c₀ * d₀))
    ((a₁ * 2 ^ (k + 1) + a₀) * (b₁ * 2 ^ (k + 1) + b₀) + (c₁ * 2 ^ (k + 1) + c₀) * (d₁ * 2 ^ (k + 1) + d₀))
