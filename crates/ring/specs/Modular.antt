-- Congruence and difference modulo m, over whole numbers: what "modulo p" means in 01 wherever a number may be negative.
use Rattle.std.specs.Prelude.{ℕ, ◌+◌, ◌-◌, ◌%◌, ◌≡◌}

-- a and b leave the same remainder
pub record Cong (m a b : ℕ) : Type 0 where
  pub same : a % m ≡ b % m

-- a - b modulo m, for all a and b
unfoldable pub diff : ℕ → ℕ → ℕ → ℕ
diff m a b = (a + (m - b % m)) % m
