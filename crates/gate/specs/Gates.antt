-- 01, "The gate", with the masks of 02, P5.
use Rattle.std.specs.Prelude.{ℕ, ◌+◌, ◌*◌, ◌%◌}
use Rattle.ring.specs.Modular.{diff}
use Rattle.gate.specs.Places.{Pair, Place, held, tabled}

-- t_(i+1) - t_i
unfoldable pub mask : ℕ → Pair → ℕ
mask m t = diff m t.far t.own

-- t_(i+1) from t_i and that mask
unfoldable pub unmask : ℕ → ℕ → ℕ → ℕ
unmask m own d = (d + own) % m

-- x_i y_i + x_i y_(i+1) + x_(i+1) y_i
unfoldable pub crossed : Pair → Pair → ℕ
crossed x y = x.own * y.own + x.own * y.far + x.far * y.own

-- z_i, from what party i holds and nothing else
unfoldable pub word : ℕ → Pair → Pair → Pair → ℕ
word m x y t = (crossed x y + mask m t) % m

-- t_(i+1) from z_i: what the party that receives z_i lacks
unfoldable pub item : ℕ → Pair → Pair → ℕ → ℕ → ℕ
item m x y own z = unmask m own (diff m z (crossed x y))

-- "z0, z1, z2 are the new sub-shares"
unfoldable pub gated : ℕ → (Place → ℕ) → (Place → ℕ) → (Place → ℕ) → Place → ℕ
gated m x y t = tabled (λ i. word m (held x i) (held y i) (held t i))
