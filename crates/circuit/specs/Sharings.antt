-- The sharings that the orders' code starts from.
use Rattle.std.specs.Prelude.{ℕ, ◌*◌, ◌%◌, List, get_or}
use Rattle.gate.specs.declared.sharing.Sharing.{Sharing}

-- no bits and no sum yet
abbrev pub zeros : Sharing
zeros = record { s0 = 0; s1 = 0; s2 = 0 }

-- "item t0, t1, t2 of each strand": item k of each mask tape
abbrev pub items_at : ℕ → (m₀ m₁ m₂ : List ℕ) → Sharing
items_at k m₀ m₁ m₂ = record { s0 = get_or m₀ k 0; s1 = get_or m₁ k 0; s2 = get_or m₂ k 0 }

-- orders 5 and 6: "x_i = 4 a_i modulo p"
abbrev pub four_times : ℕ → Sharing → Sharing
four_times p a = record { s0 = 4 * a.s0 % p; s1 = 4 * a.s1 % p; s2 = 4 * a.s2 % p }
