-- What the gates of a task are lent: enough items and words, and items in range.
-- Used by the code's contracts alone: no theorem's statement speaks of it.
use Rattle.std.specs.Prelude.{ℕ, ◌+◌, List, drop}
use Rattle.circuit.specs.Lent.{ItemsBelow, Long}
use Rattle.order.specs.declared.tasks.Cost.{Cost}

-- an item of each mask tape and room on each channel for each gate, and items below the gates' moduli
pub record Supplied (k : Cost) (t₀ t₁ t₂ c₀ c₁ c₂ : List ℕ) : Type 0 where
  pub masks : Long (k.bits + k.ring) t₀ t₁ t₂
  pub room : Long (k.bits + k.ring) c₀ c₁ c₂
  pub first : ItemsBelow 2 k.bits t₀ t₁ t₂
  pub items : ItemsBelow k.modulus k.ring (drop k.bits t₀) (drop k.bits t₁) (drop k.bits t₂)
