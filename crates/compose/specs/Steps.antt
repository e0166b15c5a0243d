-- 01, "The gate", on lent runs.
-- Used by the code's contracts alone: no theorem's statement speaks of it.
use Rattle.std.specs.Prelude.{ℕ, ◌+◌, ◌*◌, ◌≤◌, List, ◌≡◌, set}
use Rattle.ring.specs.Modular.{Cong}
use Rattle.gate.specs.Gates.{gated}
use Rattle.gate.specs.Places.{Place, parts}
use Rattle.gate.specs.declared.sharing.Sharing.{Sharing}
use Rattle.circuit.specs.Compose.{joined}

-- order 8, "by u + v - 2uv", which h stands for modulo m, reduced or not
pub record Joined (m u v uv h : ℕ) : Type 0 where
  pub near : Cong m h (joined m u v uv)
  pub most : h ≤ u + v + 2 * m

-- the gate on u and v, with items t, leaves shares that h stands for, and its words at the heads of the channels
pub record Joins (m : ℕ) (u v t : Place → ℕ) (c : Place → List ℕ) (h : Sharing) (d : Place → List ℕ) : Type 0 where
  pub near : (i : Place) → Cong m (parts h i) (joined m (u i) (v i) (gated m u v t i))
  pub stored : (i : Place) → d i ≡ set (c i) 0 (gated m u v t i)
