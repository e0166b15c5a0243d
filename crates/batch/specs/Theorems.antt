-- 02, P13: a batch figure by figure. Proofs: proofs/Theorems.antt.
use Rattle.std.specs.Prelude.{ℕ, ◌+◌, ◌*◌, ◌<◌, List, ◌++◌, ◌≡◌, drop, get_or}
use Rattle.gate.specs.Places.{Place}
use Rattle.circuit.specs.Circuits.{channelled, gates_of, result}
use Rattle.circuit.specs.Orders.{decomposition}
use Rattle.batch.specs.Batch.{batch}
use Rattle.lanes.specs.Lanes.{count, figure, lane, lanes}

-- "For each k the result, wire bits and count, 3l + 1, are those of the single order's definition fed bit k of each item"
pub record Figure (e l : ℕ) (a T c z : Place → List ℕ) (k : ℕ) : Type 0 where
  pub left : (i : Place)
      → get_or ((batch e l a T c z).results i) k 0 ≡ result (decomposition e l) (figure a k) (figure a k) (lanes k T) i
  pub bits : (i : Place)
      → lane k ((batch e l a T c z).channels i)
      ≡ channelled (decomposition e l) (figure a k) (figure a k) (lanes k T) i ++ drop (gates_of (decomposition e l)) (lane k (c i))
  pub gates : (batch e l a T c z).gates ≡ gates_of (decomposition e l)
  pub counted : (batch e l a T c z).gates ≡ 3 * l + 1

abbrev pub FigureByFigure : Type 0
FigureByFigure = (e l : ℕ) (a T c z : Place → List ℕ) → (batch e l a T c z).refusal ≡ 0 → (k : ℕ) → k < count → Figure e l a T c z k
