-- 64 figures 0, and others that party 1 cannot tell from them: the sub-shares that it lacks are 5. Proofs: proofs/Example.antt.
use Rattle.std.specs.Prelude.{ℕ, List, ◌≡◌, replicate}
use Rattle.gate.specs.Places.{Place, p1, three}
use Rattle.view.specs.Views.{around}
use Rattle.batch.specs.Batch.{batch}
use Rattle.batch.specs.Secrecy.{Change}
use Rattle.lanes.specs.Lanes.{count}

abbrev pub run : ℕ → List ℕ
run v = replicate count v

-- seven words for the seven gates of two bits, the same on each mask tape and channel
abbrev pub words : Place → List ℕ
words = three (replicate 7 1) (replicate 7 1) (replicate 7 1)

abbrev pub zeros : Place → List ℕ
zeros = three (run 0) (run 0) (run 0)

abbrev pub others : Place → List ℕ
others = around p1 (run 0) (run 0) (run 5)

-- both are decomposed
pub record Accepts : Type 0 where
  pub these : (batch 31 2 zeros words words zeros).refusal ≡ 0
  pub those : (batch 31 2 others words words zeros).refusal ≡ 0

-- the secrecy of a batch, of these
abbrev pub Applies : Type 0
Applies = Change 31 2 p1 (replicate 7 1) (replicate 7 1) zeros others
