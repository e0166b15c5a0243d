-- A batch figure by figure (specs/Theorems.antt).
use Prim.Native.Nat.{ℕ}
use mathlib.Core.List.{List, ◌++◌}
use mathlib.Core.Path.{ap, sym, ◌∙◌}
use lib.ListN.{drop, get_or}
use Rattle.gate.proofs.PlaceLaw.{tabled-at}
use Rattle.circuit.specs.Circuits.{channelled, gates_of, result}
use Rattle.circuit.specs.Orders.{decomposition}
use Rattle.value.proofs.Counts.{decompose_count}
use Rattle.batch.specs.Batch.{Outcome}
use Rattle.lanes.specs.Lanes.{count, figure, lane, lanes, results, words_sent}
use Rattle.batch.specs.Theorems.{FigureByFigure}
use Rattle.batch.proofs.CallLaw.{accepted, done_is, refusal_is}
use Rattle.batch.proofs.GateLaw.{channelled-bits, decomposition-bits}
use Rattle.lanes.proofs.LaneLaw.{get_or-listed, lane-written}

pub figure_by_figure : FigureByFigure
unfolding results words_sent
figure_by_figure e l a T c z h k inside =
    let C = decomposition e l in
    let unrefused = sym (refusal_is e l a T c z) ∙ h in
    let done = done_is e l a T c z unrefused in
    let gates = ap (λ (o : Outcome). o.gates) done in
    record {
      left = λ i.
          ap (λ (o : Outcome). get_or (o.results i) k 0) done
          ∙ ap (λ (l : List ℕ). get_or l k 0) (tabled-at (results C a T) i)
          ∙ get_or-listed count (λ j. result C (figure a j) (figure a j) (lanes j T) i) k inside;
      bits = λ i.
          ap (λ (o : Outcome). lane k (o.channels i)) done
          ∙ ap (lane k) (tabled-at (λ j. words_sent C a T j ++ drop (gates_of C) (c j)) i)
          ∙ lane-written (gates_of C) (λ j. channelled C (figure a j) (figure a j) (lanes j T) i)
          (λ j. channelled-bits C (decomposition-bits e l) (figure a j) (lanes j T) i) (c i) k inside;
      gates = gates;
      counted = gates ∙ decompose_count e l (accepted e l a T c z unrefused).least;
    }
