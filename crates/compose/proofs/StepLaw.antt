-- One gate on lent runs: what becomes of the words that it sends.
use Prim.Native.Nat.{ℕ, ◌<◌}
use mathlib.Core.List.{List}
use mathlib.Core.Path.{◌≡◌, ◌∙◌, ap, refl}
use lib.ListN.{length}
use Rattle.ring.specs.Modular.{Cong}
use Rattle.gate.specs.Gates.{gated}
use Rattle.gate.specs.Places.{Place, Sent, p0, p1, p2, parts, sharing}
use Rattle.gate.specs.declared.sharing.Sharing.{Sharing}
use Rattle.gate.proofs.PlaceLaw.{parts-sharing}
use Rattle.circuit.specs.Circuits.{after, heads, starts, words}
use Rattle.circuit.specs.Compose.{joined}
use Rattle.circuit.specs.Lent.{Left}
use Rattle.circuit.specs.Loans.{Sends, channels, items_next, tapes, words_sent}
use Rattle.circuit.specs.declared.lent.Lent.{Lent}
use Rattle.circuit.specs.Orders.{multiplication}
use Rattle.circuit.proofs.LentLaw.{left_of, ran-gate}
use Rattle.circuit.proofs.LoanLaw.{heads_next}
use Rattle.circuit.proofs.RunLaw.{drops}
use Rattle.circuit.proofs.TurnLaw.{stored}
use Rattle.compose.specs.Steps.{Joins}

-- each place's join of its own shares and word
pub joins : {m : ℕ} (u v t : Place → ℕ) {z h : Sharing} (c d : Place → List ℕ)
    → z ≡ sharing (gated m u v t)
    → Sent z (c p0) (c p1) (c p2) (d p0) (d p1) (d p2)
    → ((i : Place) → Cong m (parts h i) (joined m (u i) (v i) (parts z i)))
    → Joins m u v t c h d
joins {m} u v t c d is sent shares =
    record {
      near = λ i. rw (ap parts is ∙ parts-sharing (gated m u v t)) at (shares i);
      stored = stored (gated m u v t) c d is sent;
    }

-- the join of a gate on what is lent
pub joins_sent : {m : ℕ} (u v : Place → ℕ) {z h : Sharing} {a b : Lent}
    → z ≡ sharing (gated m u v (parts (items_next a)))
    → Sends 1 (words_sent z) a b
    → ((i : Place) → Cong m (parts h i) (joined m (u i) (v i) (parts z i)))
    → Sends 1 (λ T c d. Joins m u v (heads T) c h d) a b
joins_sent {m} u v {z} {h} {a} {b} is sent shares =
    let here : z ≡ sharing (gated m u v (heads (drops a.at (tapes a)))) = rw (heads_next a) is in
    record {
      ahead = joins u v (heads (drops a.at (tapes a))) (drops a.at (channels a)) (drops a.at (channels b)) here sent.ahead shares;
      at = sent.at;
      same = sent.same;
    }

-- order 4 is its one gate
pub multiplied : (m : ℕ) {x y z : Sharing} {T c d : Place → List ℕ}
    → ((i : Place) → 0 < length (c i))
    → z ≡ sharing (gated m (parts x) (parts y) (heads T))
    → Sent z (c p0) (c p1) (c p2) (d p0) (d p1) (d p2)
    → Left (multiplication m) (parts x) (parts y) T c z d
unfolding multiplication words after gated
multiplied m {x} {y} {T = T} {c = c} {d = d} room is sent =
    let w : Place → ℕ = gated m (parts x) (parts y) (heads T) in
    left_of {C = multiplication m}
    (ran-gate _ (starts (multiplication m) (parts x) (parts y)) T c w refl room (stored w c d is sent))
    (ap parts is)
