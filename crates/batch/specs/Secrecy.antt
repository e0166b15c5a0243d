-- 02, P13: "between figures in range that are alike in U's two sub-shares an invertible change of the strand U lacks keeps all that
-- U sends, receives and gets". Proof: proofs/Secrecy.antt.
use Rattle.std.specs.Prelude.{ℕ, ◌<◌, List, ◌≡◌, get_or, length}
use Rattle.ring.specs.Rings.{modulus}
use Rattle.gate.specs.Places.{Place, next}
use Rattle.view.specs.Views.{around, lacked_by}
use Rattle.act.specs.Jobs.{Words}
use Rattle.batch.specs.Batch.{Outcome, batch}
use Rattle.lanes.specs.Lanes.{count}

-- "figures in range"
pub record InRange (e : ℕ) (a : Place → List ℕ) : Type 0 where
  pub below : (i : Place) (k : ℕ) → k < count → get_or (a i) k 0 < modulus e

-- "alike in U's two sub-shares"; the third run has the same length, which 23 would tell
pub record Alike (U : Place) (a b : Place → List ℕ) : Type 0 where
  pub own : a U ≡ b U
  pub far : a (next U) ≡ b (next U)
  pub long : length (a (lacked_by U)) ≡ length (b (lacked_by U))

-- "all that U sends, receives and gets": channels U and U + 1, the answer, and its two runs of results
pub record Seen : Type 0 where
  pub sends : List ℕ
  pub receives : List ℕ
  pub refusal : ℕ
  pub value : ℕ
  pub gates : ℕ
  pub own : List ℕ
  pub far : List ℕ

abbrev pub seen : Place → Outcome → Seen
seen U o =
    record {
      sends = o.channels U;
      receives = o.channels (next U);
      refusal = o.refusal;
      value = o.value;
      gates = o.gates;
      own = o.results U;
      far = o.results (next U);
    }

-- "an invertible change of the strand U lacks", of words of 64 bits and of its length, U's own two being fixed
pub record Change (e l : ℕ) (U : Place) (own far : List ℕ) (a b : Place → List ℕ) : Type 0 where
  pub to : List ℕ → List ℕ
  pub from : List ℕ → List ℕ
  pub to_words : (n : ℕ) (M : List ℕ) → Words n M → Words n (to M)
  pub from_words : (n : ℕ) (M : List ℕ) → Words n M → Words n (from M)
  pub from_to : (n : ℕ) (M : List ℕ) → Words n M → from (to M) ≡ M
  pub to_from : (n : ℕ) (M : List ℕ) → Words n M → to (from M) ≡ M
  pub same : (n : ℕ) (M : List ℕ) → Words n M → (c z : Place → List ℕ)
      → seen U (batch e l a (around U own far M) c z) ≡ seen U (batch e l b (around U own far (to M)) c z)

-- for every width, l and U, whatever U's two mask tapes hold
abbrev pub BatchSecret : Type 0
BatchSecret = (e l : ℕ) (U : Place) (own far : List ℕ) (a b : Place → List ℕ) → InRange e a → InRange e b → Alike U a b
    → Change e l U own far a b
