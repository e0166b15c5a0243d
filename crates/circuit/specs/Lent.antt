-- What gates leave on lent runs of words: "the words are written from the wire position on, one a wire .. and all else there stays".
-- Used by the code's contracts alone: no theorem's statement speaks of it.
use Rattle.std.specs.Prelude.{ℕ, ◌<◌, ◌≤◌, List, ◌++◌, ◌≡◌, drop, get_or, length}
use Rattle.gate.specs.Places.{Place, Sent, parts, sharing}
use Rattle.gate.specs.declared.sharing.Sharing.{Sharing}
use Rattle.circuit.specs.Circuits.{Circuit, Gate, after, channelled, ends, gates_of, result, sent, words}

-- from states s and channels c, with mask tapes T, the gates G leave states r and channels d: the words, then the old rest
pub record Ran {S : Type 0} (G : List (Gate S)) (s : Place → S) (T c : Place → List ℕ) (r : Place → S) (d : Place → List ℕ) : Type 0 where
  pub states : ends G s T ≡ r
  pub channels : (i : Place) → d i ≡ sent G s T i ++ drop (length G) (c i)

-- one gate with items t takes states s to r, and its words stand at the heads of the channels: c at entry, d at exit
pub record Turned {S : Type 0} (g : Gate S) (s : Place → S) (t : Sharing) (r : Place → S) (c₀ c₁ c₂ d₀ d₁ d₂ : List ℕ) : Type 0 where
  pub states : after g s (words g s (parts t)) ≡ r
  pub stored : Sent (sharing (words g s (parts t))) c₀ c₁ c₂ d₀ d₁ d₂

-- from sources x and y the circuit C leaves the sharing z and channels d
pub record Left (C : Circuit) (x y : Place → ℕ) (T c : Place → List ℕ) (z : Sharing) (d : Place → List ℕ) : Type 0 where
  pub is : parts z ≡ result C x y T
  pub channels : (i : Place) → d i ≡ channelled C x y T i ++ drop (gates_of C) (c i)

-- each of three runs has n words at least
pub record Long (n : ℕ) (t₀ t₁ t₂ : List ℕ) : Type 0 where
  pub zero : n ≤ length t₀
  pub one : n ≤ length t₁
  pub two : n ≤ length t₂

-- and the first n of each are below m
pub record ItemsBelow (m n : ℕ) (t₀ t₁ t₂ : List ℕ) : Type 0 where
  pub zero : (k : ℕ) → k < n → get_or t₀ k 0 < m
  pub one : (k : ℕ) → k < n → get_or t₁ k 0 < m
  pub two : (k : ℕ) → k < n → get_or t₂ k 0 < m
