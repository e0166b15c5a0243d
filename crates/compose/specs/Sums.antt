-- 01, order 8, on lent runs: the sums that gates leave, whatever else the places keep.
-- Used by the code's contracts alone: no theorem's statement speaks of it.
use Rattle.std.specs.Prelude.{ℕ, ◌+◌, ◌*◌, ◌%◌, List, [], ◌∷◌, ◌++◌, ◌≡◌, drop, length}
use Rattle.gate.specs.Places.{Place, parts, tabled}
use Rattle.gate.specs.declared.sharing.Sharing.{Sharing}
use Rattle.circuit.specs.Circuits.{Gate, ends, sent}
use Rattle.circuit.specs.Compose.{Summing, compose_gates, first_gate, second_gate, summing_start}
use Rattle.circuit.specs.Orders.{word_bit}

-- order 8, "two gates a bit": those of bit j
abbrev pub bit_gates : {K : Type 0} → (Place → K → ℕ → ℕ) → ℕ → ℕ → ℕ → List (Gate (Summing K))
bit_gates read m j weight = first_gate read m j ∷ second_gate read m j weight ∷ []

-- order 8, before a bit: the states s read their bits from w and have the sums z
pub record Holds {K : Type 0} (w : Place → K) (z : Place → ℕ) (s : Place → Summing K) : Type 0 where
  pub kept : (i : Place) → (s i).kept ≡ w i
  pub sum : (i : Place) → (s i).sum ≡ z i

-- order 8, after bits: from states s and channels c, with mask tapes T, the gates G leave the sums z and channels d, "and all else there stays"
pub record Summed {K : Type 0} (G : List (Gate (Summing K))) (s : Place → Summing K) (T c : Place → List ℕ) (z : Place → ℕ) (d : Place → List ℕ) : Type 0 where
  pub sums : (i : Place) → (ends G s T i).sum ≡ z i
  pub channels : (i : Place) → d i ≡ sent G s T i ++ drop (length G) (c i)

-- order 8, "bit j .. is the exclusive or of its three local ring shares": its two gates leave the shares b, and with any weight add weight × b
pub record JoinsBit (m j : ℕ) (w : Place → ℕ) (T c : Place → List ℕ) (b : Place → ℕ) (d : Place → List ℕ) : Type 0 where
  pub adds : (weight : ℕ) (sum z : Place → ℕ) (s : Place → Summing ℕ)
      → Holds w sum s
      → ((i : Place) → z i ≡ (sum i + weight * b i) % m)
      → Summed (bit_gates word_bit m j weight) s T c z d

-- order 8, `count` bits of w from bit `from` on: gates modulo m leave their sum z
abbrev pub bits_summed : (m from count : ℕ) → (w z : Sharing) → (T c d : Place → List ℕ) → Type 0
bits_summed m from count w z T c d = Summed (compose_gates word_bit m from count) (tabled (λ i. summing_start (parts w i))) T c (parts z) d
