-- 02, P13, "Sixty-four at a time": the call, for every width e, every l and whatever the twelve runs hold: by place the sub-shares a,
-- the mask tapes T, the channels c and the results z as they were.
use Rattle.std.specs.Prelude.{ℕ, ◌-◌, Bool, cond, not, ◌&&◌, ◌||◌, List, [], ◌∷◌, ◌++◌, eqb, leb, drop, length, replicate}
use Rattle.ring.specs.Rings.{modulus, ring_of}
use Rattle.gate.specs.Places.{Place, p0, p1, p2, tabled}
use Rattle.circuit.specs.Circuits.{gates_of}
use Rattle.circuit.specs.Orders.{decomposition}
use Rattle.machine.specs.Checks.{Check, Lengths, any_bad, check, first_met, gate_checks, no_ring}
use Rattle.machine.specs.Registers.{Public}
use Rattle.lanes.specs.Lanes.{count, results, words_sent}

-- "one of the .. runs isn't 64 long", of three runs
abbrev pub not_count : (Place → ℕ) → Bool
not_count n = not (eqb (n p0) count && (eqb (n p1) count && eqb (n p2) count))

-- "It has strands and wires of its own, used from their start": positions 0, which is all that `gate_checks` looks at
abbrev pub from_start : Public
from_start = record { kinds = []; masks_at = 0; channels_at = 0; dealer_at = 0 }

abbrev pub lengths : (Place → List ℕ) → Place → ℕ
lengths a = tabled (λ i. length (a i))

abbrev pub lengths_of : (T c : Place → List ℕ) → Lengths
lengths_of T c = record { masks = lengths T; dealer = 0; channels = lengths c }

-- "7 for l, then sub-shares in range by 10, then 8, 9 and 11"
abbrev pub figure_checks : (e l : ℕ) → (a : Place → List ℕ) → Lengths → List Check
figure_checks e l a len =
    check (not (leb 1 l && leb l (e - 2))) 7
    ∷ check (any_bad (replicate count (modulus e)) a) 10
    ∷ gate_checks (gates_of (decomposition e l)) from_start len

-- "It checks 5 (13 too), .. 23 when one of the six runs isn't 64 long, before all of these"
unfoldable pub checks : (e l : ℕ) → (a T c z : Place → List ℕ) → List Check
checks e l a T c z =
    check (not_count (lengths a) || not_count (lengths z)) 23
    ∷ check (no_ring (ring_of e) || eqb e 13) 5
    ∷ figure_checks e l a (lengths_of T c)

-- what a call leaves: refusal number or 0, value opened (none: 0), gates spent, channels, results
pub record Outcome : Type 0 where
  pub refusal : ℕ
  pub value : ℕ
  pub gates : ℕ
  pub channels : Place → List ℕ
  pub results : Place → List ℕ

abbrev pub outcome : (refusal gates : ℕ) → (c z : Place → List ℕ) → Outcome
outcome refusal gates c z = record { refusal = refusal; value = 0; gates = gates; channels = c; results = z }

-- accepted: the words from the channels' start on, all else there stays, and the results
abbrev pub performed : (e l : ℕ) → (a T c : Place → List ℕ) → Outcome
performed e l a T c =
    let C = decomposition e l in
    outcome 0 (gates_of C) (tabled (λ i. words_sent C a T i ++ drop (gates_of C) (c i))) (tabled (results C a T))

-- "a refusal leaves them and the wires unchanged"
abbrev pub settled : (refusal e l : ℕ) → (a T c z : Place → List ℕ) → Outcome
settled refusal e l a T c z = cond (eqb refusal 0) (performed e l a T c) (outcome refusal 0 c z)

unfoldable pub batch : (e l : ℕ) → (a T c z : Place → List ℕ) → Outcome
batch e l a T c z = settled (first_met (checks e l a T c z)) e l a T c z
