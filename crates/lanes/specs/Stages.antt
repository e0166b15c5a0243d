-- 01, order 5, for 64 figures at once: what a stage leaves, for each of them.
-- Used by the code's contracts alone: no theorem's statement speaks of it.
use Rattle.std.specs.Prelude.{ℕ, ◌+◌, ◌-◌, ◌<◌, ◌≤◌, List, [], ◌∷◌, ◌++◌, ◌≡◌}
use Rattle.ring.specs.Rings.{modulus}
use Rattle.gate.specs.Places.{Place, parts}
use Rattle.gate.specs.declared.sharing.Sharing.{Sharing}
use Rattle.circuit.specs.Circuits.{Gate, upto}
use Rattle.circuit.specs.Decompose.{Digits, carry_gate, raising_gate, running_gate, zero_gate}
use Rattle.circuit.specs.Lent.{Left, Ran}
use Rattle.circuit.specs.Orders.{decomposition}
use Rattle.circuit.specs.Sharings.{four_times, items_at, zeros}
use Rattle.decompose.specs.Turns.{Ended}
use Rattle.decompose.specs.Words.{digits_of}
use Rattle.planes.specs.Planes.{Whole, columns, planes_at, words_xor}
use Rattle.planes.specs.declared.places.Planes.{Planes}
use Rattle.lanes.specs.Lanes.{lanes}

-- figure k's states: with the planes x alone, with n planes of carries, of running carries, and with n' planes of carries of the
-- increment
abbrev pub fresh : (x : Planes) → ℕ → Place → Digits
fresh x k = digits_of (columns 64 x k) zeros zeros zeros

abbrev pub carried : (x q : Planes) → (n k : ℕ) → Place → Digits
carried x q n k = digits_of (columns 64 x k) (columns n q k) zeros zeros

abbrev pub summed : (x q r : Planes) → (n k : ℕ) → Place → Digits
summed x q r n k = digits_of (columns 64 x k) (columns n q k) (columns n r k) zeros

abbrev pub raised : (x q r a : Planes) → (n n' k : ℕ) → Place → Digits
raised x q r a n n' k = digits_of (columns 64 x k) (columns n q k) (columns n r k) (columns n' a k)

-- for each figure k, the gates G took its states from s k to r k
pub record EachRan (G : List (Gate Digits)) (s r : ℕ → Place → Digits) (T c d : Place → List ℕ) : Type 0 where
  pub on : (k : ℕ) → Ran G (s k) (lanes k T) (lanes k c) (r k) (lanes k d)

-- plane j of the total: of x with the planes q of carries and r of running carries
abbrev pub total_planes : ℕ → (x q r : Planes) → Sharing
total_planes j x q r = words_xor (words_xor (planes_at j x) (planes_at j q)) (planes_at j r)

-- the first n planes of s are the total's
pub record Totals (n : ℕ) (x q r s : Planes) : Type 0 where
  pub at : (j : ℕ) → j < n → planes_at j s ≡ total_planes j x q r

-- the n gates of running carries ran, and the total stands in s
pub record Running (n : ℕ) (x q s : Planes) (T c d : Place → List ℕ) : Type 0 where
  pub r : Planes
  pub ran : EachRan (upto (λ i. running_gate (i + 1)) n) (carried x q (n + 2)) (summed x q r (n + 2)) T c d
  pub totals : Totals (n + 2) x q r s

-- stages (i) and (ii) ran, and the total stands in s
pub record SumsRan (l : ℕ) (x s : Planes) (T c d : Place → List ℕ) : Type 0 where
  pub q : Planes
  pub r : Planes
  pub totals : Totals (l + 2) x q r s
  pub ran : EachRan (upto carry_gate (l + 1) ++ upto (λ i. running_gate (i + 1)) l) (fresh x) (summed x q r (l + 2)) T c d

-- the gate for z ran, whose bits are v
pub record Zeroed (n : ℕ) (x q r : Planes) (v : Sharing) (T c d : Place → List ℕ) : Type 0 where
  pub a : Planes
  pub whole : Whole a
  pub first : v ≡ planes_at 0 a
  pub ran : EachRan (zero_gate ∷ []) (summed x q r n) (raised x q r a n 1) T c d

-- whatever total s holds
pub record ZeroRan (s : Planes) (v : Sharing) (T c d : Place → List ℕ) : Type 0 where
  pub on : (n : ℕ) (x q r : Planes) → 1 < n → n ≤ 64 → Totals n x q r s → Zeroed n x q r v T c d

-- n gates of the increment ran from the carry of the planes a₀, and the first n + 1 planes of o are the result's
pub record Raising (n : ℕ) (x q r a₀ o : Planes) (T c d : Place → List ℕ) : Type 0 where
  pub a : Planes
  pub ran : EachRan (upto raising_gate n) (raised x q r a₀ (n + 3) 1) (raised x q r a (n + 3) (n + 1)) T c d
  pub digits : (j : ℕ) → j < n + 1 → planes_at j o ≡ words_xor (total_planes (j + 2) x q r) (planes_at j a)

-- whatever total s holds, and wherever its first carry stands
pub record RaisingRan (n : ℕ) (s : Planes) (first : Sharing) (o : Planes) (T c d : Place → List ℕ) : Type 0 where
  pub on : (x q r a₀ : Planes) → Totals (n + 3) x q r s → Whole a₀ → first ≡ planes_at 0 a₀ → Raising n x q r a₀ o T c d

-- stages (iii) and (iv) ran to each figure's result, from the total in s to the result's planes o
pub record Increments (l : ℕ) (s o : Planes) (T c d : Place → List ℕ) : Type 0 where
  pub on : (x q r : Planes) → Totals (l + 2) x q r s → (k : ℕ)
      → Ended l (zero_gate ∷ upto raising_gate (l - 1)) (summed x q r (l + 2) k) (lanes k T) (lanes k c) (columns 64 o k) (lanes k d)

-- from the planes x of 4 a modulo p to the planes o of the result z, for each figure
pub record Worked (l : ℕ) (x o : Planes) (T c d : Place → List ℕ) : Type 0 where
  pub on : (k e : ℕ) (a z : Sharing) → columns 64 x k ≡ four_times (modulus e) a → columns 64 o k ≡ z
      → Left (decomposition e l) (parts a) (parts a) (lanes k T) (lanes k c) z (lanes k d)

-- for each figure, the order ran on its sub-shares with its bits of the items
pub record Laned (e l : ℕ) (a₀ a₁ a₂ : List ℕ) (m c : Place → List ℕ) (z₀ z₁ z₂ : List ℕ) (d : Place → List ℕ) : Type 0 where
  pub at : (k : ℕ) → k < 64
      → Left (decomposition e l) (parts (items_at k a₀ a₁ a₂)) (parts (items_at k a₀ a₁ a₂))
      (lanes k m) (lanes k c) (items_at k z₀ z₁ z₂) (lanes k d)
