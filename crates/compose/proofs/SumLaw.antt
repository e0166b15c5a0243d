-- Order 8: each bit's two gates follow the last one's.
use Prim.Native.Nat.{ℕ, zero, suc, ◌+◌, ◌*◌, ◌%◌, ◌^◌}
use mathlib.Core.List.{List, ◌++◌}
use mathlib.Core.Path.{◌≡◌, ap, refl, ◌∙◌}
use native.Mathlib.Numerals.{add-one}
use native.Mathlib.Omega.{arith}
use lib.ListN.{length, length-append, take}
use Rattle.ring.specs.Rings.{modulus}
use Rattle.gate.specs.Places.{Place, p0, p1, p2, parts, tabled, three}
use Rattle.gate.specs.declared.sharing.Sharing.{Sharing}
use Rattle.gate.proofs.PlaceLaw.{each}
use Rattle.circuit.specs.Circuits.{Gate, after, ends, sent}
use Rattle.circuit.specs.Compose.{Summing, compose_gates, first_gate, second_gate, summing_start}
use Rattle.circuit.specs.Lent.{Left, Ran}
use Rattle.circuit.specs.Orders.{composition, word_bit}
use Rattle.circuit.proofs.LentLaw.{left_of}
use Rattle.circuit.proofs.LoanLaw.{ran_then}
use Rattle.circuit.proofs.RunLaw.{drops, ends-append}
use Rattle.compose.specs.Sums.{Holds, Summed, bit_gates, bits_summed}

module _ {K : Type 0} (read : Place → K → ℕ → ℕ) (m from : ℕ) where
  pub length_compose : (k : ℕ) → length (compose_gates read m from k) ≡ 2 * k
  unfolding compose_gates
  length_compose zero = refl
  length_compose (suc k) = length-append (compose_gates read m from k) (bit_gates read m (from + k) (2 ^ k % m)) ∙ omega (arith, length_compose k)

  -- what the bits are read from stays
  bit_keeps : (j weight : ℕ) (s : Place → Summing K) (T : Place → List ℕ) (i : Place) → (ends (bit_gates read m j weight) s T i).kept ≡ (s i).kept
  unfolding ends after first_gate second_gate
  bit_keeps j weight s T = each (λ i. (ends (bit_gates read m j weight) s T i).kept ≡ (s i).kept) refl refl refl

  pub compose_keeps : (k : ℕ) (s : Place → Summing K) (T : Place → List ℕ) (i : Place) → (ends (compose_gates read m from k) s T i).kept ≡ (s i).kept
  unfolding compose_gates ends
  compose_keeps zero s T i = refl
  compose_keeps (suc k) s T i =
      let G = compose_gates read m from k in
      ap (λ r. (r i).kept) (ends-append G (bit_gates read m (from + k) (2 ^ k % m)) s T)
      ∙ bit_keeps (from + k) (2 ^ k % m) (ends G s T) (drops (length G) T) i
      ∙ compose_keeps k s T i

module _ {K : Type 0} where
  pub ran-summed : {G : List (Gate (Summing K))} {s r : Place → Summing K} {T c d : Place → List ℕ} {z : Place → ℕ}
      → Ran G s T c r d → ((i : Place) → (r i).sum ≡ z i) → Summed G s T c z d
  ran-summed ran h = record { sums = λ i. ap (λ r. (r i).sum) ran.states ∙ h i; channels = ran.channels }

  summed_then : {G H : List (Gate (Summing K))} {s : Place → Summing K} {T c d e : Place → List ℕ} {z z' : Place → ℕ} {n : ℕ}
      → length G ≡ n
      → Summed G s T c z d
      → Summed H (ends G s T) (drops n T) (drops n d) z' (drops n e)
      → ((i : Place) → take n (e i) ≡ take n (d i))
      → Summed (G ++ H) s T c z' e
  summed_then counted a b kept =
      ran-summed (ran_then counted (record { states = refl; channels = a.channels }) (record { states = refl; channels = b.channels }) kept) b.sums

-- no bit yet
pub none_summed : (m from : ℕ) (w : Sharing) (T c : Place → List ℕ)
    → Summed (compose_gates word_bit m from 0) (tabled (λ i. summing_start (parts w i))) T c (three 0 0 0) c
unfolding compose_gates ends sent
none_summed m from w T c =
    record { sums = each (λ i. (tabled (λ j. summing_start (parts w j)) i).sum ≡ three 0 0 0 i) refl refl refl; channels = λ i. refl }

-- one bit more
pub more_summed : (m from k weight : ℕ) {w : Sharing} {z z' : Place → ℕ} {T c d e : Place → List ℕ}
    → weight ≡ 2 ^ k % m
    → Summed (compose_gates word_bit m from k) (tabled (λ i. summing_start (parts w i))) T c z d
    → ((s : Place → Summing ℕ) → Holds (parts w) z s → Summed (bit_gates word_bit m (from + k) weight) s (drops (2 * k) T) (drops (2 * k) d) z' (drops (2 * k) e))
    → ((i : Place) → take (2 * k) (e i) ≡ take (2 * k) (d i))
    → Summed (compose_gates word_bit m from (k + 1)) (tabled (λ i. summing_start (parts w i))) T c z' e
unfolding compose_gates
more_summed m from k weight {w} {z} {z'} {T} {c} {d} {e} weighs a b kept =
    let start = tabled (λ i. summing_start (parts w i)) in
    let now : Place → Summing ℕ = ends (compose_gates word_bit m from k) start T in
    let holds : Holds (parts w) z now
    = record {
      kept = λ i. compose_keeps word_bit m from k start T i ∙ each (λ j. (start j).kept ≡ parts w j) refl refl refl i;
      sum = a.sums;
    } in
    rw add-one (summed_then (length_compose word_bit m from k) a (rw weighs at (b now holds)) kept)

-- all bits are order 8
pub composed : (f l : ℕ) {w z : Sharing} {T c d : Place → List ℕ}
    → bits_summed (modulus f) 0 l w z T c d
    → Left (composition f l) (parts w) (parts w) T c z d
unfolding composition
composed f l h = left_of {C = composition f l} (record { states = refl; channels = h.channels }) (rw (h.sums p0, h.sums p1, h.sums p2))
