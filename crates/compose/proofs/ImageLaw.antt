-- Bits that are read from whatever a place keeps are composed as the bits of a word that has them.
use Prim.Native.Nat.{ℕ, zero, suc, ◌+◌, ◌*◌, ◌%◌, ◌<◌, ◌^◌}
use mathlib.Core.List.{List, ◌++◌}
use mathlib.Core.Path.{◌≡◌, ap, refl, sym, ◌∙◌}
use native.Mathlib.Omega.{arith}
use lib.ListN.{drop, length}
use Rattle.ring.specs.Rings.{bit_of}
use Rattle.gate.specs.Places.{Place, p0, p1, p2}
use Rattle.circuit.specs.Bits.{alone}
use Rattle.circuit.specs.Circuits.{sent}
use Rattle.circuit.specs.Compose.{Summing, compose_gates, first_gate, joined, second_gate}
use Rattle.circuit.specs.Orders.{word_bit}
use Rattle.circuit.proofs.RunLaw.{Image, Images, ends-image, images_append, mapped, sent-image}
use Rattle.compose.specs.Sums.{Summed}
use Rattle.compose.proofs.SumLaw.{length_compose}

-- the same state with its bits in a word
abbrev pub worded : {K : Type 0} → (Place → K → ℕ) → Place → Summing K → Summing ℕ
worded word i s = record { kept = word i s.kept; half = s.half; sum = s.sum }

module _ {K : Type 0} (read : Place → K → ℕ → ℕ) (word : Place → K → ℕ) (m : ℕ) where
  module _ (j : ℕ) (same : (i : Place) (k : K) → read i k j ≡ bit_of (word i k) j) where
    first-image : Image (worded word) (first_gate read m j) (first_gate word_bit m j)
    unfolding first_gate
    first-image =
        record {
          modulus = refl;
          left = λ i s. ap (alone p0 i) (same i s.kept);
          right = λ i s. ap (alone p1 i) (same i s.kept);
          absorb = λ i s z. ap (λ (b : ℕ). record { kept = word i s.kept; half = joined m (alone p0 i b) (alone p1 i b) z; sum = s.sum }) (same i s.kept);
        }

    second-image : (weight : ℕ) → Image (worded word) (second_gate read m j weight) (second_gate word_bit m j weight)
    unfolding second_gate
    second-image weight =
        record {
          modulus = refl;
          left = λ i s. refl;
          right = λ i s. ap (alone p2 i) (same i s.kept);
          absorb = λ i s z. ap (λ (b : ℕ). record { kept = word i s.kept; half = s.half; sum = (s.sum + weight * joined m s.half (alone p2 i b) z) % m }) (same i s.kept);
        }

  compose_images : (from count : ℕ) → ((i : Place) (k : K) (j : ℕ) → j < count → read i k (from + j) ≡ bit_of (word i k) (from + j))
      → Images (worded word) (compose_gates read m from count) (compose_gates word_bit m from count)
  unfolding compose_gates
  compose_images from zero same = Images.none
  compose_images from (suc k) same =
      let here : (i : Place) (q : K) → read i q (from + k) ≡ bit_of (word i q) (from + k) = λ i q. same i q k (omega arith) in
      images_append (worded word) (compose_images from k (λ i q j h. same i q j (omega arith)))
      (Images.more (first-image (from + k) here) (Images.more (second-image (from + k) here (2 ^ k % m)) Images.none))

  -- what the word's gates leave, the others leave
  pub summed_as : (from count : ℕ) {s : Place → Summing K} {T c d : Place → List ℕ} {z : Place → ℕ}
      → ((i : Place) (k : K) (j : ℕ) → j < count → read i k (from + j) ≡ bit_of (word i k) (from + j))
      → Summed (compose_gates word_bit m from count) (mapped (worded word) s) T c z d
      → Summed (compose_gates read m from count) s T c z d
  summed_as from count {s} {T} {c} {d} {z} same h =
      let images = compose_images from count same in
      let long : length (compose_gates word_bit m from count) ≡ length (compose_gates read m from count)
      = length_compose word_bit m from count ∙ sym (length_compose read m from count) in
      record {
        sums = λ i. ap (λ r. (r i).sum) (ends-image (worded word) images s T) ∙ h.sums i;
        channels = λ i.
            h.channels i
            ∙ ap (λ (n : ℕ). sent (compose_gates word_bit m from count) (mapped (worded word) s) T i ++ drop n (c i)) long
            ∙ ap (λ (l : List ℕ). l ++ drop (length (compose_gates read m from count)) (c i)) (sym (sent-image (worded word) images s T i));
      }
