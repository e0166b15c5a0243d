-- A decomposition whose digits are composed later runs as the decomposition alone.
use Prim.Native.Nat.{ℕ, ◌<◌}
use mathlib.Core.List.{List, [], ◌∷◌, ◌++◌, map}
use mathlib.Core.Path.{◌≡◌, ap, refl, ◌∙◌}
use lib.ListN.{length}
use Rattle.gate.specs.Places.{Place}
use Rattle.gate.proofs.PlaceLaw.{tabled-at}
use Rattle.circuit.specs.Circuits.{Gate, after, ends, heads, tails, words}
use Rattle.circuit.specs.Compose.{Summing, compose_gates, summing_start}
use Rattle.circuit.specs.Decompose.{Digits, decompose_gates, digit, digits_start}
use Rattle.circuit.specs.Orders.{within}
use Rattle.circuit.proofs.RunLaw.{Images, drops, ends-append, ends-image, more, none}
use Rattle.value.proofs.ComposeLaw.{Sums, compose_sums}
use Rattle.value.proofs.DecomposeLaw.{digit_lt}

within_images : (G : List (Gate Digits)) → Images (λ i s. s.kept) (map within G) G
within_images [] = none
within_images (g ∷ G) =
    more (record { modulus = refl; left = λ i s. refl; right = λ i s. refl; absorb = λ i s z. refl }) (within_images G)

within_kept : (G : List (Gate Digits)) (s : Place → Summing Digits) (T : Place → List ℕ)
    → (λ i. (ends (map within G) s T i).kept) ≡ ends G (λ i. (s i).kept) T
within_kept G s T = ends-image (λ i s. s.kept) (within_images G) s T

within-sum : (G : List (Gate Digits)) (s : Place → Summing Digits) (T : Place → List ℕ) (i : Place)
    → (ends (map within G) s T i).sum ≡ (s i).sum
unfolding ends after
within-sum [] s T i = refl
within-sum (g ∷ G) s T i =
    let z = words (within g) s (heads T) in
    within-sum G (after (within g) s z) (tails T) i
    ∙ ap (λ r. r.sum) (tabled-at (λ j. (within g).absorb j (s j) (z j)) i)

-- the states at the end of a shifting
pub shift_sums : (l m from n : ℕ) → 0 < m → (x : Place → ℕ) (T : Place → List ℕ)
    → Sums digit m from (ends (decompose_gates l) (λ i. digits_start (x i)) T) n
    (ends (map within (decompose_gates l) ++ compose_gates digit m from n) (λ i. summing_start (digits_start (x i))) T)
shift_sums l m from n positive x T =
    let G = decompose_gates l in
    let s : Place → Summing Digits = λ i. summing_start (digits_start (x i)) in
    let sums = compose_sums digit digit_lt m positive from n (ends (map within G) s T) (drops (length (map within G)) T) (within-sum G s T) in
    rw (ends-append (map within G) (compose_gates digit m from n) s T) (rw (within_kept G s T) at sums)
