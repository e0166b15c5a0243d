-- Order 7: a decomposition's bits, composed from bit s on, are the circuit's.
use Prim.Native.Nat.{ℕ, ◌+◌, ◌*◌, ◌-◌, ◌/◌, ◌%◌, ◌<◌, ◌≤◌, ◌^◌}
use mathlib.Core.List.{List, [], ◌∷◌, map, ◌++◌}
use mathlib.Core.Path.{◌≡◌, ap, ap₂, fun_ext, refl, subst, sym, ◌∙◌}
use native.Mathlib.Nat.{add-mul-div_left, add-mul-mod_self_left, mod-eq_of_lt, add-zero}
use native.Mathlib.Omega.{arith}
use lib.ListN.{drop, length, length-map, take}
use lib.Pow.{pow-add, pow_pos}
use Rattle.ring.specs.Rings.{bit_of, modulus}
use Rattle.gate.specs.Places.{Place, parts, tabled}
use Rattle.gate.specs.declared.sharing.Sharing.{Sharing}
use Rattle.gate.proofs.PlaceLaw.{each, tabled-at, tabled_is}
use Rattle.circuit.specs.Bits.{gather}
use Rattle.circuit.specs.Circuits.{Circuit, Gate, channelled, ends, result, starts}
use Rattle.circuit.specs.Compose.{Summing, compose_gates, summing_start}
use Rattle.circuit.specs.Decompose.{Digits, decompose_gates, digit, digits_start}
use Rattle.circuit.specs.Lent.{Left, Ran}
use Rattle.circuit.specs.Orders.{decomposition, shifting, within}
use Rattle.circuit.proofs.BitsLaw.{gather_high, gather_split}
use Rattle.circuit.proofs.LentLaw.{left_of}
use Rattle.circuit.proofs.LoanLaw.{ran_then}
use Rattle.circuit.proofs.RunLaw.{Images, drops, ends-image, more, none, sent-image}
use Rattle.value.proofs.Counts.{decompose_count}
use Rattle.value.proofs.DecomposeLaw.{digit_lt}
use Rattle.compose.specs.Sums.{Summed, bits_summed}
use Rattle.compose.proofs.ImageLaw.{summed_as, worded}

-- bit j of a word that is made of bits
gather_bit : (n : ℕ) (b : ℕ → ℕ) → ((j : ℕ) → b j < 2) → (j : ℕ) → j < n → bit_of (gather n b) j ≡ b j
unfolding bit_of gather
gather_bit n b bits j h =
    let k = n - (j + 1) in
    let apart : n ≡ j + 1 + k = omega arith in
    let rest = gather k (λ i. b (j + 1 + i)) in
    let next : 2 ^ (j + 1) * rest ≡ 2 ^ j * (2 * rest) = omega (arith, ap (λ (p : ℕ). p * rest) (pow-add 2 j 1)) in
    let low : gather (j + 1) b / 2 ^ j ≡ b j
    = sym (gather_high j 1 b bits) ∙ ap (λ (i : ℕ). 0 + b i * 2 ^ 0) (add-zero j) ∙ omega arith in
    ap (λ (m : ℕ). gather m b / 2 ^ j % 2) apart
    ∙ ap (λ (w : ℕ). w / 2 ^ j % 2) (gather_split (j + 1) k b ∙ ap (λ (r : ℕ). gather (j + 1) b + r) next)
    ∙ ap (λ (q : ℕ). q % 2) (add-mul-div_left (gather (j + 1) b) (2 * rest) (pow_pos j))
    ∙ add-mul-mod_self_left (gather (j + 1) b / 2 ^ j) 2 rest
    ∙ ap (λ (q : ℕ). q % 2) low
    ∙ mod-eq_of_lt (bits j)

-- gates on digits alone, and the same beside a sum that starts at 0
beside : (G : List (Gate Digits)) → Images (λ i k. summing_start k) G (map within G)
beside [] = none
beside (g ∷ G) =
    more (record { modulus = refl; left = λ i s. refl; right = λ i s. refl; absorb = λ i s z. refl }) (beside G)

-- the circuit, of l digits
abbrev cut : ℕ → ℕ → ℕ → Circuit
cut e s l =
    record {
      State = Summing Digits;
      start = λ a y. summing_start (digits_start (4 * a % modulus e));
      gates = map within (decompose_gates l) ++ compose_gates digit (modulus e) s (l - s);
      finish = λ i s. s.sum;
    }

module _ (e s l : ℕ) (some : 1 ≤ l) {a w z : Sharing} {T c d : Place → List ℕ} (h : Place → List ℕ)
    (first : Left (decomposition e l) (parts a) (parts a) T c w d)
    (second : bits_summed (modulus e) s (l - s) w z (drops (3 * l + 1) T) (drops (3 * l + 1) d) (drops (3 * l + 1) h))
    (kept : (i : Place) → take (3 * l + 1) (h i) ≡ take (3 * l + 1) (d i)) where
  abbrev begun : Place → Digits
  begun = tabled (λ i. digits_start (4 * parts a i % modulus e))

  abbrev middle : Place → Summing Digits
  middle i = summing_start (ends (decompose_gates l) begun T i)

  abbrev bit_word : Place → Digits → ℕ
  bit_word i k = gather l (digit i k)

  digits_ran : Ran (map within (decompose_gates l)) (λ i. summing_start (begun i)) T c middle d
  unfolding decomposition channelled
  digits_ran =
      let G = decompose_gates l in
      let f : Place → Digits → Summing Digits = λ i k. summing_start k in
      record {
        states = sym (ends-image f (beside G) begun T);
        channels = λ i.
            first.channels i
            ∙ ap₂ (λ (ws : List ℕ) (n : ℕ). ws ++ drop n (c i)) (sent-image f (beside G) begun T i) (sym (length-map G within));
      }

  composed : Summed (compose_gates digit (modulus e) s (l - s)) middle (drops (3 * l + 1) T) (drops (3 * l + 1) d) (parts z) (drops (3 * l + 1) h)
  unfolding decomposition result
  composed =
      let same : (i : Place) → parts w i ≡ bit_word i (ends (decompose_gates l) begun T i)
      = λ i. ap (λ (q : Place → ℕ). q i) first.is ∙ tabled-at (λ j. bit_word j (ends (decompose_gates l) begun T j)) i in
      let started : tabled (λ i. summing_start (parts w i)) ≡ (λ i. worded bit_word i (middle i))
      = tabled_is (λ i. summing_start (parts w i)) ∙ fun_ext (λ i. ap summing_start (same i)) in
      summed_as digit bit_word (modulus e) s (l - s)
      (λ i k j h. sym (gather_bit l (digit i k) (digit_lt i k) (s + j) (omega arith)))
      (rw started at second)

  cut_left : Left (cut e s l) (parts a) (parts a) T c z h
  unfolding decomposition
  cut_left =
      let H = compose_gates digit (modulus e) s (l - s) in
      let U : Place → List ℕ = drops (3 * l + 1) T in
      let counted : length (map within (decompose_gates l)) ≡ 3 * l + 1 = length-map (decompose_gates l) within ∙ decompose_count e l some in
      let ran = ran_then {r' = ends H middle U} counted digits_ran (record { states = refl; channels = composed.channels }) kept in
      let start : (λ i. summing_start (begun i)) ≡ starts (cut e s l) (parts a) (parts a)
      = fun_ext (each (λ i. summing_start (begun i) ≡ starts (cut e s l) (parts a) (parts a) i) refl refl refl) in
      let sums : parts z ≡ tabled (λ i. (ends H middle U i).sum)
      = sym (tabled_is (λ i. (ends H middle U i).sum) ∙ fun_ext composed.sums) in
      left_of {C = cut e s l} (rw start at ran) sums

-- l is e - 2
pub shifted : (e s l : ℕ) → 1 ≤ l → l ≡ e - 2 → {a w z : Sharing} {T c d h : Place → List ℕ}
    → Left (decomposition e l) (parts a) (parts a) T c w d
    → bits_summed (modulus e) s (l - s) w z (drops (3 * l + 1) T) (drops (3 * l + 1) d) (drops (3 * l + 1) h)
    → ((i : Place) → take (3 * l + 1) (h i) ≡ take (3 * l + 1) (d i))
    → Left (shifting e s) (parts a) (parts a) T c z h
unfolding shifting
shifted e s l some all {a} {w} {z} {T} {c} {d} {h} first second kept =
    subst (λ (n : ℕ). Left (cut e s n) (parts a) (parts a) T c z h) all (cut_left e s l some h first second kept)
