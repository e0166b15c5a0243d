-- The gates of a composition add up shared bits in the ring, whatever the bits are read from.
use Prim.Native.Nat.{ℕ, zero, suc, ◌+◌, ◌*◌, ◌%◌, ◌<◌, ◌^◌}
use mathlib.Core.List.{List, [], ◌∷◌}
use mathlib.Core.Path.{◌≡◌, ap, refl, sym, ◌∙◌}
use native.Mathlib.Nat.{mod-add-mod, mod-lt}
use native.Mathlib.Omega.{arith}
use lib.Dec.{lit<}
use lib.ListN.{length}
use Rattle.ring.specs.Modular.{Cong}
use Rattle.ring.proofs.CongLaw.{cong_add, cong_cancel, cong_mod, cong_mul, cong_of_eq, cong_refl, cong_sym, cong_trans}
use Rattle.gate.specs.Places.{Below, Place, p0, p1, p2, total}
use Rattle.circuit.specs.Bits.{gather, xor}
use Rattle.circuit.specs.Circuits.{ends, heads, tails, words}
use Rattle.circuit.specs.Compose.{Summing, compose_gates, first_gate, joined, local, second_gate}
use Rattle.circuit.proofs.RunLaw.{drops, ends-append, step}
use Rattle.value.specs.Values.{summed}
use Rattle.value.proofs.AdderLaw.{xor_joins}
use Rattle.value.proofs.GateLaw.{step_is, words_cong}
use Rattle.value.proofs.SumLaw.{summed-alone, summed_cong, summed-diff}

-- the exclusive or of two bits, from ring shares of them and of their product
joined_cong : (m : ℕ) → 0 < m → (u v z : Place → ℕ) {a b : ℕ} → a < 2 → b < 2
    → Cong m (summed u) a → Cong m (summed v) b → Cong m (summed z) (summed u * summed v)
    → Cong m (summed (λ i. joined m (u i) (v i) (z i))) (xor a b)
joined_cong m h u v z {a} {b} ha hb is-a is_b product =
    let d : Place → ℕ = λ i. joined m (u i) (v i) (z i) in
    let twice : summed (λ i. 2 * z i) ≡ 2 * summed z = omega arith in
    let apart : summed (λ i. u i + v i) ≡ summed u + summed v = omega arith in
    let doubled : Cong m (2 * (a * b)) (summed (λ i. 2 * z i))
    = cong_sym (cong_trans (cong_of_eq twice) (cong_mul (cong_refl 2) (cong_trans product (cong_mul is-a is_b)))) in
    let bits : Cong m (summed (λ i. u i + v i)) (xor a b + 2 * (a * b))
    = cong_trans (cong_of_eq apart) (cong_trans (cong_add is-a is_b) (cong_of_eq (sym (xor_joins ha hb)))) in
    cong_cancel (2 * (a * b)) h
    (cong_trans (cong_add (cong_refl (summed d)) doubled) (cong_trans (summed-diff m h (λ i. u i + v i) (λ i. 2 * z i)) bits))

module _ {K : Type 0} (read : Place → K → ℕ → ℕ) (m from : ℕ) where
  -- what the two gates of each bit keep, whatever their items, the list keeps
  compose_keeps : (P : ℕ → (Place → Summing K) → Type 0)
      → ((k : ℕ) (s : Place → Summing K) (t u : Place → ℕ) → P k s
      → P (suc k) (step (second_gate read m (from + k) (2 ^ k % m)) (step (first_gate read m (from + k)) s t) u))
      → (n : ℕ) (s : Place → Summing K) (T : Place → List ℕ) → P 0 s → P n (ends (compose_gates read m from n) s T)
  unfolding compose_gates ends step
  compose_keeps P keep zero s T base = base
  compose_keeps P keep (suc n) s T base =
      let T' = drops (length (compose_gates read m from n)) T in
      let first = first_gate read m (from + n) in
      let second = second_gate read m (from + n) (2 ^ n % m) in
      rw (ends-append (compose_gates read m from n) (first ∷ second ∷ []) s T)
      (keep n (ends (compose_gates read m from n) s T) (heads T') (heads (tails T')) (compose_keeps P keep n s T base))

-- the bit that is shared at j, where kept is what the places read from
abbrev pub opened_bit : {K : Type 0} → (Place → K → ℕ → ℕ) → (Place → K) → ℕ → ℕ
opened_bit read kept j = total 2 (λ i. read i (kept i) j)

-- the states keep what they read from, and share in the ring the word of k bits
pub record Sums {K : Type 0} (read : Place → K → ℕ → ℕ) (m from : ℕ) (kept : Place → K) (k : ℕ) (s : Place → Summing K) : Type 0
  where
    pub same : (i : Place) → (s i).kept ≡ kept i
    pub sums : Cong m (summed (λ i. (s i).sum)) (gather k (λ j. opened_bit read kept (from + j)))
    pub below : Below m (λ i. (s i).sum)

module _ {K : Type 0} (read : Place → K → ℕ → ℕ) (bits : (i : Place) (k : K) (j : ℕ) → read i k j < 2) (m : ℕ) (positive : 0 < m) where
  module _ (kept : Place → K) (j : ℕ) (s : Place → Summing K) (t : Place → ℕ) (same : (i : Place) → (s i).kept ≡ kept i) where
    local_cong : (k : Place) → Cong m (summed (λ i. local read k j i (s i))) (read k (kept k) j)
    local_cong k = cong_of_eq (summed-alone k (λ i. read i (s i).kept j) ∙ ap (λ n. read k n j) (same k))

    -- "sub-share 0 with 1, then with 2"
    first_cong : Cong m
        (summed (λ i. joined m (local read p0 j i (s i)) (local read p1 j i (s i)) (words (first_gate read m j) s t i)))
        (xor (read p0 (kept p0) j) (read p1 (kept p1) j))
    unfolding first_gate
    first_cong =
        joined_cong m positive (λ i. local read p0 j i (s i)) (λ i. local read p1 j i (s i)) (words (first_gate read m j) s t)
        (bits p0 (kept p0) j) (bits p1 (kept p1) j) (local_cong p0) (local_cong p1) (words_cong (first_gate read m j) positive s t)

    second_cong : (weight : ℕ) {a : ℕ} → a < 2 → Cong m (summed (λ i. (s i).half)) a
        → Cong m
        (summed (λ i. joined m (s i).half (local read p2 j i (s i)) (words (second_gate read m j weight) s t i)))
        (xor a (read p2 (kept p2) j))
    unfolding second_gate
    second_cong weight ha half =
        joined_cong m positive (λ i. (s i).half) (λ i. local read p2 j i (s i)) (words (second_gate read m j weight) s t)
        ha (bits p2 (kept p2) j) half (local_cong p2) (words_cong (second_gate read m j weight) positive s t)

  -- one bit more, with its weight
  weighted : (k b : ℕ) (sum d : Place → ℕ) {g : ℕ} → Cong m (summed sum) g → Cong m (summed d) b
      → Cong m (summed (λ i. (sum i + 2 ^ k % m * d i) % m)) (g + b * 2 ^ k)
  weighted k b sum d {g} hs hd =
      let regroup : summed (λ i. sum i + 2 ^ k % m * d i) ≡ summed sum + summed d * (2 ^ k % m) = omega arith in
      cong_trans (summed_cong (λ i. cong_mod m (sum i + 2 ^ k % m * d i)))
      (cong_trans (cong_of_eq regroup) (cong_add hs (cong_mul hd (cong_mod m (2 ^ k)))))

  bit_more : (from : ℕ) (kept : Place → K) (k : ℕ) (s : Place → Summing K) (t u : Place → ℕ) → Sums read m from kept k s
      → Sums read m from kept (suc k) (step (second_gate read m (from + k) (2 ^ k % m)) (step (first_gate read m (from + k)) s t) u)
  unfolding first_gate second_gate gather total
  bit_more from kept k s t u h =
      let j = from + k in
      let first = first_gate read m j in
      let second = second_gate read m j (2 ^ k % m) in
      let s₁ : Place → Summing K = λ i. first.absorb i (s i) (words first s t i) in
      let b : (i : Place) → ℕ = λ i. read i (kept i) j in
      let opened = second_cong kept j s₁ u h.same (2 ^ k % m) (mod-lt (b p0 + b p1) (lit< tt)) (first_cong kept j s t h.same) in
      let d : Place → ℕ = λ i. joined m (s₁ i).half (local read p2 j i (s₁ i)) (words second s₁ u i) in
      let bit : Cong m (summed d) (opened_bit read kept j) = cong_trans opened (cong_of_eq (mod-add-mod (b p0 + b p1) 2 (b p2))) in
      rw (step_is first s t, step_is second s₁ u)
      (record {
        same = h.same;
        sums = weighted k (opened_bit read kept j) (λ i. (s i).sum) d h.sums bit;
        below = λ i. mod-lt _ positive;
      })

  -- the whole list, from a sum of 0
  pub compose_sums : (from n : ℕ) (s : Place → Summing K) (T : Place → List ℕ) → ((i : Place) → (s i).sum ≡ 0)
      → Sums read m from (λ i. (s i).kept) n (ends (compose_gates read m from n) s T)
  unfolding gather
  compose_sums from n s T none =
      compose_keeps read m from (Sums read m from (λ i. (s i).kept)) (bit_more from (λ i. (s i).kept)) n s T
      (record {
        same = λ i. refl;
        sums = cong_of_eq (omega (arith, none p0, none p1, none p2));
        below = λ i. rw (none i) positive;
      })
