-- Order 6: the carry's gate, the word of q, and the whole circuit.
use Prim.Native.Nat.{ℕ, zero, suc, ◌+◌, ◌*◌, ◌%◌, ◌<◌}
use mathlib.Core.List.{List}
use mathlib.Core.Path.{◌≡◌, ap, fun_ext, refl, sym, ◌∙◌}
use native.Mathlib.Omega.{arith}
use lib.Bits.{bit_xor}
use lib.ListN.{length, set, take}
use Rattle.ring.specs.Modular.{diff}
use Rattle.ring.specs.Rings.{bit_of, modulus, quarter}
use Rattle.ring.proofs.BitLaw.{xor_bit}
use Rattle.gate.specs.Gates.{gated}
use Rattle.gate.specs.Places.{InRange, Place, Sent, p0, p1, p2, parts, sharing, tabled, three}
use Rattle.gate.specs.declared.sharing.Sharing.{Sharing}
use Rattle.gate.proofs.PlaceLaw.{each, parts-sharing}
use Rattle.circuit.specs.Bits.{xor}
use Rattle.circuit.specs.Circuits.{after, ends, heads, starts, words}
use Rattle.circuit.specs.Compose.{Summing, compose_gates, summing_start}
use Rattle.circuit.specs.Lent.{Left}
use Rattle.circuit.specs.Orders.{Quotient, conversion, quotient_bit, quotient_gate, quotient_start}
use Rattle.circuit.specs.Sharings.{four_times}
use Rattle.circuit.proofs.LentLaw.{left_of, ran-gate}
use Rattle.circuit.proofs.LoanLaw.{ran_then}
use Rattle.circuit.proofs.RunLaw.{drops}
use Rattle.circuit.proofs.TurnLaw.{stored}
use Rattle.compose.specs.Quotients.{Carries, Quoted, carried, carry_words, low, quotient_with}
use Rattle.compose.specs.Sums.{bits_summed}
use Rattle.compose.proofs.ImageLaw.{summed_as, worded}
use Rattle.compose.proofs.SumLaw.{compose_keeps}

-- a bit added to nothing
alone-left : {b : ℕ} → b < 2 → xor b 0 ≡ b
alone-left h = omega arith

alone_right : {b : ℕ} → b < 2 → xor 0 b ≡ b
alone_right h = omega arith

-- the gate on bits 0 as the code has them
pub carries_of : {r z : Sharing} {b₀ b₁ b₂ k₂ : ℕ} {T c d : Place → List ℕ}
    → b₀ ≡ bit_of r.s0 0 → b₁ ≡ bit_of r.s1 0 → b₂ ≡ bit_of r.s2 0
    → b₀ < 2 → b₁ < 2 → b₂ < 2
    → z ≡ sharing (gated 2 (three b₀ 0 b₂) (three 0 b₁ b₂) (heads T))
    → InRange 2 z
    → Sent z (c p0) (c p1) (c p2) (d p0) (d p1) (d p2)
    → k₂ ≡ bit_xor b₂ z.s2
    → Carries (parts r) T c (record { s0 = z.s0; s1 = z.s1; s2 = k₂ }) d
unfolding carry_words
carries_of {r} {z} {b₀} {b₁} {b₂} {k₂} {T} {c} {d} e₀ e₁ e₂ h₀ h₁ h₂ is range out last =
    let sent : carry_words (parts r) (heads T) ≡ parts z
    = rw (← e₀, ← e₁, ← e₂, alone-left h₀, alone-left h₁, alone_right h₂)
    (sym (ap parts is ∙ parts-sharing (gated 2 (three b₀ 0 b₂) (three 0 b₁ b₂) (heads T)))) in
    let word : (i : Place) → carry_words (parts r) (heads T) i ≡ parts z i = λ i. ap (λ (w : Place → ℕ). w i) sent in
    let k : Sharing = record { s0 = z.s0; s1 = z.s1; s2 = k₂ } in
    record {
      is = each (λ i. parts k i ≡ xor (low p2 (parts r) i) (carry_words (parts r) (heads T) i))
          (sym (ap (xor 0) (word p0) ∙ alone_right range.zero))
          (sym (ap (xor 0) (word p1) ∙ alone_right range.one))
          (rw (last, xor_bit h₂ range.two, word p2, e₂));
      stored = λ i. stored (parts z) c d refl out i ∙ ap (set (c i) 0) (sym (word i));
    }

-- the r_i, and the states of the first gate
abbrev pub negatives : Sharing → Place → ℕ
negatives x = three (diff 4 0 x.s0) (diff 4 0 x.s1) (diff 4 0 x.s2)

abbrev started : Sharing → Place → Summing Quotient
started x = tabled (λ i. summing_start (quotient_start (parts x i)))

first-words : (x : Sharing) (t : Place → ℕ) → words quotient_gate (started x) t ≡ carry_words (negatives x) t
unfolding words quotient_gate carry_words
first-words x t = refl

first_states : (x : Sharing) (k z : Place → ℕ) → ((i : Place) → k i ≡ xor (low p2 (negatives x) i) (z i))
    → after quotient_gate (started x) z ≡ tabled (λ i. summing_start (carried (parts x i) (k i)))
unfolding after quotient_gate
first_states x k z is = rw (is p0, is p1, is p2)

-- from the carry, the two bits of q
pub quoted : {x r k q : Sharing} {T c d : Place → List ℕ}
    → ((i : Place) → 0 < length (c i))
    → r ≡ sharing (negatives x)
    → Carries (parts r) T c k d
    → ((i : Place) → parts q i ≡ quotient_with (parts r i) (parts k i))
    → Quoted (parts x) T c q d
quoted {x} {r} {k} {q} {T} {c} {d} room e found is =
    let h : Carries (negatives x) T c k d = rw (ap parts e ∙ parts-sharing (negatives x)) at found in
    let z : Place → ℕ = carry_words (negatives x) (heads T) in
    record {
      carry = parts k;
      ran = rw (first_states x (parts k) z h.is) at (ran-gate quotient_gate (started x) T c z (first-words x (heads T)) room h.stored);
      is = each (λ i. parts q i ≡ quotient_with (diff 4 0 (parts x i)) (parts k i)) (rw e at (is p0)) (rw e at (is p1)) (rw e at (is p2));
    }

-- the word has the two bits
two-bits : (i : Place) (s : Quotient) (j : ℕ) → j < 2 → quotient_bit i s (0 + j) ≡ bit_of (quotient_with s.r s.carry) (0 + j)
unfolding bit_of quotient_with
two-bits i s zero h = omega arith
two-bits i s (suc zero) h = omega arith
two-bits i s (suc (suc j)) h = omega arith

module _ (e f : ℕ) where
  pub converted : {a x q s z : Sharing} {T c d h : Place → List ℕ}
      → x ≡ four_times (modulus e) a
      → Quoted (parts x) T c q d
      → bits_summed (modulus f) 0 2 q s (drops 1 T) (drops 1 d) (drops 1 h)
      → ((i : Place) → take 1 (h i) ≡ take 1 (d i))
      → ((i : Place) → parts z i ≡ quarter f * diff (modulus f) (parts x i) (modulus e * parts s i) % modulus f)
      → Left (conversion e f) (parts a) (parts a) T c z h
  unfolding conversion
  converted {a} {x} {q} {s} {z} {T} {c} {d} {h} four first summed same settled =
      let U : Place → List ℕ = drops 1 T in
      let H = compose_gates quotient_bit (modulus f) 0 2 in
      let word : Place → Quotient → ℕ = λ i k. quotient_with k.r k.carry in
      let mid : Place → Summing Quotient = tabled (λ i. summing_start (carried (parts x i) (first.carry i))) in
      let started_with : tabled (λ i. summing_start (parts q i)) ≡ (λ i. worded word i (mid i))
      = fun_ext (each (λ i. tabled (λ j. summing_start (parts q j)) i ≡ worded word i (mid i))
      (ap summing_start (first.is p0)) (ap summing_start (first.is p1)) (ap summing_start (first.is p2))) in
      let second = summed_as quotient_bit word (modulus f) 0 2 two-bits (rw started_with at summed) in
      let ran = ran_then refl first.ran (record { states = refl; channels = second.channels }) same in
      let last : (i : Place) → (ends H mid U i).kept.x ≡ parts x i
      = λ i. ap (λ (k : Quotient). k.x) (compose_keeps quotient_bit (modulus f) 0 2 mid U i) ∙ each (λ j. (mid j).kept.x ≡ parts x j) refl refl refl i in
      let begun : started x ≡ starts (conversion e f) (parts a) (parts a) = rw four in
      let finished : parts z ≡ tabled (λ i. (conversion e f).finish i (ends H mid U i))
      = rw (last p0, last p1, last p2, second.sums p0, second.sums p1, second.sums p2, settled p0, settled p1, settled p2) in
      left_of {C = conversion e f} (rw begun at ran) finished
