-- The gates of a decomposition carry out the sum column by column, on shared bits.
use Prim.Native.Nat.{ℕ, suc, ◌+◌, ◌-◌, ◌<◌, ◌≤◌}
use mathlib.Core.List.{List, ◌∷◌, ◌++◌}
use mathlib.Core.Path.{◌≡◌, ap, ap₂, refl, sym, ◌∙◌}
use native.Mathlib.Nat.{mod-lt}
use native.Mathlib.Omega.{arith}
use native.Mathlib.Numerals.{add-one}
use lib.Dec.{lit<}
use lib.ListN.{length}
use Rattle.ring.specs.Rings.{bit_of}
use Rattle.gate.specs.Places.{Below, Place, p0, p1, p2, total}
use Rattle.circuit.specs.Bits.{xor}
use Rattle.circuit.specs.Circuits.{ends, heads, tails, upto, words}
use Rattle.circuit.specs.Decompose.{Digits, carry_gate, decompose_gates, digit, digits_start, known, raising_gate, running_gate, sum_bit, total_bit, zero_gate}
use Rattle.circuit.proofs.RunLaw.{drops, ends-append, step, upto_keeps, words_below}
use Rattle.value.proofs.AdderLaw.{carry_none, carry_at, digit_at, first_at, product_carries, raising_at, rippled, running_none, running_at, saved, sum_at, total_at}
use Rattle.value.proofs.BitsLaw.{Shares, shares_more, shares-one, shares-zeros, total-alone, total-xor, total-xor-three}
use Rattle.value.proofs.GateLaw.{majority-total, step_is, words-total}
use Rattle.value.proofs.SumLaw.{total-lt}

pub digit_lt : (i : Place) (s : Digits) (j : ℕ) → digit i s j < 2
digit_lt i s j = mod-lt (total_bit (j + 2) i s + bit_of s.raising j) (lit< tt)

-- the states keep x and share the first a carries, b running carries and c carries of the increment
pub record Holds (x : Place → ℕ) (a b c : ℕ) (s : Place → Digits) : Type 0 where
  pub same : (i : Place) → (s i).x ≡ x i
  pub carries : Shares a (λ i. (s i).carries) (carry_at x)
  pub running : Shares b (λ i. (s i).running) (running_at x)
  pub raising : Shares c (λ i. (s i).raising) (raising_at x)

module _ {x : Place → ℕ} {a b c : ℕ} {s : Place → Digits} (h : Holds x a b c s) where
  known-total : (k : Place) (j : ℕ) → total 2 (λ i. known k j i (s i)) ≡ bit_of (x k) j
  known-total k j = total-alone k (λ i. (s i).x) j ∙ ap (λ (n : ℕ). bit_of n j) (h.same k)

  sum-total : (j : ℕ) → total 2 (λ i. sum_bit j i (s i)) ≡ sum_at x j
  sum-total j =
      total-xor-three (λ i. known p0 j i (s i)) (λ i. known p1 j i (s i)) (λ i. known p2 j i (s i))
      ∙ rw (known-total p0 j, known-total p1 j, known-total p2 j)

  total-total : (j : ℕ) → j < a → j < b → total 2 (λ i. total_bit j i (s i)) ≡ total_at x j
  unfolding total_at
  total-total j ha hb =
      total-xor-three (λ i. sum_bit j i (s i)) (λ i. bit_of (s i).carries j) (λ i. bit_of (s i).running j)
      ∙ rw (sum-total j, h.carries.bits j ha, h.running.bits j hb)

  pub digit-total : (j : ℕ) → j + 2 < a → j + 2 < b → j < c → total 2 (λ i. digit i (s i) j) ≡ digit_at x j
  digit-total j ha hb hc =
      total-xor (λ i. total_bit (j + 2) i (s i)) (λ i. bit_of (s i).raising j)
      ∙ ap₂ xor (total-total (j + 2) ha hb) (h.raising.bits j hc)

xors_below : (u v : Place → ℕ) → Below 2 (λ i. xor (u i) (v i))
xors_below u v i = mod-lt (u i + v i) (lit< tt)

-- each gate shares one bit more
module _ {x : Place → ℕ} {s : Place → Digits} (j : ℕ) (t : Place → ℕ) where
  carry_more : {b c : ℕ} → Holds x (j + 1) b c s → Holds x (suc (j + 1)) b c (step (carry_gate j) s t)
  unfolding carry_gate saved
  carry_more h =
      let z = words (carry_gate j) s t in
      let old : Place → ℕ = λ i. known p2 j i (s i) in
      let carries : total 2 (λ i. xor (old i) (z i)) ≡ carry_at x (j + 1)
      = majority-total (λ i. known p0 j i (s i)) (λ i. known p1 j i (s i)) old z (words-total (carry_gate j) (lit< tt) s t)
      ∙ rw (known-total h p0 j, known-total h p1 j, known-total h p2 j, add-one j) in
      rw (step_is (carry_gate j) s t)
      (record {
        same = h.same;
        carries = shares_more (λ i. xor (old i) (z i)) (xors_below old z) carries h.carries;
        running = h.running;
        raising = h.raising;
      })

  running_more : {a c : ℕ} → j < a → Holds x a (j + 1) c s → Holds x a (suc (j + 1)) c (step (running_gate j) s t)
  unfolding running_gate rippled
  running_more ha h =
      let z = words (running_gate j) s t in
      let old : Place → ℕ = λ i. bit_of (s i).running j in
      let runs : total 2 (λ i. xor (old i) (z i)) ≡ running_at x (j + 1)
      = majority-total (λ i. sum_bit j i (s i)) (λ i. bit_of (s i).carries j) old z (words-total (running_gate j) (lit< tt) s t)
      ∙ rw (sum-total h j, h.carries.bits j ha, h.running.bits j (omega arith), add-one j) in
      rw (step_is (running_gate j) s t)
      (record {
        same = h.same;
        carries = h.carries;
        running = shares_more (λ i. xor (old i) (z i)) (xors_below old z) runs h.running;
        raising = h.raising;
      })

  raising_more : {a b : ℕ} → j + 2 < a → j + 2 < b → Holds x a b (j + 1) s → Holds x a b (suc (j + 1)) (step (raising_gate j) s t)
  unfolding raising_gate rippled
  raising_more ha hb h =
      let z = words (raising_gate j) s t in
      let raises : total 2 z ≡ raising_at x (j + 1)
      = words-total (raising_gate j) (lit< tt) s t
      ∙ product_carries (total-lt (λ i. total_bit (j + 2) i (s i)) (lit< tt)) (total-lt (λ i. bit_of (s i).raising j) (lit< tt))
      ∙ rw (total-total h (j + 2) ha hb, h.raising.bits j (omega arith), add-one j) in
      rw (step_is (raising_gate j) s t)
      (record {
        same = h.same;
        carries = h.carries;
        running = h.running;
        raising = shares_more z (words_below (raising_gate j) (lit< tt) s t) raises h.raising;
      })

zero_more : {x : Place → ℕ} {a b : ℕ} {s : Place → Digits} (t : Place → ℕ) → 1 < a → 1 < b → Holds x a b 0 s
    → Holds x a b 1 (step zero_gate s t)
unfolding zero_gate rippled first_at
zero_more {x} {a} {b} {s} t ha hb h =
    let z = words zero_gate s t in
    let either : Place → ℕ = λ i. xor (total_bit 0 i (s i)) (total_bit 1 i (s i)) in
    let first : total 2 (λ i. xor (either i) (z i)) ≡ raising_at x 0
    = total-xor either z
    ∙ ap₂ xor (total-xor (λ i. total_bit 0 i (s i)) (λ i. total_bit 1 i (s i))) (words-total zero_gate (lit< tt) s t)
    ∙ rw (total-total h 0 (omega arith) (omega arith), total-total h 1 ha hb) in
    rw (step_is zero_gate s t)
    (record {
      same = h.same;
      carries = h.carries;
      running = h.running;
      raising = shares-one (λ i. xor (either i) (z i)) (xors_below either z) first;
    })

-- the states at the start
starts_hold : (x : Place → ℕ) → Holds x 1 2 0 (λ i. digits_start (x i))
starts_hold x =
    record {
      same = λ i. refl;
      carries = shares-zeros 1 (carry_at x) (carry_none x);
      running = shares-zeros 2 (running_at x) (running_none x);
      raising = shares-zeros 0 (raising_at x) (λ j h. omega arith);
    }

recount : {x : Place → ℕ} {a b c a' b' c' : ℕ} {s : Place → Digits} → a ≡ a' → b ≡ b' → c ≡ c' → Holds x a b c s → Holds x a' b' c' s
recount ea eb ec h = rw (sym ea, sym eb, sym ec) h

-- the three lists of gates
module _ {x : Place → ℕ} {s : Place → Digits} (n : ℕ) (T : Place → List ℕ) where
  all_carries : {b c : ℕ} → Holds x 1 b c s → Holds x (n + 1) b c (ends (upto carry_gate n) s T)
  all_carries {b} {c} =
      upto_keeps (λ k s'. Holds x (k + 1) b c s') carry_gate n (λ k s' t l h. recount (omega arith) refl refl (carry_more k t h)) s T

  all-running : {a c : ℕ} → n < a → Holds x a 2 c s → Holds x a (n + 2) c (ends (upto (λ k. running_gate (k + 1)) n) s T)
  all-running {a} {c} fits =
      upto_keeps (λ k s'. Holds x a (k + 2) c s') (λ k. running_gate (k + 1)) n
      (λ k s' t l h. recount refl (omega arith) refl (running_more (k + 1) t (omega arith) (recount refl (omega arith) refl h))) s T

  all_raising : {a b : ℕ} → n + 1 < a → n + 1 < b → Holds x a b 1 s → Holds x a b (n + 1) (ends (upto raising_gate n) s T)
  all_raising {a} {b} ha hb =
      upto_keeps (λ k s'. Holds x a b (k + 1) s') raising_gate n
      (λ k s' t l h. recount refl refl (omega arith) (raising_more k t (omega arith) (omega arith) h)) s T

-- the states at the end
pub decompose_holds : (l : ℕ) → 1 ≤ l → (x : Place → ℕ) (T : Place → List ℕ)
    → Holds x (l + 2) (l + 2) l (ends (decompose_gates l) (λ i. digits_start (x i)) T)
unfolding decompose_gates ends step
decompose_holds l h x T =
    let s₀ : Place → Digits = λ i. digits_start (x i) in
    let carrying = upto carry_gate (l + 1) in
    let running = upto (λ k. running_gate (k + 1)) l in
    let raising = zero_gate ∷ upto raising_gate (l - 1) in
    let T₁ = drops (length carrying) T in
    let T₂ = drops (length running) T₁ in
    let carried = recount {a' = l + 2} (omega arith) refl refl (all_carries (l + 1) T (starts_hold x)) in
    let ran = all-running l T₁ (omega arith) carried in
    let zeroed = zero_more (heads T₂) (omega arith) (omega arith) ran in
    let raised = all_raising (l - 1) (tails T₂) (omega arith) (omega arith) zeroed in
    rw (ends-append carrying (running ++ raising) s₀ T, ends-append running raising (ends carrying s₀ T) T₁)
    (recount refl refl (omega arith) raised)
