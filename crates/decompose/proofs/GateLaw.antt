-- Order 5's gates on states that are made of words: their factors are bits of the words.
use Prim.Native.Nat.{ℕ, ◌+◌, ◌/◌}
use mathlib.Core.List.{List}
use mathlib.Core.Path.{◌≡◌, ap, ap₂, fun_ext, refl, sym, ◌∙◌}
use native.Mathlib.Omega.{arith}
use lib.Bits.{bit_xor, xor_lt}
use Rattle.ring.specs.Rings.{bit_of}
use Rattle.ring.proofs.BitLaw.{xor_bit}
use Rattle.gate.specs.Gates.{gated}
use Rattle.gate.specs.Places.{InRange, Place, Sent, p0, p1, p2, parts, sharing, tabled}
use Rattle.gate.specs.declared.sharing.Sharing.{Sharing}
use Rattle.circuit.specs.Bits.{gather, xor}
use Rattle.circuit.specs.Circuits.{after, words}
use Rattle.circuit.specs.Decompose.{Digits, carry_gate, digit, raising_gate, running_gate, sum_bit, total_bit, zero_gate}
use Rattle.circuit.specs.Lent.{Turned}
use Rattle.circuit.specs.Loans.{Sends, words_sent}
use Rattle.circuit.specs.declared.lent.Lent.{Lent}
use Rattle.circuit.specs.Sharings.{zeros}
use Rattle.circuit.proofs.BitsLaw.{bit_lt, bit_upper, bit_of-xor, gather-bits, gather_same}
use Rattle.decompose.specs.Turns.{majority_words}
use Rattle.decompose.specs.Words.{bits_at, bits_xor, digits_of, finished, stored, totalled, upper}

-- the sum bit and both carries of a place are the total's bit
total-at : {n : ℕ} (a b c j : ℕ) → n ≡ bit_of a j → xor (xor n (bit_of b j)) (bit_of c j) ≡ bit_of (bit_xor (bit_xor a b) c) j
total-at a b c j e =
    ap (λ (n : ℕ). xor (xor n (bit_of b j)) (bit_of c j)) e
    ∙ sym (bit_of-xor (bit_xor a b) c j ∙ ap (λ (n : ℕ). xor n (bit_of c j)) (bit_of-xor a b j))

-- the result's word of a place
gathered : (l total raising : ℕ) {b : ℕ → ℕ} → ((j : ℕ) → b j ≡ bit_of total (j + 2))
    → gather l (λ j. xor (b j) (bit_of raising j)) ≡ upper total raising l
unfolding upper
gathered l total raising {b} e =
    gather_same l (λ j h. ap (λ (n : ℕ). xor n (bit_of raising j)) (e j ∙ sym (bit_upper total j)) ∙ sym (bit_of-xor (total / 4) raising j))
    ∙ gather-bits l (bit_xor (total / 4) raising)

module _ (x carries running raising : Sharing) where
  -- a bit known at one place is its own sum
  sum_bit_lem : (j : ℕ) (i : Place) → sum_bit j i (digits_of x carries running raising i) ≡ parts (bits_at x j) i
  sum_bit_lem j p0 = omega (arith, bit_lt x.s0 j)
  sum_bit_lem j p1 = omega (arith, bit_lt x.s1 j)
  sum_bit_lem j p2 = omega (arith, bit_lt x.s2 j)

  total_bit_lem : (j : ℕ) (i : Place)
      → total_bit j i (digits_of x carries running raising i) ≡ parts (bits_at (totalled x carries running) j) i
  total_bit_lem j p0 = total-at x.s0 carries.s0 running.s0 j (sum_bit_lem j p0)
  total_bit_lem j p1 = total-at x.s1 carries.s1 running.s1 j (sum_bit_lem j p1)
  total_bit_lem j p2 = total-at x.s2 carries.s2 running.s2 j (sum_bit_lem j p2)

  pub digits_gather : (l : ℕ) (i : Place)
      → gather l (digit i (digits_of x carries running raising i)) ≡ parts (finished (totalled x carries running) raising l) i
  digits_gather l p0 = gathered l (totalled x carries running).s0 raising.s0 (λ j. total_bit_lem (j + 2) p0)
  digits_gather l p1 = gathered l (totalled x carries running).s1 raising.s1 (λ j. total_bit_lem (j + 2) p1)
  digits_gather l p2 = gathered l (totalled x carries running).s2 raising.s2 (λ j. total_bit_lem (j + 2) p2)

-- XOR of words that are bits
pub xor_bits : {a b z : Sharing} → z ≡ record { s0 = bit_xor a.s0 b.s0; s1 = bit_xor a.s1 b.s1; s2 = bit_xor a.s2 b.s2 }
    → InRange 2 a → InRange 2 b → (z ≡ bits_xor a b) × InRange 2 z
xor_bits is ha hb = (
  is ∙ rw (xor_bit ha.zero hb.zero, xor_bit ha.one hb.one, xor_bit ha.two hb.two) refl,
  rw is (record { zero = xor_lt 1 _ _ ha.zero hb.zero; one = xor_lt 1 _ _ ha.one hb.one; two = xor_lt 1 _ _ ha.two hb.two }),
)

-- the majority's words and its bits
pub majority_is : (x y c t : Sharing) {left right z b : Sharing} {v w : Lent}
    → left ≡ bits_xor x c
    → right ≡ bits_xor y c
    → z ≡ sharing (gated 2 (parts left) (parts right) (parts t))
    → Sends 1 (words_sent z) v w
    → b ≡ bits_xor c z
    → (b ≡ bits_xor c (majority_words x y c t)) × Sends 1 (words_sent (majority_words x y c t)) v w
majority_is x y c t {z = z} hl hr hz sent hb =
    let said : z ≡ majority_words x y c t = rw (hz, hl, hr) in
    (hb ∙ ap (bits_xor c) said, rw said at sent)

-- (i) the carry gate, on bits that are known at one place each
abbrev pub at_zero : Sharing → Sharing
at_zero b = record { s0 = b.s0; s1 = 0; s2 = 0 }

abbrev pub at_one : Sharing → Sharing
at_one b = record { s0 = 0; s1 = b.s1; s2 = 0 }

abbrev pub at_two : Sharing → Sharing
at_two b = record { s0 = 0; s1 = 0; s2 = b.s2 }

pub carry_turned : {x b carry carries r t : Sharing} (j : ℕ) {c₀ c₁ c₂ d₀ d₁ d₂ : List ℕ}
    → b ≡ bits_at x j
    → carry ≡ bits_xor (at_two b) (majority_words (at_zero b) (at_one b) (at_two b) t)
    → Sent (majority_words (at_zero b) (at_one b) (at_two b) t) c₀ c₁ c₂ d₀ d₁ d₂
    → r ≡ stored carries carry (j + 1)
    → Turned (carry_gate j) (digits_of x carries zeros zeros) t (digits_of x r zeros zeros) c₀ c₁ c₂ d₀ d₁ d₂
unfolding carry_gate words after
carry_turned {x} {b} {carry} {carries} {r} {t} j {c₀} {c₁} {c₂} {d₀} {d₁} {d₂} hb hc sent hr =
    let turned : r ≡ stored carries (bits_xor (at_two (bits_at x j)) (majority_words (at_zero (bits_at x j)) (at_one (bits_at x j)) (at_two (bits_at x j)) t)) (j + 1)
    = rw (hr, hc, hb) in
    record {
      states = sym (ap (λ (w : Sharing). digits_of x w zeros zeros) turned);
      stored = rw hb at sent;
    }

-- (ii) the running gate
pub running-turned : {x carries running sum second third carry r t : Sharing} (j : ℕ) {c₀ c₁ c₂ d₀ d₁ d₂ : List ℕ}
    → sum ≡ bits_at x j
    → second ≡ bits_at carries j
    → third ≡ bits_at running j
    → carry ≡ bits_xor third (majority_words sum second third t)
    → Sent (majority_words sum second third t) c₀ c₁ c₂ d₀ d₁ d₂
    → r ≡ stored running carry (j + 1)
    → Turned (running_gate j) (digits_of x carries running zeros) t (digits_of x carries r zeros) c₀ c₁ c₂ d₀ d₁ d₂
unfolding running_gate words after
running-turned {x} {carries} {running} {sum} {second} {third} {carry} {r} {t} j {c₀} {c₁} {c₂} {d₀} {d₁} {d₂} h₁ h₂ h₃ hc sent hr =
    let s : Place → Digits = digits_of x carries running zeros in
    let lefts : tabled (λ i. xor (sum_bit j i (s i)) (bit_of (s i).running j)) ≡ parts (bits_xor (bits_at x j) (bits_at running j))
    = ap tabled (fun_ext (λ i. ap (λ (n : ℕ). xor n (bit_of (s i).running j)) (sum_bit_lem x carries running zeros j i))) in
    let word : (Place → ℕ) → Sharing = λ left. sharing (gated 2 left (parts (bits_xor (bits_at carries j) (bits_at running j))) (parts t)) in
    let said : majority_words sum second third t ≡ word (tabled (λ i. xor (sum_bit j i (s i)) (bit_of (s i).running j)))
    = rw (h₁, h₂, h₃, lefts) in
    record {
      states = sym (ap (λ (w : Sharing). digits_of x carries w zeros) (hr ∙ ap (λ (b : Sharing). stored running b (j + 1)) (hc ∙ ap₂ bits_xor h₃ said)));
      stored = rw said at sent;
    }

-- (iii) the gate for z
pub zero_turned : {x carries running total left right both z r t : Sharing} {c₀ c₁ c₂ d₀ d₁ d₂ : List ℕ}
    → left ≡ bits_at total 0
    → right ≡ bits_at total 1
    → z ≡ sharing (gated 2 (parts left) (parts right) (parts t))
    → Sent z c₀ c₁ c₂ d₀ d₁ d₂
    → both ≡ bits_xor left right
    → r ≡ bits_xor both z
    → total ≡ totalled x carries running
    → Turned zero_gate (digits_of x carries running zeros) t (digits_of x carries running r) c₀ c₁ c₂ d₀ d₁ d₂
unfolding zero_gate words after
zero_turned {x} {carries} {running} {total} {left} {right} {both} {z} {r} {t} hl hr hz sent hb h e =
    let s : Place → Digits = digits_of x carries running zeros in
    let T : ℕ → Place → ℕ = λ j. tabled (λ i. total_bit j i (s i)) in
    let bits : (j : ℕ) → T j ≡ parts (bits_at total j) = λ j. ap tabled (fun_ext (total_bit_lem x carries running zeros j)) ∙ ap (λ (w : Sharing). parts (bits_at w j)) (sym e) in
    let said : z ≡ sharing (gated 2 (T 0) (T 1) (parts t)) = rw (hz, hl, hr, bits 0, bits 1) in
    let done : r ≡ bits_xor (bits_xor (sharing (T 0)) (sharing (T 1))) (sharing (gated 2 (T 0) (T 1) (parts t)))
    = h ∙ ap₂ bits_xor (hb ∙ ap₂ bits_xor (hl ∙ ap sharing (sym (bits 0))) (hr ∙ ap sharing (sym (bits 1)))) said in
    record {
      states = sym (ap (λ (w : Sharing). digits_of x carries running w) done);
      stored = rw said at sent;
    }

-- (iv) a half adder
pub raising_turned : {x carries running total raising left right z r t : Sharing} (j : ℕ) {c₀ c₁ c₂ d₀ d₁ d₂ : List ℕ}
    → left ≡ bits_at total (j + 2)
    → right ≡ bits_at raising j
    → z ≡ sharing (gated 2 (parts left) (parts right) (parts t))
    → Sent z c₀ c₁ c₂ d₀ d₁ d₂
    → r ≡ stored raising z (j + 1)
    → total ≡ totalled x carries running
    → Turned (raising_gate j) (digits_of x carries running raising) t (digits_of x carries running r) c₀ c₁ c₂ d₀ d₁ d₂
unfolding raising_gate words after
raising_turned {x} {carries} {running} {total} {raising} {left} {right} {z} {r} {t} j hl hr hz sent h e =
    let s : Place → Digits = digits_of x carries running raising in
    let T : Place → ℕ = tabled (λ i. total_bit (j + 2) i (s i)) in
    let bits : T ≡ parts (bits_at total (j + 2)) = ap tabled (fun_ext (total_bit_lem x carries running raising (j + 2))) ∙ ap (λ (w : Sharing). parts (bits_at w (j + 2))) (sym e) in
    let said : z ≡ sharing (gated 2 T (parts (bits_at raising j)) (parts t)) = rw (hz, hl, hr, bits) in
    record {
      states = sym (ap (λ (w : Sharing). digits_of x carries running w) (h ∙ ap (λ (w : Sharing). stored raising w (j + 1)) said));
      stored = rw said at sent;
    }
