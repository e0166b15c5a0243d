-- Order 8's loop: one bit is two joins, and k bits are composed after k turns.
use Prim.Native.Nat.{ℕ, ◌+◌, ◌*◌, ◌%◌, ◌<◌, ◌^◌}
use mathlib.Core.List.{List}
use mathlib.Core.Path.{◌≡◌, ap, refl, sym, ◌∙◌}
use native.Mathlib.Nat.{mod-eq_of_lt}
use native.Mathlib.Omega.{arith}
use lib.ListN.{drop, length, take}
use lib.Pow.{pow-add}
use Rattle.ring.specs.Modular.{Cong}
use Rattle.ring.specs.Rings.{bit_of}
use Rattle.ring.proofs.CongLaw.{cong_add, cong_mod, cong_mul, cong_of_eq, cong_refl, cong_sym, cong_trans, diff_cong}
use Rattle.gate.specs.Gates.{gated}
use Rattle.gate.specs.Places.{InRange, Place, p0, p1, p2, parts, tabled, three}
use Rattle.gate.specs.declared.sharing.Sharing.{Sharing}
use Rattle.gate.proofs.PlaceLaw.{each}
use Rattle.gate.proofs.WordLaw.{gated_cong}
use Rattle.circuit.specs.Circuits.{after, heads, words}
use Rattle.circuit.specs.Compose.{Summing, compose_gates, first_gate, joined, second_gate, summing_start}
use Rattle.circuit.specs.Loans.{Sends, channels, tapes}
use Rattle.circuit.specs.declared.lent.Lent.{Lent}
use Rattle.circuit.specs.Orders.{word_bit}
use Rattle.circuit.specs.Sharings.{zeros}
use Rattle.circuit.proofs.LentLaw.{ran-gate}
use Rattle.circuit.proofs.LoanLaw.{ran_then, same_now, sends_count, sends_then}
use Rattle.circuit.proofs.RunLaw.{drops}
use Rattle.compose.specs.Steps.{Joins}
use Rattle.compose.specs.Sums.{Holds, JoinsBit, Summed, bit_gates}
use Rattle.compose.proofs.SumLaw.{more_summed, none_summed, ran-summed}

-- one bit: the two joins are its gates
module _ (m j weight : ℕ) (w : Sharing) {sum : Place → ℕ} {s : Place → Summing ℕ} (holds : Holds (parts w) sum s) where
  -- a bit as the states have it
  read : (i : Place) → bit_of (s i).kept j ≡ bit_of (parts w i) j
  read i = ap (λ (n : ℕ). bit_of n j) (holds.kept i)

  abbrev one : Place → ℕ
  one = three (bit_of w.s0 j) 0 0

  abbrev two : Place → ℕ
  two = three 0 (bit_of w.s1 j) 0

  abbrev last : Place → ℕ
  last = three 0 0 (bit_of w.s2 j)

  first-words : (t : Place → ℕ) → words (first_gate word_bit m j) s t ≡ gated m one two t
  unfolding words first_gate
  first-words t = rw (read p0, read p1)

  module _ (x half : Place → ℕ) (near : (i : Place) → Cong m (half i) (joined m (one i) (two i) (x i))) where
    halfway : Place → Summing ℕ
    halfway = after (first_gate word_bit m j) s x

    half_near : (i : Place) → Cong m (halfway i).half (half i)
    unfolding halfway after first_gate
    half_near = each (λ i. Cong m (halfway i).half (half i)) (rw (read p0) (cong_sym (near p0))) (rw (read p1) (cong_sym (near p1))) (cong_sym (near p2))

    sum_is : (i : Place) → (halfway i).sum ≡ sum i
    unfolding halfway after first_gate
    sum_is = each (λ i. (halfway i).sum ≡ sum i) (holds.sum p0) (holds.sum p1) (holds.sum p2)

    read-last : bit_of (halfway p2).kept j ≡ bit_of w.s2 j
    unfolding halfway after first_gate
    read-last = read p2

    second-words : (t : Place → ℕ) → words (second_gate word_bit m j weight) halfway t ≡ gated m half last t
    unfolding words second_gate halfway gated
    second-words t = rw read-last (gated_cong m {u = λ i. (halfway i).half} last t half_near)

    second_sums : 0 < m → (y b z : Place → ℕ)
        → ((i : Place) → Cong m (b i) (joined m (half i) (last i) (y i)))
        → ((i : Place) → z i ≡ (sum i + weight * b i) % m)
        → (i : Place) → (after (second_gate word_bit m j weight) halfway y i).sum ≡ z i
    unfolding after second_gate
    second_sums pos y b z bit-near total =
        each (λ i. (after (second_gate word_bit m j weight) halfway y i).sum ≡ z i)
        (rw (sum_is p0) (added p0)) (rw (sum_is p1) (added p1)) (rw (sum_is p2, read-last) (added p2))
      where
        added : (i : Place) → (sum i + weight * joined m (halfway i).half (last i) (y i)) % m ≡ z i
        added i =
            let same : joined m (halfway i).half (last i) (y i) ≡ joined m (half i) (last i) (y i)
            = diff_cong pos (cong_add (half_near i) (cong_refl (last i))) (cong_refl (2 * y i)) in
            let share : Cong m (joined m (halfway i).half (last i) (y i)) (b i) = cong_trans (cong_of_eq same) (cong_sym (bit-near i)) in
            (cong_add (cong_refl (sum i)) (cong_mul (cong_refl weight) share)).same ∙ sym (total i)

  bit_summed : {half b : Sharing} {z : Place → ℕ} {T c d e : Place → List ℕ}
      → 0 < m
      → ((i : Place) → 0 < length (c i))
      → ((i : Place) → 0 < length (drop 1 (d i)))
      → Joins m one two (heads T) c half d
      → Joins m (parts half) last (heads (drops 1 T)) (drops 1 d) b (drops 1 e)
      → ((i : Place) → take 1 (e i) ≡ take 1 (d i))
      → ((i : Place) → z i ≡ (sum i + weight * parts b i) % m)
      → Summed (bit_gates word_bit m j weight) s T c z e
  unfolding halfway
  bit_summed {half} {b} {z} {T} {c} {d} {e} pos room room' joins joins' kept total =
      let x : Place → ℕ = gated m one two (heads T) in
      let y : Place → ℕ = gated m (parts half) last (heads (drops 1 T)) in
      let first = ran-gate (first_gate word_bit m j) s T c x (first-words (heads T)) room joins.stored in
      let second = ran-gate (second_gate word_bit m j weight) (halfway x (parts half) joins.near) (drops 1 T) (drops 1 d) y
      (second-words x (parts half) joins.near (heads (drops 1 T))) room' joins'.stored in
      ran-summed (ran_then refl first second kept) (second_sums x (parts half) joins.near pos y (parts b) z joins'.near total)

pub bit_joined : {m j : ℕ} {w half b : Sharing} {T c d e : Place → List ℕ}
    → 0 < m
    → ((i : Place) → 0 < length (c i))
    → ((i : Place) → 0 < length (drop 1 (d i)))
    → Joins m (three (bit_of w.s0 j) 0 0) (three 0 (bit_of w.s1 j) 0) (heads T) c half d
    → Joins m (parts half) (three 0 0 (bit_of w.s2 j)) (heads (drops 1 T)) (drops 1 d) b (drops 1 e)
    → ((i : Place) → take 1 (e i) ≡ take 1 (d i))
    → JoinsBit m j (parts w) T c (parts b) e
bit_joined {m} {j} {w} pos room room' joins joins' kept =
    record { adds = λ weight sum z s holds total. bit_summed m j weight w holds pos room room' joins joins' kept total }

-- the weight of the next bit
doubled : {m : ℕ} (j k next : ℕ) → Cong m (2 ^ j) (2 ^ k) → Cong m (2 ^ next) (2 ^ (j + 1)) → Cong m (2 ^ next) (2 ^ (k + 1))
doubled j k next weighs after-it =
    let left : 2 ^ (j + 1) ≡ 2 ^ j * 2 = pow-add 2 j 1 in
    let right : 2 ^ k * 2 ≡ 2 ^ (k + 1) = sym (pow-add 2 k 1) in
    cong_trans after-it (cong_trans (cong_of_eq left) (cong_trans (cong_mul weighs (cong_refl 2)) (cong_of_eq right)))

-- a power of two with the weight of bit k adds what the definition adds
weighed : (m j k s b : ℕ) {z : ℕ} → Cong m (2 ^ j) (2 ^ k) → Cong m z (s + 2 ^ j * b) → z % m ≡ (s % m + 2 ^ k % m * b) % m
weighed m j k s b weighs stands =
    (cong_trans stands
    (cong_add (cong_sym (cong_mod m s)) (cong_mul (cong_trans weighs (cong_sym (cong_mod m (2 ^ k)))) (cong_refl b)))).same

-- k bits of w are composed: from what was lent at first, u, to the sum and what is lent now, v
pub record Reached (m from : ℕ) (w : Sharing) (u : Lent) (k j : ℕ) (sum : Sharing) (v : Lent) : Type 0 where
  pub weighs : Cong m (2 ^ j) (2 ^ k)
  pub range : InRange (m + m) sum
  pub sums : Sends (2 * k) (λ T c d. Summed (compose_gates word_bit m from k) (tabled (λ i. summing_start (parts w i))) T c (λ i. parts sum i % m) d) u v

pub at-start : (m from : ℕ) {w none : Sharing} (u : Lent) → 1 < m → none ≡ zeros → Reached m from w u 0 0 none u
at-start m from {w} {none} u wide is =
    record {
      weighs = cong_refl 1;
      range = rw is (record { zero = omega arith; one = omega arith; two = omega arith });
      sums = record {
        ahead = record { sums = λ i. begun.sums i ∙ nothing i; channels = begun.channels };
        at = omega arith;
        same = same_now u;
      };
    }
  where
    begun : Summed (compose_gates word_bit m from 0) (tabled (λ i. summing_start (parts w i))) (drops u.at (tapes u)) (drops u.at (channels u)) (three 0 0 0) (drops u.at (channels u))
    begun = none_summed m from w (drops u.at (tapes u)) (drops u.at (channels u))

    zero_mod : 0 ≡ 0 % m
    zero_mod = sym (mod-eq_of_lt (omega arith))

    nothing : (i : Place) → three 0 0 0 i ≡ parts none i % m
    nothing = rw is (each (λ i. three 0 0 0 i ≡ parts zeros i % m) zero_mod zero_mod zero_mod)

module _ {m from : ℕ} {w : Sharing} {u : Lent} {k j : ℕ} {sum : Sharing} {v : Lent} (reached : Reached m from w u k j sum v) where
  -- the next bit
  pub went_on : {next : ℕ} {b z : Sharing} {v' : Lent}
      → Cong m (2 ^ next) (2 ^ (j + 1))
      → InRange (m + m) z
      → Sends 2 (λ T c d. JoinsBit m (from + k) (parts w) T c (parts b) d) v v'
      → ((i : Place) → Cong m (parts z i) (parts sum i + 2 ^ j * parts b i))
      → Reached m from w u (k + 1) next z v'
  went_on {next} {b} {z} twice range bit total =
      record {
        weighs = doubled j k next reached.weighs twice;
        range = range;
        sums = sends_count (omega arith) (sends_then reached.sums bit
            (λ before joins kept. more_summed m from k (2 ^ k % m) refl before
            (λ s holds. joins.adds (2 ^ k % m) (λ i. parts sum i % m) (λ i. parts z i % m) s holds
            (λ i. weighed m j k (parts sum i) (parts b i) reached.weighs (total i)))
            kept));
      }
