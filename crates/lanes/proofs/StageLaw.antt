-- One gate of each kind for each figure, from planes: order 5's gates at the bits that the planes hold.
use Prim.Native.Nat.{ℕ, ◌+◌, ◌*◌, ◌<◌, ◌≤◌, ◌^◌}
use mathlib.Core.List.{List}
use mathlib.Core.Path.{◌≡◌, ap, ap₂, refl, sym, ◌∙◌}
use native.Mathlib.Omega.{arith}
use borrow.Author.Count.{below_more, below_none}
use lib.ListN.{take}
use Rattle.gate.specs.Places.{Place}
use Rattle.gate.specs.declared.sharing.Sharing.{Sharing}
use Rattle.gate.specs.Words.{GateWords}
use Rattle.circuit.specs.Bits.{gather}
use Rattle.circuit.specs.Circuits.{upto}
use Rattle.circuit.specs.Decompose.{Digits, carry_gate, raising_gate, running_gate, zero_gate}
use Rattle.circuit.specs.Sharings.{zeros}
use Rattle.circuit.proofs.BitsLaw.{bit_none}
use Rattle.circuit.proofs.RunLaw.{drops}
use Rattle.decompose.specs.Turns.{majority_words}
use Rattle.decompose.specs.Words.{bits_at, bits_xor, digits_of, stored, totalled}
use Rattle.decompose.proofs.GateLaw.{at_one, at_two, at_zero, carry_turned, raising_turned, running-turned, zero_turned}
use Rattle.planes.specs.Planes.{MajorityWords, Whole, columns, planes_at, with_planes, words_xor}
use Rattle.planes.specs.declared.places.Planes.{Planes}
use Rattle.planes.proofs.PlaceLaw.{column-bits, column_more, other_planes, stored_planes, whole_stored}
use Rattle.planes.proofs.WordLaw.{bits-xor}
use Rattle.lanes.specs.Stages.{EachRan, RaisingRan, Running, Totals, ZeroRan, carried, raised, summed, total_planes}
use Rattle.lanes.proofs.GateLaw.{OneSent, Takes, each_more, each_none}

-- planes that are 0 are no bits
pub no_planes : (q : Planes) (k : ℕ) → Whole q → columns 1 (with_planes q 0 zeros) k ≡ zeros
unfolding gather
no_planes q k whole = column_more q 0 zeros (omega arith) whole k ∙ rw (bit_none k)

pub two_planes : (q : Planes) (k : ℕ) → Whole q → columns 2 (with_planes (with_planes q 0 zeros) 1 zeros) k ≡ zeros
two_planes q k whole =
    column_more (with_planes q 0 zeros) 1 zeros (omega arith) (whole_stored q 0 zeros whole) k
    ∙ ap (λ (w : Sharing). stored w (bits_at zeros k) 1) (no_planes q k whole)
    ∙ rw (bit_none k)

-- the bits of equal words
bits_of : (k : ℕ) {v w : Sharing} → v ≡ w → bits_at v k ≡ bits_at w k
bits_of k e = ap (λ (w : Sharing). bits_at w k) e

-- ---- (i) the carries

module _ (j : ℕ) (x q q' : Planes) (b t z w : Sharing) (inside : j < 63) (planes : Whole q) (b-is : b ≡ planes_at j x)
    (z-is : MajorityWords (at_zero b) (at_one b) (at_two b) t z) (w-is : w ≡ words_xor (at_two b) z) (q-is : q' ≡ with_planes q (j + 1) w) where
  pub takes_carry : Takes (carry_gate j) (carried x q (j + 1)) (carried x q' (j + 1 + 1)) t z
  takes_carry = record {
    turned = λ k c₀ c₁ c₂ d₀ d₁ d₂ sent.
        let words : bits_at z k ≡ majority_words (at_zero (bits_at b k)) (at_one (bits_at b k)) (at_two (bits_at b k)) (bits_at t k)
        = z-is.at k ∙ rw (bit_none k) in
        let third : bits_at (at_two b) k ≡ at_two (bits_at b k) = rw (bit_none k) in
        carry_turned j
        (bits_of k b-is ∙ sym (column-bits 64 x k j (omega arith)))
        (bits_of k w-is ∙ bits-xor (at_two b) z k ∙ ap₂ bits_xor third words)
        (rw words at sent)
        (ap (λ (p : Planes). columns (j + 1 + 1) p k) q-is ∙ column_more q (j + 1) w (omega arith) planes k);
  }

-- ---- (ii) the running carries: gate i is for bit i + 1

-- figure k's states with n planes of carries and m of running carries
abbrev pub running : (x q : Planes) → ℕ → (r : Planes) → (m k : ℕ) → Place → Digits
running x q n r m k = digits_of (columns 64 x k) (columns n q k) (columns m r k) zeros

module _ (i n : ℕ) (x q r r' : Planes) (b u v t z w : Sharing) (inside : i + 1 < 62) (known : i + 1 < n) (planes : Whole r)
    (b-is : b ≡ planes_at (i + 1) x) (u-is : u ≡ planes_at (i + 1) q) (v-is : v ≡ planes_at (i + 1) r)
    (z-is : MajorityWords b u v t z) (w-is : w ≡ words_xor v z) (r-is : r' ≡ with_planes r (i + 2) w) where
  pub takes_running : Takes (running_gate (i + 1)) (running x q n r (i + 2)) (running x q n r' (i + 1 + 2)) t z
  takes_running = record {
    turned = λ k c₀ c₁ c₂ d₀ d₁ d₂ sent.
        let next : i + 1 + 1 ≡ i + 2 = omega arith in
        let grown : i + 1 + 2 ≡ i + 2 + 1 = omega arith in
        running-turned (i + 1)
        (bits_of k b-is ∙ sym (column-bits 64 x k (i + 1) (omega arith)))
        (bits_of k u-is ∙ sym (column-bits n q k (i + 1) known))
        (bits_of k v-is ∙ sym (column-bits (i + 2) r k (i + 1) (omega arith)))
        (bits_of k w-is ∙ bits-xor v z k ∙ ap (bits_xor (bits_at v k)) (z-is.at k))
        (rw (z-is.at k) at sent)
        (ap (λ (m : ℕ). columns m r' k) grown ∙ ap (λ (p : Planes). columns (i + 2 + 1) p k) r-is ∙ column_more r (i + 2) w (omega arith) planes k
        ∙ ap (λ (m : ℕ). stored (columns (i + 2) r k) (bits_at w k) m) (sym next));
  }

-- ---- (iii) and (iv): the increment

module _ (n : ℕ) (x q r : Planes) where
  pub total-bits : (j k : ℕ) → j < n → n ≤ 64 → bits_at (total_planes j x q r) k ≡ bits_at (totalled (columns 64 x k) (columns n q k) (columns n r k)) j
  total-bits j k known small =
      let X = columns 64 x k in
      let Q = columns n q k in
      let R = columns n r k in
      bits-xor (words_xor (planes_at j x) (planes_at j q)) (planes_at j r) k
      ∙ ap₂ bits_xor
      (bits-xor (planes_at j x) (planes_at j q) k
      ∙ ap₂ bits_xor (sym (column-bits 64 x k j (omega arith))) (sym (column-bits n q k j known)) ∙ sym (bits-xor X Q j))
      (sym (column-bits n r k j known))
      ∙ sym (bits-xor (words_xor X Q) R j)

  first-bits : (b : Sharing) (a : Planes) (k : ℕ) → stored (columns 0 a k) b 0 ≡ b
  unfolding gather
  first-bits b a k =
      let one : (m : ℕ) → 0 + m * 2 ^ 0 ≡ m = λ m. omega arith in
      rw (one b.s0, one b.s1, one b.s2)

  module _ (a a' : Planes) (left right t z both v : Sharing) (some : 1 < n) (small : n ≤ 64) (planes : Whole a)
      (left_is : left ≡ total_planes 0 x q r) (right_is : right ≡ total_planes 1 x q r) (z-is : GateWords left right t z)
      (both_is : both ≡ words_xor left right) (v-is : v ≡ words_xor both z) (a-is : a' ≡ with_planes a 0 v) where
    pub takes_zero : Takes zero_gate (summed x q r n) (raised x q r a' n 1) t z
    takes_zero = record {
      turned = λ k c₀ c₁ c₂ d₀ d₁ d₂ sent.
          zero_turned
          (bits_of k left_is ∙ total-bits 0 k (omega arith) small)
          (bits_of k right_is ∙ total-bits 1 k some small)
          (z-is.at k)
          sent
          (bits_of k both_is ∙ bits-xor left right k)
          (ap (λ (p : Planes). columns 1 p k) a-is ∙ column_more a 0 v (omega arith) planes k ∙ first-bits (bits_at v k) a k
          ∙ bits_of k v-is ∙ bits-xor both z k)
          refl;
    }

  module _ (j : ℕ) (a a' : Planes) (left right t z : Sharing) (known : j + 2 < n) (small : n ≤ 64) (planes : Whole a)
      (left_is : left ≡ total_planes (j + 2) x q r) (right_is : right ≡ planes_at j a) (z-is : GateWords left right t z)
      (a-is : a' ≡ with_planes a (j + 1) z) where
    pub takes_raising : Takes (raising_gate j) (raised x q r a n (j + 1)) (raised x q r a' n (j + 1 + 1)) t z
    takes_raising = record {
      turned = λ k c₀ c₁ c₂ d₀ d₁ d₂ sent.
          raising_turned j
          (bits_of k left_is ∙ total-bits (j + 2) k known small)
          (bits_of k right_is ∙ sym (column-bits (j + 1) a k j (omega arith)))
          (z-is.at k)
          sent
          (ap (λ (p : Planes). columns (j + 1 + 1) p k) a-is ∙ column_more a (j + 1) z (omega arith) planes k)
          refl;
    }

-- ---- the total in place of the carries

module _ {n : ℕ} {x q r s : Planes} where
  -- one more plane, where the carries still stand
  pub totals_more : {s' : Planes} {last : Sharing} → Totals n x q r s → n < 64 → Whole s → planes_at n s ≡ planes_at n q → last ≡ planes_at n r
      → s' ≡ with_planes s n (words_xor (words_xor (planes_at n x) (planes_at n s)) last) → Totals (n + 1) x q r s'
  totals_more {s'} {last} totals inside whole carries last-is is =
      let w : Sharing = words_xor (words_xor (planes_at n x) (planes_at n s)) last in
      record {
        at = below_more (λ j. planes_at j s' ≡ total_planes j x q r) n
            (λ j h. ap (planes_at j) is ∙ other_planes s n w j (λ e. omega arith) ∙ totals.at j h)
            (ap (planes_at n) is ∙ stored_planes s n w inside whole ∙ ap₂ words_xor (ap (words_xor (planes_at n x)) carries) last-is);
      }

  -- planes of running carries from n on do not matter
  pub totals_kept : (i : ℕ) (w : Sharing) → n ≤ i → i < 64 → Whole r → Totals n x q r s → Totals n x q (with_planes r i w) s
  totals_kept i w from inside whole totals =
      record {
        at = λ j h. totals.at j h
            ∙ ap (words_xor (words_xor (planes_at j x) (planes_at j q))) (sym (other_planes r i w j (λ e. omega arith)));
      }

-- what the loop of running carries keeps: i gates ran, planes 0 to i of s are the total's, and the carries stand from there on
pub record Summing (i n : ℕ) (x q s : Planes) (last : Sharing) (T c d : Place → List ℕ) : Type 0 where
  pub r : Planes
  pub whole : Whole r
  pub as_last : last ≡ planes_at (i + 1) r
  pub ran : EachRan (upto (λ j. running_gate (j + 1)) i) (carried x q (n + 2)) (running x q (n + 2) r (i + 2)) T c d
  pub totals : Totals (i + 1) x q r s
  pub left : (j : ℕ) → i < j → planes_at j s ≡ planes_at j q

-- with plane 0 of the total in place of the carries q
pub summing_none : (n : ℕ) {x q s : Planes} {last : Sharing} {T c : Place → List ℕ} → last ≡ zeros → Whole q
    → s ≡ with_planes q 0 (words_xor (words_xor (planes_at 0 x) (planes_at 0 q)) last) → Summing 0 n x q s last T c c
summing_none n {x} {q} {s} {last} none whole is =
    let one : Planes = with_planes q 0 zeros in
    let r : Planes = with_planes one 1 zeros in
    let whole' : Whole one = whole_stored q 0 zeros whole in
    let first : planes_at 0 r ≡ zeros
    = other_planes one 1 zeros 0 (λ e. omega arith) ∙ stored_planes q 0 zeros (omega arith) whole in
    let empty : Totals 0 x q r q = record { at = below_none _ } in
    record {
      r = r;
      whole = whole_stored one 1 zeros whole';
      as_last = none ∙ sym (stored_planes one 1 zeros (omega arith) whole');
      ran = each_none (λ j. running_gate (j + 1))
          (λ k. ap (λ (w : Sharing). digits_of (columns 64 x k) (columns (n + 2) q k) w zeros) (sym (two_planes q k whole)));
      totals = totals_more empty (omega arith) whole refl (none ∙ sym first) is;
      left = λ j from. ap (planes_at j) is ∙ other_planes q 0 _ j (λ e. omega arith);
    }

module _ (i n : ℕ) (x q s s' : Planes) (last last' b u t z : Sharing) (more : i < n) (few : n < 62) (planes : Whole s)
    (b-is : b ≡ planes_at (i + 1) x) (u-is : u ≡ planes_at (i + 1) s) (z-is : MajorityWords b u last t z)
    (s-is : s' ≡ with_planes s (i + 1) (words_xor (words_xor (planes_at (i + 1) x) (planes_at (i + 1) s)) last))
    (last-is : last' ≡ words_xor last z) where
  pub summing_more : {T c d e : Place → List ℕ} → Summing i n x q s last T c d → OneSent t z (drops i T) (drops i d) (drops i e)
      → ((p : Place) → take i (e p) ≡ take i (d p)) → Summing (i + 1) n x q s' last' T c e
  summing_more so_far one kept =
      let r : Planes = so_far.r in
      let r' : Planes = with_planes r (i + 2) last' in
      let next : i + 1 + 1 ≡ i + 2 = omega arith in
      let carries : planes_at (i + 1) s ≡ planes_at (i + 1) q = so_far.left (i + 1) (omega arith) in
      let stands : planes_at (i + 1) r' ≡ planes_at (i + 1) r = other_planes r (i + 2) last' (i + 1) (λ e. omega arith) in
      record {
        r = r';
        whole = whole_stored r (i + 2) last' so_far.whole;
        as_last = sym (ap (λ (j : ℕ). planes_at j r') next ∙ stored_planes r (i + 2) last' (omega arith) so_far.whole);
        ran = each_more (λ j. running_gate (j + 1)) i so_far.ran
            (one.on (takes_running i (n + 2) x q r r' b u last t z last' (omega arith) (omega arith) so_far.whole
            b-is (u-is ∙ carries) so_far.as_last z-is last-is refl))
            kept;
        totals = totals_more (totals_kept (i + 2) last' (omega arith) (omega arith) so_far.whole so_far.totals) (omega arith) planes carries
            (so_far.as_last ∙ sym stands) s-is;
        left = λ j from. ap (planes_at j) s-is ∙ other_planes s (i + 1) _ j (λ e. omega arith) ∙ so_far.left j (omega arith);
      }

pub summing_all : {n : ℕ} {x q s s' : Planes} {last : Sharing} {T c d : Place → List ℕ} → n < 62 → Whole s
    → s' ≡ with_planes s (n + 1) (words_xor (words_xor (planes_at (n + 1) x) (planes_at (n + 1) s)) last)
    → Summing n n x q s last T c d → Running n x q s' T c d
summing_all {n = n} {x = x} {q = q} {s' = s'} few planes is all =
    let whole : n + 1 + 1 ≡ n + 2 = omega arith in
    record {
      r = all.r;
      ran = all.ran;
      totals = rw whole at (totals_more all.totals (omega arith) planes (all.left (n + 1) (omega arith)) all.as_last is);
    }

-- ---- the gate for z

pub zeroed : (s : Planes) (left right t z both v : Sharing) → Whole s → left ≡ planes_at 0 s → right ≡ planes_at 1 s
    → GateWords left right t z → both ≡ words_xor left right → v ≡ words_xor both z
    → {T c d : Place → List ℕ} → OneSent t z T c d → ZeroRan s v T c d
zeroed s left right t z both v whole left_is right_is z-is both_is v-is one = record {
  on = λ n x q r some small totals. record {
    a = with_planes s 0 v;
    whole = whole_stored s 0 v whole;
    first = sym (stored_planes s 0 v (omega arith) whole);
    ran = one.on (takes_zero n x q r s (with_planes s 0 v) left right t z both v some small whole (left_is ∙ totals.at 0 (omega arith))
        (right_is ∙ totals.at 1 some) z-is both_is v-is refl);
  };
}

-- ---- the increment

-- what its loop keeps: j gates ran, and the first j planes of o are the result's
pub record Rising (j n : ℕ) (x q r a₀ o : Planes) (carry : Sharing) (T c d : Place → List ℕ) : Type 0 where
  pub a : Planes
  pub whole : Whole a
  pub as_carry : carry ≡ planes_at j a
  pub ran : EachRan (upto raising_gate j) (raised x q r a₀ (n + 3) 1) (raised x q r a (n + 3) (j + 1)) T c d
  pub digits : (i : ℕ) → i < j → planes_at i o ≡ words_xor (total_planes (i + 2) x q r) (planes_at i a)

pub record RisingRan (j n : ℕ) (s : Planes) (first : Sharing) (o : Planes) (carry : Sharing) (T c d : Place → List ℕ) : Type 0 where
  pub on : (x q r a₀ : Planes) → Totals (n + 3) x q r s → Whole a₀ → first ≡ planes_at 0 a₀ → Rising j n x q r a₀ o carry T c d

pub rising_none : (n : ℕ) (s : Planes) (first : Sharing) (o : Planes) {T c : Place → List ℕ} → RisingRan 0 n s first o first T c c
rising_none n s first o = record {
  on = λ x q r a₀ totals whole is.
      record { a = a₀; whole = whole; as_carry = is; ran = each_none raising_gate (λ k. refl); digits = below_none _ };
}

-- one more plane of the result
digits_more : (j : ℕ) (x q r a o o' : Planes) (b carry : Sharing) → j < 64 → Whole o
    → ((i : ℕ) → i < j → planes_at i o ≡ words_xor (total_planes (i + 2) x q r) (planes_at i a))
    → b ≡ total_planes (j + 2) x q r → carry ≡ planes_at j a → o' ≡ with_planes o j (words_xor b carry)
    → (i : ℕ) → i < j + 1 → planes_at i o' ≡ words_xor (total_planes (i + 2) x q r) (planes_at i a)
digits_more j x q r a o o' b carry inside whole digits b-is carry-is is =
    below_more (λ i. planes_at i o' ≡ words_xor (total_planes (i + 2) x q r) (planes_at i a)) j
    (λ i h. ap (planes_at i) is ∙ other_planes o j (words_xor b carry) i (λ e. omega arith) ∙ digits i h)
    (ap (planes_at j) is ∙ stored_planes o j (words_xor b carry) inside whole ∙ ap₂ words_xor b-is carry-is)

module _ (j n : ℕ) (first : Sharing) (s o o' : Planes) (carry b t z : Sharing) (more : j < n) (few : n < 61) (planes : Whole o)
    (b-is : b ≡ planes_at (j + 2) s) (z-is : GateWords b carry t z) (o_is : o' ≡ with_planes o j (words_xor b carry)) where
  pub rising_more : {T c d e : Place → List ℕ} → RisingRan j n s first o carry T c d → OneSent t z (drops j T) (drops j d) (drops j e)
      → ((p : Place) → take j (e p) ≡ take j (d p)) → RisingRan (j + 1) n s first o' z T c e
  rising_more so_far one kept = record {
    on = λ x q r a₀ totals whole is.
        let rising = so_far.on x q r a₀ totals whole is in
        let a : Planes = rising.a in
        let a' : Planes = with_planes a (j + 1) z in
        let total : b ≡ total_planes (j + 2) x q r = b-is ∙ totals.at (j + 2) (omega arith) in
        let stands : (i : ℕ) → i < j + 1 → planes_at i a ≡ planes_at i a' = λ i h. sym (other_planes a (j + 1) z i (λ e. omega arith)) in
        record {
          a = a';
          whole = whole_stored a (j + 1) z rising.whole;
          as_carry = sym (stored_planes a (j + 1) z (omega arith) rising.whole);
          ran = each_more raising_gate j rising.ran
              (one.on (takes_raising (n + 3) x q r j a a' b carry t z (omega arith) (omega arith) rising.whole total rising.as_carry z-is refl))
              kept;
          digits = λ i h. digits_more j x q r a o o' b carry (omega arith) planes rising.digits total rising.as_carry o_is i h
              ∙ ap (words_xor (total_planes (i + 2) x q r)) (stands i h);
        };
  }

pub rising_all : {n : ℕ} {s : Planes} {first : Sharing} (o o' : Planes) (carry b : Sharing) {T c d : Place → List ℕ} → n < 61 → Whole o
    → b ≡ planes_at (n + 2) s → o' ≡ with_planes o n (words_xor b carry) → RisingRan n n s first o carry T c d → RaisingRan n s first o' T c d
rising_all {n = n} o o' carry b few planes b-is o_is all = record {
  on = λ x q r a₀ totals whole is.
      let rising = all.on x q r a₀ totals whole is in
      record {
        a = rising.a;
        ran = rising.ran;
        digits = digits_more n x q r rising.a o o' b carry (omega arith) planes rising.digits (b-is ∙ totals.at (n + 2) (omega arith)) rising.as_carry o_is;
      };
}
