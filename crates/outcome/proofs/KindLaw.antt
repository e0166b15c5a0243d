-- What each accepted order leaves, by the kinds of its sources: sub-shares in range, and their value.
use Rattle.std.specs.Prelude.{Some, None, Option}
use Prim.Native.Nat.{ℕ, ◌+◌, ◌*◌, ◌-◌, ◌/◌, ◌%◌, ◌<◌, ◌≤◌, ◌^◌}
use mathlib.Core.Bool.{and-eq-true_iff, false, not, true≢false, ◌&&◌, ◌||◌}
use mathlib.Core.List.{List, [], ◌∷◌, ◌++◌}
use mathlib.Core.Path.{◌≡◌, refl, sym, ◌∙◌}
use native.Mathlib.Nat.{mod-eq_of_lt}
use native.Mathlib.Omega.{arith}
use lib.Dec.{leb}
use borrow.Author.Tests.{eqb-true, leb-false, leb-true, lt-leb, not-false}
use Rattle.ring.specs.Modular.{diff}
use Rattle.ring.specs.Rings.{modulus, quarter, ring_of, width_of}
use Rattle.ring.specs.declared.rings.Ring.{Ring}
use Rattle.ring.proofs.CongLaw.{cong_add, cong_of_eq, cong_refl, cong_trans, diff-add, diff-lt}
use Rattle.ring.proofs.RangeLaw.{width_ge, width_le, width_named}
use Rattle.gate.specs.Places.{Below, Place, parts, total}
use Rattle.gate.proofs.PlaceLaw.{each}
use Rattle.circuit.specs.Bits.{exclusive}
use Rattle.circuit.specs.Circuits.{gates_of, result}
use Rattle.circuit.specs.Orders.{addition, composition, conversion, decomposition, multiplication, scaling, shifting}
use Rattle.machine.proofs.KindLaw.{neither}
use Rattle.value.specs.Values.{lifted, rounded_up}
use Rattle.value.proofs.Counts.{decompose_count, shift_count}
use Rattle.value.proofs.ModulusLaw.{modulus_pos}
use Rattle.value.proofs.Ranges.{add-range, compose_range, convert_range, decompose_range, multiply_range, scale_range, shift_range}
use Rattle.value.proofs.SumLaw.{total_of}
use Rattle.value.proofs.Values.{adds, composes, converts, converts_small, decomposes, decomposes_small, multiplies, scales, shifts, shifts_small}
use Rattle.machine.specs.Checks.{a_number, check, is_bits, is_empty, is_number, no_ring, two_numbers}
use Rattle.machine.specs.Registers.{Kind, bits, count_at, empty, number, width_at}
use Rattle.machine.specs.Step.{dealt_shares}
use Rattle.machine.specs.Work.{number_kind}
use Rattle.outcome.proofs.CheckLaw.{Passed}
use Rattle.outcome.proofs.RegisterLaw.{Fits, value_as}

-- a kind of number, of a ring of width e
record NumberOf (k : Kind) (e : ℕ) : Type 0 where
  ring : Ring
  is : k ≡ number ring
  width : width_of ring ≡ e

module _ {k : Kind} {e : ℕ} (n : NumberOf k e) where
  at_least : 13 ≤ e
  at_least = omega (arith, width_ge n.ring, n.width)

  at_most : e ≤ 61
  at_most = omega (arith, width_le n.ring, n.width)

  positive : 0 < modulus e
  positive = modulus_pos e (omega (arith, at_least))

  number_value : (z : Place → ℕ) → value_as k z ≡ total (modulus e) z
  number_value z = rw (n.is, n.width)

  number_fits : {z : Place → ℕ} → Below (modulus e) z → Fits k z
  number_fits h = rw (n.is, n.width) h

a_number_lem : (k : Kind) → is_empty k ≡ false → is_bits k ≡ false → NumberOf k (width_at k)
a_number_lem empty h b = absurd (true≢false h)
a_number_lem (number r) h b = record { ring = r; is = refl; width = refl }
a_number_lem (bits l) h b = absurd (true≢false b)

-- the ring of a width that has one
ring_of_lem : (e : ℕ) → no_ring (ring_of e) ≡ false → NumberOf (number_kind (ring_of e)) e
ring_of_lem e = go (ring_of e) refl
  where
    go : (w : Option Ring) → ring_of e ≡ w → no_ring w ≡ false → NumberOf (number_kind w) e
    go (Some r) is h = record { ring = r; is = refl; width = sym (width_named e is) }
    go None is h = absurd (true≢false h)

-- 0 is below the modulus of every ring
pub zero_below : (e : ℕ) → no_ring (ring_of e) ≡ false → leb (modulus e) 0 ≡ false
zero_below e h = lt-leb (modulus e) 0 (positive (ring_of_lem e h))

-- 1: the number dealt
module _ (e v r₀ r₁ : ℕ) (h : Passed (check (no_ring (ring_of e)) 5 ∷ check (leb (modulus e) v) 7 ∷ [])) where
  dealt_number : NumberOf (number_kind (ring_of e)) e
  dealt_number = ring_of_lem e h.0

  pub deal_fits : leb (modulus e) r₀ || leb (modulus e) r₁ ≡ false
      → Fits (number_kind (ring_of e)) (parts (dealt_shares (modulus e) v r₀ r₁))
  deal_fits in_range =
      let items = neither (leb (modulus e) r₀) (leb (modulus e) r₁) in_range in
      number_fits dealt_number
      (each (λ i. parts (dealt_shares (modulus e) v r₀ r₁) i < modulus e)
      (leb-false _ _ items.0)
      (leb-false _ _ items.1)
      (diff-lt (modulus e) (diff (modulus e) v r₀) r₁ (positive dealt_number)))

  pub deal_value : value_as (number_kind (ring_of e)) (parts (dealt_shares (modulus e) v r₀ r₁)) ≡ v
  deal_value =
      let p = modulus e in
      let last = diff p (diff p v r₀) r₁ in
      let above = positive dealt_number in
      let turn : r₀ + r₁ + last ≡ last + r₁ + r₀ = omega arith in
      number_value dealt_number _
      ∙ total_of _
      (cong_trans (cong_of_eq turn)
      (cong_trans (cong_add (diff-add p (diff p v r₀) r₁ above) (cong_refl r₀)) (diff-add p v r₀ above)))
      ∙ mod-eq_of_lt (leb-false p v h.1.0)

-- 2 and 4: two numbers of one ring
module _ (a b : Kind) (h : Passed (two_numbers a b)) (x y : Place → ℕ) (T : Place → List ℕ) where
  abbrev p : ℕ
  p = modulus (width_at a)

  first : NumberOf a (width_at a)
  first = a_number_lem a (neither (is_empty a) (is_empty b) h.0).0 (neither (is_bits a) (is_bits b) h.1.0).0

  second : NumberOf b (width_at a)
  second =
      let other = a_number_lem b (neither (is_empty a) (is_empty b) h.0).1 (neither (is_bits a) (is_bits b) h.1.0).1 in
      rw (eqb-true (width_at a) (width_at b) (not-false _ h.1.1.0)) other

  pub add-fits : Fits a (result (addition p) x y T)
  add-fits = number_fits first (add-range p (positive first) x y T)

  pub multiply_fits : Fits a (result (multiplication p) x y T)
  multiply_fits = number_fits first (multiply_range p (positive first) x y T)

  pub add-value : value_as a (result (addition p) x y T) ≡ (value_as a x + value_as b y) % p
  add-value =
      rw (number_value first (result (addition p) x y T), number_value first x, number_value second y)
      (adds p (positive first) x y T)

  pub multiply_value : value_as a (result (multiplication p) x y T) ≡ value_as a x * value_as b y % p
  multiply_value =
      rw (number_value first (result (multiplication p) x y T), number_value first x, number_value second y)
      (multiplies p (positive first) x y T)

-- 3: a number
module _ (k : Kind) (c : ℕ) (h : Passed (a_number k ++ (check (leb (modulus (width_at k)) c) 7 ∷ []))) (x y : Place → ℕ) (T : Place → List ℕ) where
  scaled : NumberOf k (width_at k)
  scaled = a_number_lem k h.0 h.1.0

  pub scale_fits : Fits k (result (scaling (modulus (width_at k)) c) x y T)
  scale_fits = number_fits scaled (scale_range _ c (positive scaled) x y T)

  pub scale_value : value_as k (result (scaling (modulus (width_at k)) c) x y T) ≡ value_as k x * c % modulus (width_at k)
  scale_value =
      rw (number_value scaled (result (scaling (modulus (width_at k)) c) x y T), number_value scaled x)
      (scales (modulus (width_at k)) c (positive scaled) x y T)

-- 5: a number into l bits
module _ (k : Kind) (l : ℕ) (h : Passed (a_number k ++ (check (not (leb 1 l && leb l (width_at k - 2))) 7 ∷ []))) where
  cut : NumberOf k (width_at k)
  cut = a_number_lem k h.0 h.1.0

  pub count_in_range : (1 ≤ l) × (l ≤ width_at k - 2)
  count_in_range =
      let tests = (and-eq-true_iff (leb 1 l) (leb l (width_at k - 2))).0 (not-false _ h.1.1.0) in
      (leb-true _ _ tests.0, leb-true _ _ tests.1)

  pub decompose_gates : gates_of (decomposition (width_at k) l) ≡ 3 * l + 1
  decompose_gates = decompose_count (width_at k) l count_in_range.0

  module _ (x y : Place → ℕ) (T : Place → List ℕ) where
    pub decompose_fits : Fits (bits l) (result (decomposition (width_at k) l) x y T)
    decompose_fits =
        record {
          some = count_in_range.0;
          few = omega (arith, count_in_range, at_most cut);
          below = decompose_range (width_at k) l x y T;
        }

    pub decompose_value-all : exclusive (result (decomposition (width_at k) l) x y T) ≡ rounded_up (lifted (width_at k) x) % 2 ^ l
    decompose_value-all = decomposes (width_at k) l count_in_range.0 x y T

    pub decompose_value : 4 * value_as k x < modulus (width_at k)
        → exclusive (result (decomposition (width_at k) l) x y T) ≡ value_as k x % 2 ^ l
    decompose_value small =
        rw (number_value cut x)
        (decomposes_small (width_at k) l count_in_range.0 (omega (arith, count_in_range)) x y T
        (rw (number_value cut x) at small))

-- 6: a number into the ring of width f
module _ (k : Kind) (f : ℕ) (h : Passed (a_number k ++ (check (no_ring (ring_of f)) 5 ∷ []))) (x y : Place → ℕ) (T : Place → List ℕ) where
  from : NumberOf k (width_at k)
  from = a_number_lem k h.0 h.1.0

  into : NumberOf (number_kind (ring_of f)) f
  into = ring_of_lem f h.1.1.0

  pub convert_fits : Fits (number_kind (ring_of f)) (result (conversion (width_at k) f) x y T)
  convert_fits = number_fits into (convert_range (width_at k) f (omega (arith, at_least into)) x y T)

  pub convert_value-all : value_as (number_kind (ring_of f)) (result (conversion (width_at k) f) x y T)
      ≡ quarter f * diff (modulus f) (lifted (width_at k) x) (modulus (width_at k) * diff 4 0 (lifted (width_at k) x)) % modulus f
  convert_value-all =
      number_value into (result (conversion (width_at k) f) x y T) ∙ converts (width_at k) f (omega (arith, at_least into)) x y T

  pub convert_value : 4 * value_as k x < modulus (width_at k)
      → value_as (number_kind (ring_of f)) (result (conversion (width_at k) f) x y T) ≡ value_as k x % modulus f
  convert_value small =
      rw (number_value into (result (conversion (width_at k) f) x y T), number_value from x)
      (converts_small (width_at k) f (omega (arith, at_least from)) (omega (arith, at_least into)) x y T
      (rw (number_value from x) at small))

-- 7: a number, s bits down
module _ (k : Kind) (s : ℕ) (h : Passed (a_number k ++ (check (not (leb s (width_at k - 3))) 7 ∷ []))) where
  shifted : NumberOf k (width_at k)
  shifted = a_number_lem k h.0 h.1.0

  down_in_range : s ≤ width_at k - 3
  down_in_range = leb-true _ _ (not-false _ h.1.1.0)

  pub shift_gates : gates_of (shifting (width_at k) s) ≡ 3 * (width_at k - 2) + 1 + 2 * (width_at k - 2 - s)
  shift_gates = shift_count (width_at k) s (omega (arith, at_least shifted))

  module _ (x y : Place → ℕ) (T : Place → List ℕ) where
    pub shift_fits : Fits k (result (shifting (width_at k) s) x y T)
    shift_fits = number_fits shifted (shift_range (width_at k) s (omega (arith, at_least shifted)) x y T)

    pub shift_value-all : value_as k (result (shifting (width_at k) s) x y T)
        ≡ rounded_up (lifted (width_at k) x) % 2 ^ (width_at k - 2) / 2 ^ s
    shift_value-all =
        number_value shifted (result (shifting (width_at k) s) x y T)
        ∙ shifts (width_at k) s (omega (arith, at_least shifted)) down_in_range x y T

    pub shift_value : 4 * value_as k x < modulus (width_at k) → value_as k (result (shifting (width_at k) s) x y T) ≡ value_as k x / 2 ^ s
    shift_value small =
        rw (number_value shifted (result (shifting (width_at k) s) x y T), number_value shifted x)
        (shifts_small (width_at k) s (omega (arith, at_least shifted)) down_in_range x y T
        (rw (number_value shifted x) at small))

-- 8: bits into the ring of width f
module _ (k : Kind) (f : ℕ)
    (h : Passed (check (is_empty k) 3 ∷ check (is_number k) 4 ∷ check (no_ring (ring_of f)) 5 ∷ [])) (x y : Place → ℕ) (T : Place → List ℕ) where
  composed : NumberOf (number_kind (ring_of f)) f
  composed = ring_of_lem f h.1.1.0

  pub compose_fits : Fits (number_kind (ring_of f)) (result (composition f (count_at k)) x y T)
  compose_fits = number_fits composed (compose_range f (count_at k) (omega (arith, at_least composed)) x y T)

pub compose_value : (k : Kind) (f : ℕ) → Passed (check (is_empty k) 3 ∷ check (is_number k) 4 ∷ check (no_ring (ring_of f)) 5 ∷ [])
    → (x y : Place → ℕ) (T : Place → List ℕ) → Fits k x
    → value_as (number_kind (ring_of f)) (result (composition f (count_at k)) x y T) ≡ value_as k x % modulus f
compose_value empty f h x y T fits = absurd (true≢false h.0)
compose_value (number r) f h x y T fits = absurd (true≢false h.1.0)
compose_value (bits l) f h x y T fits =
    let into = composed (bits l) f h x y T in
    number_value into (result (composition f l) x y T) ∙ composes f l (omega (arith, at_least into)) x y T fits.below
