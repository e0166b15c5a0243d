-- Words of 64 figures and their planes: a figure a row, and two a row.
use Prim.Native.Nat.{ℕ, zero-le, ◌+◌, ◌*◌, ◌-◌, ◌/◌, ◌%◌, ◌<◌, ◌≤◌, ◌^◌}
use mathlib.Core.List.{List}
use mathlib.Core.Path.{◌≡◌, ap, ap₂, refl, sym, ◌∙◌}
use native.Mathlib.Nat.{add-mul-div_right, div-eq_of_lt, mod-eq_of_lt, mod-lt, zero-add}
use native.Mathlib.Omega.{arith}
use borrow.Author.Count.{below_more}
use borrow.Rule.Slice.PartMut.{mid_of, put_mid}
use lib.ListN.{get_or, length, set}
use lib.Pow.{pow_mono, pow_pos, shl_exact}
use lib.Seq.{get_or-set_other, get_or-set_same}
use Rattle.ring.specs.Rings.{bit_of, modulus, modulus_of, width_of}
use Rattle.ring.specs.declared.rings.Ring.{Ring}
use Rattle.ring.proofs.RangeLaw.{sized, sized_gt, sized_lt}
use Rattle.circuit.specs.Bits.{gather}
use Rattle.circuit.proofs.BitsLaw.{bit_lt, bit_none, gather-at, gather-bits, gather-ends, gather_same, stored_low}
use Rattle.planes.specs.Planes.{AllBelow, Copied, NoneFrom, PlanesOf, Split, four_times_at, words_at}
use Rattle.planes.specs.Squares.{BlocksTransposed, Transposed, cell}
use Rattle.planes.proofs.CellLaw.{bit_above, bit_shr}
use Rattle.planes.proofs.PartLaw.{mid_at, put_after, put_at}
use Rattle.planes.proofs.TurnLaw.{block_at, halved}

-- a word is known by its bits
from_bits : (v : ℕ) {b : ℕ → ℕ} → v < 2 ^ 64 → ((j : ℕ) → j < 64 → b j ≡ bit_of v j) → gather 64 b ≡ v
from_bits v small same = gather_same 64 same ∙ gather-bits 64 v ∙ mod-eq_of_lt small

-- a word without a bit is 0
no_bits : (w : ℕ) → w < 2 ^ 64 → ((k : ℕ) → k < 64 → bit_of w k ≡ 0) → w ≡ 0
unfolding gather
no_bits w small none = sym (from_bits w small (λ k h. refl)) ∙ gather-ends 0 64 (bit_of w) (λ k from h. none k h)

-- ---- a figure a row

pub planes_are : {rows y : List ℕ} (v : ℕ → ℕ) → ((k : ℕ) → k < 64 → get_or rows k 0 ≡ v k) → ((k : ℕ) → k < 64 → v k < 2 ^ 64)
    → Transposed rows y → PlanesOf v y
planes_are v same small turned = record {
  at = λ k inside. from_bits (v k) (small k inside) (λ j h. turned.is k j inside h ∙ ap (λ (w : ℕ). bit_of w j) (same k inside));
}

pub rows_are : {o rows z : List ℕ} → Transposed o rows → Copied 64 rows z → ((k : ℕ) → k < 64 → get_or z k 0 < 2 ^ 64) → PlanesOf (words_at z) o
rows_are {z = z} turned same small = record {
  at = λ k inside.
      from_bits (get_or z k 0) (small k inside)
      (λ j h. sym (turned.is j k h inside) ∙ ap (λ (w : ℕ). bit_of w j) (sym (same.at k inside)));
}

-- one more word of a run
pub row_more : (y : List ℕ) (k w : ℕ) (v : ℕ → ℕ) → k < length y → ((i : ℕ) → i < k → get_or y i 0 ≡ v i) → w ≡ v k
    → (i : ℕ) → i < k + 1 → get_or (set y k w) i 0 ≡ v i
row_more y k w v inside done e =
    below_more (λ i. get_or (set y k w) i 0 ≡ v i) k
    (λ i h. get_or-set_other y k i w 0 (λ same. omega arith) ∙ done i h) (get_or-set_same y k w 0 inside ∙ e)

-- ---- two figures a row: k below bit 32, and 32 + k from there on

pair_high : (low high : ℕ) → low < 2 ^ 32 → (j : ℕ) → bit_of (low + high * 2 ^ 32) (j + 32) ≡ bit_of high j
pair_high low high small j =
    let upper : (low + high * 2 ^ 32) / 2 ^ 32 ≡ high
    = add-mul-div_right low high (pow_pos 32) ∙ ap (λ (n : ℕ). n + high) (div-eq_of_lt small) ∙ zero-add high in
    sym (bit_shr (low + high * 2 ^ 32) 32 j) ∙ ap (λ (w : ℕ). bit_of w j) upper

-- as the code puts it together
pub pair_shifted : {high : ℕ} → high < 2 ^ 32 → (high * 2 ^ 32) % 2 ^ 64 ≡ high * 2 ^ 32
pair_shifted small = shl_exact 32 32 64 small (omega arith)

-- the first n rows hold two words each, and those from 32 on hold none
pub record Paired (n : ℕ) (v : ℕ → ℕ) (y : List ℕ) : Type 0 where
  pub two : (k : ℕ) → k < n → get_or y k 0 ≡ v k + v (32 + k) * 2 ^ 32
  pub none : NoneFrom 32 y

pub paired_more : (y : List ℕ) (k w : ℕ) (v : ℕ → ℕ) → k < 32 → length y ≡ 64 → Paired k v y → w ≡ v k + v (32 + k) * 2 ^ 32
    → Paired (k + 1) v (set y k w)
paired_more y k w v inside long done e =
    record {
      two = row_more y k w (λ i. v i + v (32 + i) * 2 ^ 32) (omega arith) done.two e;
      none = record { at = λ j from h. get_or-set_other y k j w 0 (λ same. omega arith) ∙ done.none.at j from h };
    }

-- rows of two words each, and planes: column 32 u + c of plane j is column 32 u + j of row c
module _ (v : ℕ → ℕ) (rows planes : List ℕ) (small : (k : ℕ) → k < 64 → v k < 2 ^ 32)
    (two : (c : ℕ) → c < 32 → get_or rows c 0 ≡ v c + v (32 + c) * 2 ^ 32) (above : NoneFrom 32 planes)
    (turned : (u j c : ℕ) → u * 32 + 32 ≤ 64 → j < 32 → c < 32 → cell planes j (u * 32 + c) ≡ cell rows c (u * 32 + j)) where
  bit_at : (u j c k : ℕ) → u * 32 + 32 ≤ 64 → j < 32 → c < 32 → k ≡ u * 32 + c → {i : ℕ} → u * 32 + j ≡ i
      → bit_of (v c + v (32 + c) * 2 ^ 32) i ≡ bit_of (v k) j → bit_of (get_or planes j 0) k ≡ bit_of (v k) j
  bit_at u j c k room hj hc at place same =
      ap (bit_of (get_or planes j 0)) at ∙ turned u j c room hj hc ∙ ap₂ bit_of (two c hc) place ∙ same

  low_bits : (k j : ℕ) → k < 64 → j < 32 → bit_of (get_or planes j 0) k ≡ bit_of (v k) j
  low_bits k j inside h =
      halved k 32 inside
      (λ near. bit_at 0 j k k (omega arith) h near (omega arith) (omega arith) (stored_low 32 j (v k) (v (32 + k)) h))
      (λ c at far. bit_at 1 j c k (omega arith) h far (omega arith) (omega arith)
      (pair_high (v c) (v (32 + c)) (small c (omega arith)) j ∙ ap (λ (n : ℕ). bit_of (v n) j) (sym at)))

  paired_planes : PlanesOf v planes
  paired_planes = record {
    at = λ k inside.
        from_bits (v k) (omega (arith, small k inside)) (λ j h. halved j 32 h (low_bits k j inside)
        (λ i at far.
        let there : 32 ≤ j = omega arith in
        ap (λ (n : ℕ). bit_of n k) (above.at j there h) ∙ bit_none k ∙ sym (bit_above 32 (v k) j (small k inside) there)));
  }

-- 32 rows transposed and put back: planes from rows, or rows from planes
module _ (a ys : List ℕ) (long : length a ≡ 64) (part : length ys ≡ 32) (turned : BlocksTransposed 32 32 (mid_of 0 32 a) ys) where
  abbrev back : List ℕ
  back = put_mid 0 32 a ys

  half_turned : (u j c : ℕ) → u * 32 + 32 ≤ 64 → j < 32 → c < 32 → cell back j (u * 32 + c) ≡ cell a c (u * 32 + j)
  half_turned u j c room hj hc =
      ap (λ (w : ℕ). bit_of w (u * 32 + c)) (ap (λ (n : ℕ). get_or back n 0) (sym (zero-add j)) ∙ put_at 0 32 a ys zero-le j (omega arith))
      ∙ block_at turned 0 u j c hj hc (omega arith) room (omega arith) refl (omega arith) refl
      ∙ ap (λ (w : ℕ). bit_of w (u * 32 + j)) (mid_at 0 32 a c hc ∙ ap (λ (n : ℕ). get_or a n 0) (zero-add c))

  above : {v : ℕ → ℕ} → Paired 32 v a → (j : ℕ) → 32 ≤ j → j < 64 → get_or back j 0 ≡ 0
  above rows j from h =
      let place : 32 + (j - 32) ≡ j = omega arith in
      ap (λ (n : ℕ). get_or back n 0) (sym place) ∙ put_after 0 32 a ys zero-le (omega arith) part (j - 32)
      ∙ ap (λ (n : ℕ). get_or a n 0) place ∙ rows.none.at j from h

  pub halves_low : AllBelow (2 ^ 64) ys → (k : ℕ) → k < 32 → get_or back k 0 < 2 ^ 64
  halves_low small k near =
      rw (ap (λ (n : ℕ). get_or back n 0) (sym (zero-add k)) ∙ put_at 0 32 a ys zero-le k (omega arith)) (small.at k (omega arith))

  pub halves_small : (v : ℕ → ℕ) → Paired 32 v a → AllBelow (2 ^ 64) ys → AllBelow (2 ^ 64) back
  halves_small v rows small = record {
    at = λ j inside. halved j 32 inside
        (halves_low small j)
        (λ i at far. rw (above rows j (omega arith) inside) (omega arith));
  }

  pub halves_are : (v : ℕ → ℕ) → ((k : ℕ) → k < 64 → v k < 2 ^ 32) → Paired 32 v a → PlanesOf v back
  halves_are v small rows = paired_planes v a back small rows.two (record { at = above rows }) half_turned

  pub halves_back : (z : List ℕ) → NoneFrom 32 a → Split 32 back z → ((k : ℕ) → k < 32 → get_or back k 0 < 2 ^ 64) → PlanesOf (words_at z) a
  halves_back z above split words =
      paired_planes (words_at z) back a small (λ c h. omega (arith, split.low c h, split.high c h)) above
      (λ u j c room hj hc. sym (half_turned u c j room hc hj))
    where
      small : (k : ℕ) → k < 64 → get_or z k 0 < 2 ^ 32
      small k inside =
          halved k 32 inside (λ near. omega (arith, split.low k near))
          (λ c at far. rw at (omega (arith, split.high c far, words c far)))

-- figures below 2^e have no planes from e on
pub planes_none : (e : ℕ) (v : ℕ → ℕ) {y : List ℕ} → PlanesOf v y → ((k : ℕ) → v k < 2 ^ e) → AllBelow (2 ^ 64) y → NoneFrom e y
planes_none e v {y} all small words = record {
  at = λ j from h. no_bits (get_or y j 0) (words.at j h)
      (λ k inside. sym (gather-at 64 (λ i. bit_of (get_or y i 0) k) (λ i. bit_lt (get_or y i 0) k) j h)
      ∙ ap (λ (w : ℕ). bit_of w j) (all.at k inside) ∙ bit_above e (v k) j (small k) from);
}

-- ---- four times a figure

pub four_times_lt : (r : Ring) (a : List ℕ) (k : ℕ) → four_times_at (modulus_of r) a k < 2 ^ 61
four_times_lt r a k =
    let some : 0 < modulus_of r = omega (arith, sized_gt (sized r refl refl)) in
    omega (arith, mod-lt (4 * get_or a k 0) some, sized_lt (sized r refl refl))

-- it has the ring's width, and so at most 32 bits where the ring has
pub width_lt : (r : Ring) (a : List ℕ) (k : ℕ) → four_times_at (modulus_of r) a k < 2 ^ width_of r
unfolding modulus
width_lt r a k =
    let some : 0 < modulus_of r = omega (arith, sized_gt (sized r refl refl)) in
    omega (arith, mod-lt (4 * get_or a k 0) some)

pub narrow_lt : (r : Ring) (a : List ℕ) (k : ℕ) → width_of r ≤ 32 → four_times_at (modulus_of r) a k < 2 ^ 32
narrow_lt r a k narrow = omega (arith, width_lt r a k, pow_mono {j = 32} narrow)
