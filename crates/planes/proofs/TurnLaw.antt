-- Exchanged blocks make a transposed square: one law a level, from blocks of h rows and columns to blocks of 2 h.
use Prim.Native.Nat.{ℕ, ◌+◌, ◌*◌, ◌-◌, ◌<◌, ◌≤◌}
use mathlib.Core.Logic.{⊎_elim}
use mathlib.Core.Path.{◌≡◌, ap, ap₂, refl, ◌∙◌}
use mathlib.Core.List.{List}
use native.Mathlib.Nat.{eq-zero-or-pos, mul-le-mul_right}
use borrow.Author.Count.{below_more}
use native.Mathlib.Omega.{arith}
use lib.ListN.{get_or, length, set, length-set}
use lib.Seq.{get_or-set_same, get_or-set_other}
use Rattle.ring.specs.Rings.{bit_of}
use Rattle.planes.specs.Squares.{BlocksTransposed, Exchanged, Levelled, Striped, Transposed, cell, lower_row, upper_row}
use Rattle.planes.proofs.CellLaw.{lower_kept, lower_new, upper_kept, upper_new}

-- a block, at indices that are what they should be
pub block_at : {n height : ℕ} {e a : List ℕ} → BlocksTransposed n height e a → {x y x' y' : ℕ} (q u r l : ℕ)
    → r < n → l < n → q * n + n ≤ height → u * n + n ≤ 64
    → x ≡ q * n + r → y ≡ u * n + l → x' ≡ q * n + l → y' ≡ u * n + r → cell a x y ≡ cell e x' y'
block_at t q u r l hr hl hq hu ex ey ex' ey' = rw (ex, ey, ex', ey') (t.is q u r l hr hl hq hu)

-- ---- the pairs of one block

-- two stores leave the others
others : (w : List ℕ) (A B : ℕ) {i j x : ℕ} → (x ≡ i → ⊥) → (x ≡ j → ⊥) → get_or (set (set w i A) j B) x 0 ≡ get_or w x 0
others w A B {i} {j} {x} ne-i ne-j = get_or-set_other (set w i A) j x B 0 ne-j ∙ get_or-set_other w i x A 0 ne-i

module _ {h m at n A B : ℕ} {before now : List ℕ} (done : Exchanged h m at n before now) (more : n < h) (room : at + 2 * h ≤ length now)
    (is-A : A ≡ upper_row h m (get_or now (at + n) 0) (get_or now (at + h + n) 0))
    (is-B : B ≡ lower_row h m (get_or now (at + n) 0) (get_or now (at + h + n) 0)) where
  abbrev after : List ℕ
  after = set (set now (at + n) A) (at + h + n) B

  own : get_or now (at + n) 0 ≡ get_or before (at + n) 0
  own = done.middle (at + n) (omega arith) (omega arith)

  far : get_or now (at + h + n) 0 ≡ get_or before (at + h + n) 0
  far = done.last (at + h + n) (omega arith)

  new_upper : get_or after (at + n) 0 ≡ upper_row h m (get_or before (at + n) 0) (get_or before (at + h + n) 0)
  new_upper =
      get_or-set_other (set now (at + n) A) (at + h + n) (at + n) B 0 (λ e. omega arith)
      ∙ get_or-set_same now (at + n) A 0 (omega arith)
      ∙ is-A ∙ ap₂ (upper_row h m) own far

  new_lower : get_or after (at + h + n) 0 ≡ lower_row h m (get_or before (at + n) 0) (get_or before (at + h + n) 0)
  new_lower =
      get_or-set_same (set now (at + n) A) (at + h + n) B 0 (omega (arith, length-set now (at + n) A))
      ∙ is-B ∙ ap₂ (lower_row h m) own far

  pub one_exchanged : Exchanged h m at (n + 1) before after
  one_exchanged = record {
    upper =
        below_more (λ l. get_or after (at + l) 0 ≡ upper_row h m (get_or before (at + l) 0) (get_or before (at + h + l) 0)) n
        (λ l below. others now A B (λ e. omega arith) (λ e. omega arith) ∙ done.upper l below) new_upper;
    lower =
        below_more (λ l. get_or after (at + h + l) 0 ≡ lower_row h m (get_or before (at + l) 0) (get_or before (at + h + l) 0)) n
        (λ l below. others now A B (λ e. omega arith) (λ e. omega arith) ∙ done.lower l below) new_lower;
    first = λ x below. others now A B (λ e. omega arith) (λ e. omega arith) ∙ done.first x below;
    middle = λ x from below. others now A B (λ e. omega arith) (λ e. omega arith) ∙ done.middle x (omega arith) below;
    last = λ x from. others now A B (λ e. omega arith) (λ e. omega arith) ∙ done.last x (omega arith);
  }

-- ---- the blocks of one level

module _ {h m n : ℕ} {before now after : List ℕ} (done : Levelled h m n before now) (one : Exchanged h m (n * (2 * h)) h now after) where
  -- a block before the one at hand ends where that one starts
  ends : (q : ℕ) → q < n → q * (2 * h) + 2 * h ≤ n * (2 * h)
  ends q below = omega (arith, mul-le-mul_right (2 * h) below)

  whole : (x : ℕ) → n * (2 * h) ≤ x → get_or now x 0 ≡ get_or before x 0
  whole = done.rest

  pub one_levelled : Levelled h m (n + 1) before after
  one_levelled = record {
    upper = λ q l below in_block.
        below_more (λ q. get_or after (q * (2 * h) + l) 0 ≡ upper_row h m (get_or before (q * (2 * h) + l) 0) (get_or before (q * (2 * h) + h + l) 0)) n
        (λ q earlier. one.first (q * (2 * h) + l) (omega (arith, ends q earlier)) ∙ done.upper q l earlier in_block)
        (one.upper l in_block ∙ ap₂ (upper_row h m) (whole _ (omega arith)) (whole _ (omega arith))) q below;
    lower = λ q l below in_block.
        below_more (λ q. get_or after (q * (2 * h) + h + l) 0 ≡ lower_row h m (get_or before (q * (2 * h) + l) 0) (get_or before (q * (2 * h) + h + l) 0)) n
        (λ q earlier. one.first (q * (2 * h) + h + l) (omega (arith, ends q earlier)) ∙ done.lower q l earlier in_block)
        (one.lower l in_block ∙ ap₂ (lower_row h m) (whole _ (omega arith)) (whole _ (omega arith))) q below;
    rest = λ x from. one.last x (omega arith) ∙ done.rest x (omega arith);
  }

-- ---- the levels

pub single_bits : (height : ℕ) (w : List ℕ) → BlocksTransposed 1 height w w
single_bits height w = record {
  is = λ q u r l hr hl hq hu.
      let er : r ≡ 0 = omega arith in
      let el : l ≡ 0 = omega arith in
      rw (er, el) refl;
}

-- a number below 2 h is below h, or h past one
pub halved : {Goal : Type 0} (r h : ℕ) → r < 2 * h → (r < h → Goal) → ((k : ℕ) → r ≡ h + k → k < h → Goal) → Goal
halved r h below low high = ⊎_elim (λ e. high (r - h) (omega arith) (omega arith)) (λ p. low (omega arith)) (eq-zero-or-pos (h - r))

module _ {h m n height : ℕ} {e mid after : List ℕ} (stripes : Striped h m) (whole : n * (2 * h) ≡ height)
    (turned : BlocksTransposed h height e mid) (levelled : Levelled h m n mid after) where
  -- a block that ends by the last row is one of the n
  inside : (q : ℕ) → q * (2 * h) + 2 * h ≤ height → 0 < h → q < n
  inside q room some = ⊎_elim
      (λ none. absurd (outside none))
      (λ p. omega arith)
      (eq-zero-or-pos (n - q))
    where
      outside : n - q ≡ 0 → ⊥
      outside none =
          let past : n ≤ q = omega arith in
          omega (arith, mul-le-mul_right (2 * h) past)

  module _ (q u r l : ℕ) (hr : r < h) (hl : l < h) (hq : q * (2 * h) + 2 * h ≤ height) (hu : u * (2 * h) + 2 * h ≤ 64) where
    now : q < n
    now = inside q hq (omega arith)

    mask_here : bit_of m (u * (2 * h) + l) ≡ 0
    mask_here = stripes.even u l hl

    mask-far : bit_of m (u * (2 * h) + l + h) ≡ 1
    mask-far = stripes.odd u l hl hu

    upper-left : cell after (q * (2 * h) + r) (u * (2 * h) + l) ≡ cell e (q * (2 * h) + l) (u * (2 * h) + r)
    upper-left =
        ap (λ (w : ℕ). bit_of w (u * (2 * h) + l)) (levelled.upper q r now hr)
        ∙ upper_kept h m _ _ (u * (2 * h) + l) mask_here
        ∙ block_at turned (2 * q) (2 * u) r l hr hl (omega arith) (omega arith) (omega arith) (omega arith) (omega arith) (omega arith)

    upper_right : cell after (q * (2 * h) + r) (u * (2 * h) + l + h) ≡ cell e (q * (2 * h) + (h + l)) (u * (2 * h) + r)
    upper_right =
        ap (λ (w : ℕ). bit_of w (u * (2 * h) + l + h)) (levelled.upper q r now hr)
        ∙ upper_new h m _ _ (u * (2 * h) + l) (omega arith) mask-far
        ∙ block_at turned (2 * q + 1) (2 * u) r l hr hl (omega arith) (omega arith) (omega arith) (omega arith) (omega arith) (omega arith)

    lower-left : cell after (q * (2 * h) + h + r) (u * (2 * h) + l) ≡ cell e (q * (2 * h) + l) (u * (2 * h) + (h + r))
    lower-left =
        ap (λ (w : ℕ). bit_of w (u * (2 * h) + l)) (levelled.lower q r now hr)
        ∙ lower_new h m _ _ (u * (2 * h) + l) (omega arith) mask-far
        ∙ block_at turned (2 * q) (2 * u + 1) r l hr hl (omega arith) (omega arith) (omega arith) (omega arith) (omega arith) (omega arith)

    lower_right : cell after (q * (2 * h) + h + r) (u * (2 * h) + l + h) ≡ cell e (q * (2 * h) + (h + l)) (u * (2 * h) + (h + r))
    lower_right =
        ap (λ (w : ℕ). bit_of w (u * (2 * h) + l + h)) (levelled.lower q r now hr)
        ∙ lower_kept h m _ _ (u * (2 * h) + l + h) (rw next (stripes.even (u + 1) l hl))
        ∙ block_at turned (2 * q + 1) (2 * u + 1) r l hr hl (omega arith) (omega arith) (omega arith) (omega arith) (omega arith) (omega arith)
      where
        next : u * (2 * h) + l + h + h ≡ (u + 1) * (2 * h) + l
        next = omega arith

  pub doubled : BlocksTransposed (2 * h) height e after
  doubled = record {
    is = λ q u r l hr hl hq hu.
        halved r h hr
        (λ r-low. halved l h hl
        (λ l-low. upper-left q u r l r-low l-low hq hu)
        (λ k l-is k-low.
        let there : u * (2 * h) + l ≡ u * (2 * h) + k + h = omega arith in
        rw (there, l-is) (upper_right q u r k r-low k-low hq hu)))
        (λ i r-is i-low. halved l h hl
        (λ l-low.
        let row : q * (2 * h) + r ≡ q * (2 * h) + h + i = omega arith in
        rw (row, r-is) (lower-left q u i l i-low l-low hq hu))
        (λ k l-is k-low.
        let row : q * (2 * h) + r ≡ q * (2 * h) + h + i = omega arith in
        let there : u * (2 * h) + l ≡ u * (2 * h) + k + h = omega arith in
        rw (row, there, l-is, r-is) (lower_right q u i k i-low k-low hq hu)));
  }

pub whole_square : {before after : List ℕ} → BlocksTransposed 64 64 before after → Transposed before after
whole_square t = record { is = λ r c hr hc. block_at t 0 0 c r hc hr (omega arith) (omega arith) (omega arith) (omega arith) (omega arith) (omega arith) }
