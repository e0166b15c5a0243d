-- Items out of range: one tape item by item, one list of moduli after another, and what none out of range says.
use Prim.Native.Nat.{ℕ, zero, suc, ◌+◌, ◌*◌, ◌-◌, ◌<◌, ◌≤◌, ◌^◌}
use mathlib.Core.Bool.{Bool, false, true, or_assoc, or-false, ◌||◌}
use mathlib.Core.List.{List, [], ◌∷◌, ◌++◌}
use mathlib.Core.Path.{◌≡◌, refl, ap, ap₂, sym, ◌∙◌}
use native.Mathlib.Nat.{add-zero}
use native.Mathlib.Numerals.{one-add}
use native.Mathlib.Omega.{arith}
use borrow.Author.Tests.{le-leb, leb-false, leb-true, lt-leb}
use lib.Bits.{and_le_l, and_le_r, bit_or, or_add_and, or_lt, or_shifted_r}
use lib.Dec.{leb}
use lib.ListN.{drop, get_or, length, length-replicate, replicate}
use lib.Seq.{drop-drop, get_or-drop}
use borrow.Rule.Slice.PartMut.{mid_of}
use Rattle.gate.specs.Places.{three}
use Rattle.circuit.specs.Lent.{ItemsBelow}
use Rattle.circuit.proofs.LentLaw.{part_is}
use Rattle.machine.specs.Checks.{any_bad, any_outside}
use Rattle.machine.proofs.KindLaw.{one_false, other_false}

-- n items against one modulus, from item k on
outside_next : (p n k : ℕ) (items : List ℕ) → k < n
    → any_outside (replicate (n - k) p) (drop k items) ≡ leb p (get_or items k 0) || any_outside (replicate (n - (k + 1)) p) (drop (k + 1) items)
unfolding any_outside
outside_next p n k items h =
    let more : n - k ≡ suc (n - (k + 1)) = omega arith in
    ap (λ (j : ℕ). any_outside (replicate j p) (drop k items)) more
    ∙ ap₂ (λ (x : ℕ) (l : List ℕ). leb p x || any_outside (replicate (n - (k + 1)) p) l)
    (get_or-drop k items 0 0 ∙ ap (λ (j : ℕ). get_or items j 0) (add-zero k)) (drop-drop 1 k items)

-- two words have a bit from j on where one of them has
either_high : (j a b : ℕ) → leb (2 ^ j) (bit_or a b) ≡ leb (2 ^ j) a || leb (2 ^ j) b
either_high j a b = go (leb (2 ^ j) a) (leb (2 ^ j) b) refl refl
  where
    go : (p q : Bool) → leb (2 ^ j) a ≡ p → leb (2 ^ j) b ≡ q → leb (2 ^ j) (bit_or a b) ≡ p || q
    go true q ha hb = le-leb (2 ^ j) (bit_or a b) (omega (arith, leb-true (2 ^ j) a ha, or_add_and a b, and_le_r a b))
    go false true ha hb = le-leb (2 ^ j) (bit_or a b) (omega (arith, leb-true (2 ^ j) b hb, or_add_and a b, and_le_l a b))
    go false false ha hb = lt-leb (2 ^ j) (bit_or a b) (or_lt j a b (leb-false (2 ^ j) a ha) (leb-false (2 ^ j) b hb))

-- a word with its top bit set, less p, or that word: the top bit is there where the word is p or more
module _ (w p : ℕ) (h : p ≤ 2 ^ 63) where
  pub topped_le : p ≤ bit_or w (2 ^ 63)
  topped_le = omega (arith, h, or_add_and w (2 ^ 63), and_le_l w (2 ^ 63))

  below_top : w < 2 ^ 63 → leb (2 ^ 63) (bit_or w (2 ^ 63) - p) ≡ leb p w
  below_top low = go (leb p w) refl
    where
      topped : bit_or w (2 ^ 63) ≡ 1 * 2 ^ 63 + w
      topped = or_shifted_r 1 63 w low

      go : (b : Bool) → leb p w ≡ b → leb (2 ^ 63) (bit_or w (2 ^ 63) - p) ≡ b
      go true hw = le-leb (2 ^ 63) (bit_or w (2 ^ 63) - p) (omega (arith, topped, leb-true p w hw))
      go false hw = lt-leb (2 ^ 63) (bit_or w (2 ^ 63) - p) (omega (arith, topped, leb-false p w hw))

  pub beyond_high : leb (2 ^ 63) (bit_or w (bit_or w (2 ^ 63) - p)) ≡ leb p w
  beyond_high = either_high 63 w (bit_or w (2 ^ 63) - p) ∙ go (leb (2 ^ 63) w) refl
    where
      go : (b : Bool) → leb (2 ^ 63) w ≡ b → b || leb (2 ^ 63) (bit_or w (2 ^ 63) - p) ≡ leb p w
      go true hw = sym (le-leb p w (omega (arith, h, leb-true (2 ^ 63) w hw)))
      go false hw = below_top (leb-false (2 ^ 63) w hw)

sorted : (a₀ a₁ a₂ b₀ b₁ b₂ : Bool) → (a₀ || b₀) || ((a₁ || b₁) || (a₂ || b₂)) ≡ (a₀ || (a₁ || a₂)) || (b₀ || (b₁ || b₂))
sorted true a₁ a₂ b₀ b₁ b₂ = refl
sorted false true a₂ true b₁ b₂ = refl
sorted false true a₂ false b₁ b₂ = refl
sorted false false true true b₁ b₂ = refl
sorted false false true false true b₂ = refl
sorted false false true false false b₂ = refl
sorted false false false b₀ b₁ b₂ = refl

-- three tapes from item k on
bad_next : (p n k : ℕ) (t₀ t₁ t₂ : List ℕ) → k < n
    → any_bad (replicate (n - k) p) (three (drop k t₀) (drop k t₁) (drop k t₂))
    ≡ (leb p (get_or t₀ k 0) || (leb p (get_or t₁ k 0) || leb p (get_or t₂ k 0)))
    || any_bad (replicate (n - (k + 1)) p) (three (drop (k + 1) t₀) (drop (k + 1) t₁) (drop (k + 1) t₂))
unfolding any_bad
bad_next p n k t₀ t₁ t₂ h =
    let a : List ℕ → Bool = λ t. leb p (get_or t k 0) in
    let b : List ℕ → Bool = λ t. any_outside (replicate (n - (k + 1)) p) (drop (k + 1) t) in
    rw (outside_next p n k t₀ h, outside_next p n k t₁ h, outside_next p n k t₂ h) (sorted (a t₀) (a t₁) (a t₂) (b t₀) (b t₁) (b t₂))

-- the words of the first k items together have a bit from j on where one of these is out of range: one more of each tape, and the end
module _ (j p n k all : ℕ) (t₀ t₁ t₂ : List ℕ) {b : Bool}
    (h : b ≡ leb (2 ^ j) all || any_bad (replicate (n - k) p) (three (drop k t₀) (drop k t₁) (drop k t₂))) where
  pub high_on : (x₀ x₁ x₂ : ℕ) → leb (2 ^ j) x₀ ≡ leb p (get_or t₀ k 0) → leb (2 ^ j) x₁ ≡ leb p (get_or t₁ k 0) → leb (2 ^ j) x₂ ≡ leb p (get_or t₂ k 0)
      → k < n
      → b ≡ leb (2 ^ j) (bit_or all (bit_or x₀ (bit_or x₁ x₂)))
      || any_bad (replicate (n - (k + 1)) p) (three (drop (k + 1) t₀) (drop (k + 1) t₁) (drop (k + 1) t₂))
  high_on x₀ x₁ x₂ e₀ e₁ e₂ below =
      let rest : Bool = any_bad (replicate (n - (k + 1)) p) (three (drop (k + 1) t₀) (drop (k + 1) t₁) (drop (k + 1) t₂)) in
      let item : Bool = leb p (get_or t₀ k 0) || (leb p (get_or t₁ k 0) || leb p (get_or t₂ k 0)) in
      let high : leb (2 ^ j) (bit_or x₀ (bit_or x₁ x₂)) ≡ item
      = either_high j x₀ (bit_or x₁ x₂) ∙ ap₂ ◌||◌ e₀ (either_high j x₁ x₂ ∙ ap₂ ◌||◌ e₁ e₂) in
      h ∙ ap (λ (q : Bool). leb (2 ^ j) all || q) (bad_next p n k t₀ t₁ t₂ below)
      ∙ sym (or_assoc (leb (2 ^ j) all) item rest)
      ∙ ap (λ (q : Bool). q || rest) (sym (either_high j all (bit_or x₀ (bit_or x₁ x₂)) ∙ ap (λ (q : Bool). leb (2 ^ j) all || q) high))

  pub high_end : n ≤ k → leb (2 ^ j) all ≡ b
  unfolding any_bad any_outside
  high_end past =
      let none : n - k ≡ 0 = omega arith in
      sym (h ∙ ap (λ (i : ℕ). leb (2 ^ j) all || any_bad (replicate i p) (three (drop k t₀) (drop k t₁) (drop k t₂))) none ∙ or-false (leb (2 ^ j) all))

outside_append : (ms ns items : List ℕ) → any_outside (ms ++ ns) items ≡ any_outside ms items || any_outside ns (drop (length ms) items)
unfolding any_outside
outside_append [] ns items = refl
outside_append (m ∷ ms) ns items =
    let more : drop (length ms) (drop 1 items) ≡ drop (suc (length ms)) items
    = drop-drop (length ms) 1 items ∙ ap (λ (j : ℕ). drop j items) (one-add (length ms)) in
    ap (λ (b : Bool). leb m (get_or items 0 0) || b)
    (outside_append ms ns (drop 1 items) ∙ ap (λ (l : List ℕ). any_outside ms (drop 1 items) || any_outside ns l) more)
    ∙ sym (or_assoc (leb m (get_or items 0 0)) (any_outside ms (drop 1 items)) (any_outside ns (drop (suc (length ms)) items)))

-- n items of one modulus, then others
then_outside : (n p : ℕ) (ns items : List ℕ) → any_outside (replicate n p ++ ns) items ≡ any_outside (replicate n p) items || any_outside ns (drop n items)
then_outside n p ns items =
    outside_append (replicate n p) ns items
    ∙ ap (λ (j : ℕ). any_outside (replicate n p) items || any_outside ns (drop j items)) (length-replicate n p)

module _ (n p : ℕ) (ns t₀ t₁ t₂ : List ℕ) where
  then_bad : any_bad (replicate n p ++ ns) (three t₀ t₁ t₂)
      ≡ any_bad (replicate n p) (three t₀ t₁ t₂) || any_bad ns (three (drop n t₀) (drop n t₁) (drop n t₂))
  unfolding any_bad
  then_bad =
      let a : List ℕ → Bool = any_outside (replicate n p) in
      let b : List ℕ → Bool = λ t. any_outside ns (drop n t) in
      rw (then_outside n p ns t₀, then_outside n p ns t₁, then_outside n p ns t₂) (sorted (a t₀) (a t₁) (a t₂) (b t₀) (b t₁) (b t₂))

  -- the others on the parts from n on
  pub bad_parts : {a b : Bool} → a ≡ any_bad (replicate n p) (three t₀ t₁ t₂)
      → b ≡ any_bad ns (three (mid_of n (length t₀ - n) t₀) (mid_of n (length t₁ - n) t₁) (mid_of n (length t₂ - n) t₂))
      → a || b ≡ any_bad (replicate n p ++ ns) (three t₀ t₁ t₂)
  bad_parts e f = ap₂ ◌||◌ e (f ∙ rw (part_is n t₀, part_is n t₁, part_is n t₂)) ∙ sym then_bad

-- none out of range
below : (p n : ℕ) (t : List ℕ) → any_outside (replicate n p) t ≡ false → (k : ℕ) → k < n → get_or t k 0 < p
unfolding any_outside
below p zero t e k h = omega arith
below p (suc n) t e zero h = leb-false p (get_or t 0 0) (one_false _ _ e)
below p (suc n) t e (suc k) h =
    rw (get_or-drop 1 t k 0 ∙ ap (λ (j : ℕ). get_or t j 0) (one-add k)) at
    (below p n (drop 1 t) (other_false (leb p (get_or t 0 0)) _ e) k (omega arith))

pub items_below : (p n : ℕ) {t₀ t₁ t₂ : List ℕ} → any_bad (replicate n p) (three t₀ t₁ t₂) ≡ false → ItemsBelow p n t₀ t₁ t₂
unfolding any_bad
items_below p n {t₀} {t₁} {t₂} e =
    let rest = other_false (any_outside (replicate n p) t₀) _ e in
    record {
      zero = below p n t₀ (one_false _ _ e);
      one = below p n t₁ (one_false _ _ rest);
      two = below p n t₂ (other_false (any_outside (replicate n p) t₁) _ rest);
    }

pub both_below : (b n p : ℕ) {t₀ t₁ t₂ : List ℕ} → any_bad (replicate b 2 ++ replicate n p) (three t₀ t₁ t₂) ≡ false
    → ItemsBelow 2 b t₀ t₁ t₂ × ItemsBelow p n (drop b t₀) (drop b t₁) (drop b t₂)
both_below b n p {t₀} {t₁} {t₂} e =
    let f = sym (then_bad b 2 (replicate n p) t₀ t₁ t₂) ∙ e in (
      items_below 2 b (one_false _ _ f),
      items_below p n (other_false (any_bad (replicate b 2) (three t₀ t₁ t₂)) _ f),
    )
