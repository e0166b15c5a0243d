-- Registers written one after another, each to the front of the part that it is lent.
use Prim.Native.Nat.{ℕ, suc, ◌+◌, ◌*◌, ◌-◌, ◌<◌, ◌≤◌}
use mathlib.Core.List.{List, [], ◌∷◌, ◌++◌, append_assoc, append-nil}
use mathlib.Core.Path.{◌≡◌, refl, sym, ap, ◌∙◌}
use native.Mathlib.Nat.{le_refl}
use native.Mathlib.Omega.{arith}
use borrow.Rule.Slice.PartMut.{mid_of, put_mid}
use lib.ListN.{drop, drop_of_length-le, length, length-append, length-drop, set, take, take-append-drop}
use lib.Seq.{drop_at, drop-drop, length-take-le, set_split, sets-eq, take_at}
use Rattle.circuit.proofs.LentLaw.{part_is}
use Rattle.machine.specs.declared.registers.Register.{Register}
use Rattle.machine.specs.declared.registers.Register.TheVariants.{Bits, Empty, Number}
use Rattle.layout.specs.Layout.{register_words, slots_words}

five : (r : Register) → length (register_words r) ≡ 5
five Empty = refl
five (Number r x) = refl
five (Bits l x) = refl

pub slots_length : (ss : List Register) → length (slots_words ss) ≡ 5 * length ss
unfolding slots_words
slots_length [] = refl
slots_length (s ∷ ss) = rw length-append (omega (arith, five s, slots_length ss))

slots_append : (ss ts : List Register) → slots_words (ss ++ ts) ≡ slots_words ss ++ slots_words ts
unfolding slots_words
slots_append [] ts = refl
slots_append (s ∷ ss) ts = rw (slots_append ss ts, append_assoc)

-- words p stand before the rest of u; the part from there on gets words q before its rest; so the whole has both
lent_on : (k : ℕ) (u p q d ys : List ℕ) → length p ≡ k → d ≡ p ++ drop k u
    → ys ≡ q ++ drop (length q) (mid_of k (length d - k) d)
    → put_mid k (length d - k) d ys ≡ (p ++ q) ++ drop (k + length q) u
lent_on k u p q d ys hp hd hy =
    let rest : drop k d ≡ drop k u = ap (drop k) hd ∙ drop_at p (drop k u) k hp in
    let front : take k d ≡ p = ap (take k) hd ∙ take_at p (drop k u) k hp in
    let part : ys ≡ q ++ drop (k + length q) u
    = hy ∙ ap (λ (l : List ℕ). q ++ drop (length q) l) (part_is k d ∙ rest) ∙ ap (λ (l : List ℕ). q ++ l) (drop-drop (length q) k u) in
    let none : drop (length d - k) (drop k d) ≡ []
    = drop_of_length-le (drop k d) {i = length d - k} (rw (length-drop k d) (le_refl (length d - k))) in
    ap (λ (l : List ℕ). l ++ (ys ++ drop (length d - k) (drop k d))) front
    ∙ ap (λ (l : List ℕ). p ++ (ys ++ l)) none
    ∙ ap (λ (l : List ℕ). p ++ l) (append-nil ys ∙ part)
    ∙ sym (append_assoc p q (drop (k + length q) u))

-- the words from register i on
module _ (ss : List Register) (i : ℕ) (t : List ℕ) (h : i ≤ length ss) where
  count : length (slots_words (take i ss)) ≡ 5 * i
  count = slots_length (take i ss) ∙ ap (λ (n : ℕ). 5 * n) (length-take-le i ss h)

  split : slots_words ss ++ t ≡ slots_words (take i ss) ++ (slots_words (drop i ss) ++ t)
  split =
      ap (λ (l : List Register). slots_words l ++ t) (sym (take-append-drop i ss))
      ∙ ap (λ (l : List ℕ). l ++ t) (slots_append (take i ss) (drop i ss))
      ∙ append_assoc (slots_words (take i ss)) (slots_words (drop i ss)) t

  pub from_register : drop (5 * i) (slots_words ss ++ t) ≡ slots_words (drop i ss) ++ t
  from_register =
      ap (drop (5 * i)) split ∙ drop_at (slots_words (take i ss)) (slots_words (drop i ss) ++ t) (5 * i) count

-- one register changed
pub one-changed : (ss : List Register) (d : ℕ) (r : Register) (t ws ys : List ℕ) → d < length ss → ws ≡ slots_words ss ++ t
    → ys ≡ register_words r ++ drop 5 (mid_of (5 * d) (length ws - 5 * d) ws)
    → put_mid (5 * d) (length ws - 5 * d) ws ys ≡ slots_words (set ss d r) ++ t
unfolding slots_words
one-changed ss d r t ws ys h e hy =
    let p = slots_words (take d ss) in
    let q = register_words r in
    let S = slots_words (drop (suc d) ss) in
    let place : 5 * d + length q ≡ 5 * suc d = omega (arith, five r) in
    let before : ws ≡ p ++ drop (5 * d) ws
    = e ∙ split ss d t (omega arith) ∙ ap (λ (l : List ℕ). p ++ l) (sym (ap (drop (5 * d)) e ∙ from_register ss d t (omega arith))) in
    let after : drop (5 * d + length q) ws ≡ S ++ t
    = ap (λ (n : ℕ). drop n ws) place ∙ ap (drop (5 * suc d)) e ∙ from_register ss (suc d) t (omega arith) in
    let new : slots_words (set ss d r) ≡ p ++ (q ++ S)
    = ap slots_words (set_split ss d r h) ∙ slots_append (take d ss) (r ∷ drop (suc d) ss) in
    lent_on (5 * d) ws p q ws ys (count ss d t (omega arith)) before
    (hy ∙ ap (λ (n : ℕ). q ++ drop n (mid_of (5 * d) (length ws - 5 * d) ws)) (sym (five r)))
    ∙ ap (λ (l : List ℕ). (p ++ q) ++ l) after
    ∙ sym (append_assoc (p ++ q) S t)
    ∙ ap (λ (l : List ℕ). l ++ t) (append_assoc p q S ∙ sym new)

-- three positions changed
pub positions-changed : (ss : List Register) (ws : List ℕ) (a b c : ℕ) → length ss ≡ 16 → length ws ≡ 83 → take 80 ws ≡ slots_words ss
    → set (set (set ws 80 a) 81 b) 82 c ≡ slots_words ss ++ (a ∷ b ∷ c ∷ [])
positions-changed ss ws a b c full long e =
    sets-eq (a ∷ b ∷ c ∷ []) ws 80 (omega arith) ∙ rw (drop_of_length-le ws {i = 83} (omega arith), e, append-nil)
