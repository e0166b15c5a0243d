-- What one raw word and one draw do to a filling, at their place in the raw words.
use Rattle.std.specs.Prelude.{eqb, IsSome, None, Option, Some}
use Prim.Native.Nat.{ℕ, zero, suc, ◌+◌, ◌-◌, ◌≤◌, ◌<◌}
use mathlib.Core.Path.{◌≡◌, refl, sym, ap, ◌∙◌}
use mathlib.Core.Bool.{true, false}
use mathlib.Core.List.{List, [], ◌∷◌, ◌++◌, append_assoc, append-nil}
use native.Mathlib.Numerals.{add-one}
use native.Mathlib.Omega.{arith}
use borrow.Author.Tests.{lt-ltb, le-ltb, ne_eqb}
use lib.ListN.{length, drop, get_or, drop_of_length-le, set, take}
use lib.Seq.{drop-cons, take_all, take-suc-set}
use Rattle.tape.specs.declared.draws.Draw.{Draw}
use Rattle.tape.specs.Draws.{Drew, onward, suffices}
use Rattle.tape.specs.Tapes.{Filled, filled, fill, low_bits, short, taken}

module _ (e limit : ℕ) (raw : List ℕ) (i n : ℕ) where
  pub ended_here : length raw ≤ i → fill e limit (suc n) i (drop i raw) ≡ short
  unfolding fill
  ended_here h = rw drop_of_length-le

  pub fits_here : {x : ℕ} → i < length raw → x ≡ low_bits e (get_or raw i 0) → x < limit
      → fill e limit (suc n) i (drop i raw) ≡ taken x (fill e limit n (i + 1) (drop (i + 1) raw))
  unfolding fill
  fits_here h is below = rw (add-one, drop-cons raw i 0, ← is, lt-ltb)

  pub again_here : {x : ℕ} → i < length raw → x ≡ low_bits e (get_or raw i 0) → limit ≤ x
      → fill e limit (suc n) i (drop i raw) ≡ fill e limit (suc n) (i + 1) (drop (i + 1) raw)
  unfolding fill
  again_here h is above = rw (add-one, drop-cons raw i 0, ← is, le-ltb)

suffices-taken : (x : ℕ) (f : Filled) → suffices (taken x f) ≡ suffices f
unfolding suffices
suffices-taken x (filled xs used) = refl
suffices-taken x short = refl

pub fell_short : (f : Filled) → suffices f ≡ false → f ≡ short
unfolding suffices
fell_short (filled xs used) h = cc
fell_short short h = refl

-- the items in p before the others
abbrev pub joined : List ℕ → Filled → Filled
joined p (filled xs used) = filled (p ++ xs) used
joined p short = short

pub suffices-joined : (p : List ℕ) (f : Filled) → suffices (joined p f) ≡ suffices f
unfolding suffices
suffices-joined p (filled xs used) = refl
suffices-joined p short = refl

joined-taken : (p : List ℕ) (x : ℕ) (f : Filled) → joined p (taken x f) ≡ joined (p ++ (x ∷ [])) f
joined-taken p x (filled xs used) = rw append_assoc
joined-taken p x short = refl

-- a raw word that fits, and one that does not: to count what fits, while items are left
module _ (e limit : ℕ) (raw : List ℕ) (i : ℕ) {left x : ℕ} (more : 0 < left) (inside : i < length raw) (is : x ≡ low_bits e (get_or raw i 0)) where
  one_left : left ≡ suc (left - 1)
  one_left = omega arith

  pub counted_here : x < limit → suffices (fill e limit left i (drop i raw)) ≡ suffices (fill e limit (left - 1) (i + 1) (drop (i + 1) raw))
  counted_here below =
      ap (λ (n : ℕ). suffices (fill e limit n i (drop i raw))) one_left
      ∙ ap suffices (fits_here e limit raw i (left - 1) inside is below)
      ∙ suffices-taken x (fill e limit (left - 1) (i + 1) (drop (i + 1) raw))

  pub passed_here : limit ≤ x → suffices (fill e limit left i (drop i raw)) ≡ suffices (fill e limit left (i + 1) (drop (i + 1) raw))
  passed_here above =
      ap (λ (n : ℕ). suffices (fill e limit n i (drop i raw))) one_left
      ∙ ap suffices (again_here e limit raw i (left - 1) inside is above)
      ∙ ap (λ (n : ℕ). suffices (fill e limit n (i + 1) (drop (i + 1) raw))) (sym one_left)

-- at the end of the raw words: they suffice where no item is left
pub decided : (e limit i left : ℕ) (raw : List ℕ) → length raw ≤ i → suffices (fill e limit left i (drop i raw)) ≡ eqb left 0
unfolding suffices fill
decided e limit i zero raw h = refl
decided e limit i (suc n) raw h = rw (ended_here e limit raw i n h) (sym (ne_eqb (suc n) 0 (λ is. absurd (omega arith))))

-- a draw that meets the end, and one that gives an item: to count it, and to write it into a run
-- `counted` is for whoever counts by draws: `enough` counts raw words, so no proof here cites it.
module _ {e limit at left : ℕ} {raw : List ℕ} {r : Option Draw} (drew : Drew e limit at raw r) (more : 0 < left) where
  goes_on_lem : fill e limit left at (drop at raw) ≡ onward r e limit (left - 1) raw
  goes_on_lem =
      let split : left ≡ suc (left - 1) = omega arith in
      ap (λ (n : ℕ). fill e limit n at (drop at raw)) split ∙ drew.goes (left - 1)

  pub none_drawn : r ≡ None → fill e limit left at (drop at raw) ≡ short
  none_drawn is = rw is at goes_on_lem

  pub drawn : suffices (fill e limit left at (drop at raw)) ≡ true → IsSome r
  unfolding suffices
  drawn enough = go r none_drawn
    where
      go : (o : Option Draw) → (o ≡ None → fill e limit left at (drop at raw) ≡ short) → IsSome o
      go (Some d) f = refl
      go None f = let wrong : false ≡ true = rw (f refl) at enough in cc

  pub counted : {d : Draw} → r ≡ Some d
      → suffices (fill e limit left at (drop at raw)) ≡ suffices (fill e limit (left - 1) d.next (drop d.next raw))
  counted is = rw (goes_on_lem, is) (suffices-taken _ (fill e limit (left - 1) _ _))

  pub written : {d : Draw} (run : List ℕ) (i : ℕ) → r ≡ Some d → i < length run
      → joined (take i run) (fill e limit left at (drop at raw)) ≡ joined (take (i + 1) (set run i d.item)) (fill e limit (left - 1) d.next (drop d.next raw))
  written run i is inside = rw (goes_on_lem, is, add-one, take-suc-set) (joined-taken (take i run) _ (fill e limit (left - 1) _ _))

-- no item is left: the raw words suffice, and the run is full
module _ (e limit at : ℕ) {left : ℕ} (raw : List ℕ) (none : left ≡ 0) where
  complete : fill e limit left at raw ≡ filled [] at
  unfolding fill
  complete = rw none

  pub all-counted : suffices (fill e limit left at raw) ≡ true
  unfolding suffices
  all-counted = rw complete

  pub all-written : (run : List ℕ) (i : ℕ) → length run ≤ i → joined (take i run) (fill e limit left at raw) ≡ filled run at
  all-written run i h = rw (complete, take_all, append-nil)
