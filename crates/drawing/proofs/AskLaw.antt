-- Arguments: numbers read as one field, and names.
use Rattle.std.specs.Prelude.{None, Some, Option}
use Rattle.std.specs.Option.{option_and_then}
use Prim.Native.Nat.{ℕ, ◌+◌, ◌-◌, ◌*◌, ◌≤◌, ◌^◌}
use mathlib.Core.Path.{◌≡◌, refl, ap, sym, ◌∙◌}
use mathlib.Core.Bool.{Bool, true, false, ◌&&◌}
use mathlib.Core.List.{List, [], ◌∷◌, ◌++◌, append_assoc, append-nil}
use native.Mathlib.Omega.{arith}
use borrow.Author.Tests.{eqb-true, eqb-false, ltb-true, ne_eqb}
use lib.Dec.{eqb, ltb}
use lib.ListN.{drop, drop_of_length-le, length}
use Rattle.line.specs.Lines.{fits, is_digit, number_from, number_of}
use Rattle.line.specs.Readings.{comma_on, digit_on, fields_on, read, read_on}
use Rattle.line.specs.declared.readings.Fields.{Fields}
use Rattle.line.specs.declared.readings.Reading.{Reading}
use Rattle.line.proofs.FieldLaw.{Fit, fit_more, fit_none, left_true, number_fit, number_none, number_unfit, right_true, split, unfit_digit, unfit_more, unfit_other}
use Rattle.line.proofs.ReadLaw.{digit-held, fields, reading}
use Rattle.drawing.specs.Asks.{number_in, only_number}

-- a comma or another byte was read, so there is no number
abbrev Lost : Option Fields → Type 0
Lost None = Unit {0}
Lost (Some f) = eqb f.commas 0 ≡ false

lost_none : (o : Option Fields) → Lost o → option_and_then only_number o ≡ None
lost_none None h = refl
lost_none (Some f) h = split (eqb f.digits 0) (λ e. rw e) (λ e. rw (e, h))

lost_comma : (f : Fields) → Lost (comma_on f)
unfolding comma_on
lost_comma f =
    split (ltb 0 f.digits && ltb f.commas 3) (λ e. rw e (ne_eqb (f.commas + 1) 0 (λ none. omega arith))) (λ e. rw e tt)

lost_digit : (f : Fields) (d : ℕ) → eqb f.commas 0 ≡ false → Lost (digit_on f d)
unfolding digit_on
lost_digit f d h = split (ltb f.digits 20 && ltb (f.value * 10 + d) (2 ^ 64)) (λ e. rw e h) (λ e. rw e tt)

lost_byte : (f : Fields) (b : ℕ) → eqb f.commas 0 ≡ false → Lost (fields_on f b)
unfolding fields_on
lost_byte f b h =
    split (eqb b 44)
    (λ e. rw e (lost_comma f))
    (λ e. rw e (split (is_digit b) (λ d. rw d (lost_digit f (b - 48) h)) (λ d. rw d tt)))

lost_on : (bs : List ℕ) (s : Bool) (o : Option Fields) → Lost o → number_in (read_on (reading s o) bs) ≡ None
unfolding number_in
lost_on [] s o h = lost_none o h
lost_on (b ∷ bs) s None h = lost_on bs true None tt
lost_on (b ∷ bs) s (Some f) h = lost_on bs true (fields_on f b) (lost_byte f b h)

-- a first field of digits that fit so far
abbrev field : List ℕ → Fields
field f = fields [] f

held_says : (f : List ℕ) → Fit f → only_number (field f) ≡ number_of f
held_says f fit =
    split (eqb (length f) 0)
    (λ e. rw (number_none f (eqb-true _ _ e), e))
    (λ e. rw (number_fit fit (eqb-false _ _ e), e))

too_large : (f : List ℕ) (b : ℕ) → (ltb (length f) 20 && ltb (number_from 0 f * 10 + (b - 48)) (2 ^ 64)) ≡ false
    → digit_on (field f) (b - 48) ≡ None
unfolding digit_on
too_large f b e = rw e

stops : (bs f : List ℕ) → fits f ≡ false → number_of (f ++ bs) ≡ None
stops [] f h = rw append-nil (number_unfit f h)
stops (b ∷ bs) f h = ap number_of (sym (append_assoc f (b ∷ []) bs)) ∙ stops bs (f ++ (b ∷ [])) (unfit_more f b h)

-- the rest of a text, behind digits that fit
abbrev Says : List ℕ → Type 0
Says bs = (s : Bool) (f : List ℕ) → Fit f → number_in (read_on (reading s (Some (field f))) bs) ≡ number_of (f ++ bs)

module _ (bs : List ℕ) (onward : Says bs) (f : List ℕ) (b : ℕ) (fit : Fit f) where
  behind : f ++ (b ∷ bs) ≡ (f ++ (b ∷ [])) ++ bs
  behind = sym (append_assoc f (b ∷ []) bs)

  ends : (o : Option Fields) → Lost o → fits (f ++ (b ∷ [])) ≡ false → number_in (read_on (reading true o) bs) ≡ number_of (f ++ (b ∷ bs))
  ends o h unfit = lost_on bs true o h ∙ sym (ap number_of behind ∙ stops bs (f ++ (b ∷ [])) unfit)

  digit_says : is_digit b ≡ true → number_in (read_on (reading true (digit_on (field f) (b - 48))) bs) ≡ number_of (f ++ (b ∷ bs))
  digit_says d =
      let room : Bool = ltb (length f) 20 in
      let below : Bool = ltb (number_from 0 f * 10 + (b - 48)) (2 ^ 64) in
      split (room && below)
      (λ e. rw (digit-held [] f b e, behind) (onward true (f ++ (b ∷ []))
      (fit_more f b fit d (ltb-true _ _ (left_true room below e)) (ltb-true _ _ (right_true room below e)))))
      (λ e. rw (too_large f b e) (ends None tt (unfit_digit f b e)))

  byte_says : number_in (read_on (reading true (fields_on (field f) b)) bs) ≡ number_of (f ++ (b ∷ bs))
  unfolding fields_on
  byte_says =
      split (eqb b 44)
      (λ e. let comma : b ≡ 44 = eqb-true b 44 e in rw e (ends (comma_on (field f)) (lost_comma (field f)) (unfit_other f b (rw comma))))
      (λ e. rw e (split (is_digit b) (λ d. rw d (digit_says d)) (λ d. rw d (ends None tt (unfit_other f b d)))))

says : (bs : List ℕ) → Says bs
unfolding number_in
says [] s f fit = rw append-nil (held_says f fit)
says (b ∷ bs) s f fit = byte_says bs (says bs) f b fit

-- read byte by byte, a text has the number of its field
pub number_read : (bs : List ℕ) → number_in (read bs) ≡ number_of bs
unfolding number_from
number_read bs = says bs false [] fit_none

-- no byte is left
pub read_over : (text : List ℕ) (r : Reading) (i : ℕ) {t : Reading} → read_on r (drop i text) ≡ t → length text ≤ i → r ≡ t
read_over text r i h over = rw (drop_of_length-le text over) at h
