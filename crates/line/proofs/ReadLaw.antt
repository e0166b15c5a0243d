-- Read byte by byte, a line says what its fields say.
use Rattle.std.specs.Prelude.{Some, None, Option}
use Prim.Native.Nat.{ℕ, ◌-◌, ◌*◌, ◌+◌, ◌≤◌, ◌^◌}
use mathlib.Core.Path.{◌≡◌, refl, sym, ap, ◌∙◌}
use mathlib.Core.Bool.{Bool, true, false, ◌&&◌}
use mathlib.Core.List.{List, [], ◌∷◌, ◌++◌, append_assoc}
use native.Mathlib.Omega.{arith}
use borrow.Author.Tests.{eqb-false, eqb-true, ltb-false, ltb-true}
use lib.Dec.{eqb, ltb}
use lib.ListN.{length}
use Rattle.line.specs.Lines.{before, command_of, fields_from, if_read, is_digit, number_from, number_of, numbers_of, with_numbers}
use Rattle.line.specs.Readings.{comma_on, command_in, digit_on, fields_on, read_on, said_by}
use Rattle.line.specs.Theorems.{Reads}
use Rattle.line.specs.declared.commands.Command.{Command}
use Rattle.line.specs.declared.commands.Command.TheVariants.{Unreadable}
use Rattle.line.specs.declared.readings.Fields.{Fields}
use Rattle.line.specs.declared.readings.Reading.{Reading}
use Rattle.line.proofs.FieldLaw.{
  Fit,
  fit_more,
  fit_none,
  larger,
  left_true,
  longer,
  number_fit,
  number_none,
  right_true,
  split,
  unfit_digit,
  unfit_other,
  unreadable,
}

-- three places: the numbers of the ended fields, the newest first
abbrev pub stored : List ℕ → List ℕ
stored [] = 0 ∷ 0 ∷ 0 ∷ []
stored (a ∷ []) = a ∷ 0 ∷ 0 ∷ []
stored (a ∷ b ∷ []) = b ∷ a ∷ 0 ∷ []
stored (a ∷ b ∷ c ∷ ns) = c ∷ b ∷ a ∷ []

-- the fields with the numbers of some, and part of the next
abbrev pub fields : List ℕ → List ℕ → Fields
fields done f = record { ended = stored done; commas = length done; digits = length f; value = number_from 0 f }

abbrev pub reading : Bool → Option Fields → Reading
reading s o = record { fields = o; seen = s }

-- what the line says, by those numbers and the others
abbrev after : List ℕ → Option (List ℕ) → Command
after done (Some ns) = with_numbers (done ++ ns)
after done None = Unreadable

spoilt_says : (s : Bool) (bs : List ℕ) → command_in (read_on (reading s None) bs) ≡ Unreadable
unfolding command_in
spoilt_says s [] = refl
spoilt_says s (b ∷ bs) = spoilt_says true bs

-- no line has five fields
five : (a b c d : ℕ) (f bs : List ℕ) → after (a ∷ b ∷ c ∷ d ∷ []) (numbers_of (fields_from f bs)) ≡ Unreadable
unfolding fields_from numbers_of with_numbers
five a b c d f [] = go (number_of f)
  where
    go : (n : Option ℕ) → after (a ∷ b ∷ c ∷ d ∷ []) (before n (Some [])) ≡ Unreadable
    go None = refl
    go (Some n) = refl
five a b c d f (x ∷ bs) =
    split (eqb x 44) (λ e. rw e (go (number_of f) (numbers_of (fields_from [] bs)))) (λ e. rw e (five a b c d (f ++ (x ∷ [])) bs))
  where
    go : (n : Option ℕ) (ns : Option (List ℕ)) → after (a ∷ b ∷ c ∷ d ∷ []) (before n ns) ≡ Unreadable
    go None ns = refl
    go (Some n) None = refl
    go (Some n) (Some ns) = refl

after-before : (done : List ℕ) (v : ℕ) (ns : Option (List ℕ)) → after (done ++ (v ∷ [])) ns ≡ after done (before (Some v) ns)
after-before done v None = refl
after-before done v (Some ns) = ap with_numbers (append_assoc done (v ∷ []) ns)

-- the line ends, behind a comma or a digit
nothing_says : (done f : List ℕ) → eqb (length f) 0 ≡ true → said_by (fields done f) ≡ Unreadable
unfolding said_by
nothing_says done f e = rw e

ended_says : (done f : List ℕ) → length done ≤ 3 → eqb (length f) 0 ≡ false
    → said_by (fields done f) ≡ with_numbers (done ++ (number_from 0 f ∷ []))
unfolding said_by with_numbers
ended_says [] f few e = rw e
ended_says (a ∷ []) f few e = rw e
ended_says (a ∷ b ∷ []) f few e = rw e
ended_says (a ∷ b ∷ c ∷ []) f few e = rw e
ended_says (a ∷ b ∷ c ∷ d ∷ ns) f few e = absurd (omega arith)

pub digit-held : (done f : List ℕ) (b : ℕ) → (ltb (length f) 20 && ltb (number_from 0 f * 10 + (b - 48)) (2 ^ 64)) ≡ true
    → digit_on (fields done f) (b - 48) ≡ Some (fields done (f ++ (b ∷ [])))
unfolding digit_on
digit-held done f b e = rw (e, longer, larger)

-- what the rest of a line makes of each reading
abbrev Says : List ℕ → Type 0
Says bs = (s : Bool) (done f : List ℕ) → length done ≤ 3 → Fit f
    → command_in (read_on (reading s (Some (fields done f))) bs) ≡ after done (numbers_of (fields_from f bs))

module _ (bs : List ℕ) (onward : Says bs) where
  -- a comma behind a digit
  comma_says : (done f : List ℕ) → length done ≤ 3 → ltb 0 (length f) ≡ true
      → command_in (read_on (reading true (comma_on (fields done f))) bs) ≡ after done (before (Some (number_from 0 f)) (numbers_of (fields_from [] bs)))
  unfolding comma_on number_from
  comma_says [] f few e =
      rw e (onward true (number_from 0 f ∷ []) [] (omega arith) fit_none ∙ after-before [] _ (numbers_of (fields_from [] bs)))
  comma_says (a ∷ []) f few e =
      rw e (onward true (a ∷ number_from 0 f ∷ []) [] (omega arith) fit_none ∙ after-before (a ∷ []) _ (numbers_of (fields_from [] bs)))
  comma_says (a ∷ b ∷ []) f few e =
      rw e (onward true (a ∷ b ∷ number_from 0 f ∷ []) [] (omega arith) fit_none ∙ after-before (a ∷ b ∷ []) _ (numbers_of (fields_from [] bs)))
  comma_says (a ∷ b ∷ c ∷ []) f few e =
      rw e (spoilt_says true bs ∙ sym (five a b c _ [] bs) ∙ after-before (a ∷ b ∷ c ∷ []) _ (numbers_of (fields_from [] bs)))
  comma_says (a ∷ b ∷ c ∷ d ∷ ns) f few e = absurd (omega arith)

  any_comma_says : (done f : List ℕ) → length done ≤ 3 → Fit f
      → command_in (read_on (reading true (comma_on (fields done f))) bs) ≡ after done (before (number_of f) (numbers_of (fields_from [] bs)))
  unfolding comma_on
  any_comma_says done f few fit =
      split (ltb 0 (length f))
      (λ e. rw (number_fit fit (λ none. omega (arith, ltb-true 0 _ e))) (comma_says done f few e))
      (λ e. rw (number_none f (omega (arith, ltb-false 0 _ e)), e) (spoilt_says true bs))

  digit_says : (done f : List ℕ) (b : ℕ) → length done ≤ 3 → Fit f → is_digit b ≡ true
      → command_in (read_on (reading true (digit_on (fields done f) (b - 48))) bs) ≡ after done (numbers_of (fields_from (f ++ (b ∷ [])) bs))
  unfolding digit_on
  digit_says done f b few fit d =
      let room : Bool = ltb (length f) 20 in
      let below : Bool = ltb (number_from 0 f * 10 + (b - 48)) (2 ^ 64) in
      split (room && below)
      (λ e. rw (digit-held done f b e) (onward true done (f ++ (b ∷ [])) few
      (fit_more f b fit d (ltb-true _ _ (left_true room below e)) (ltb-true _ _ (right_true room below e)))))
      (λ e. rw (e, unreadable _ bs (unfit_digit f b e)) (spoilt_says true bs))

  byte_says : (done f : List ℕ) (b : ℕ) → length done ≤ 3 → Fit f
      → command_in (read_on (reading true (fields_on (fields done f) b)) bs) ≡ after done (numbers_of (fields_from f (b ∷ bs)))
  unfolding fields_on fields_from numbers_of
  byte_says done f b few fit =
      split (eqb b 44)
      (λ e. rw e (any_comma_says done f few fit))
      (λ e. rw e (split (is_digit b)
      (λ d. rw d (digit_says done f b few fit d))
      (λ d. rw (d, unreadable _ bs (unfit_other f b d)) (spoilt_says true bs))))

says : (bs : List ℕ) → Says bs
unfolding fields_from numbers_of command_in
says [] s done f few fit =
    split (eqb (length f) 0)
    (λ e. rw (number_none f (eqb-true _ _ e)) (nothing_says done f e))
    (λ e. rw (number_fit fit (eqb-false _ _ e)) (ended_says done f few e))
says (b ∷ bs) s done f few fit = byte_says bs (says bs) done f b few fit

pub reads : Reads
unfolding command_of number_from
reads bs = says bs false [] [] (omega arith) fit_none ∙ go (numbers_of (fields_from [] bs))
  where
    go : (ns : Option (List ℕ)) → after [] ns ≡ if_read ns
    go None = refl
    go (Some ns) = refl
