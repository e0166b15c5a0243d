-- Decimals: those of std below 2^64, what digits they have, and that they read back.
use Rattle.std.specs.Prelude.{Some}
use Rattle.std.specs.Fmt.{decimal as text}
use Rattle.std.proofs.lemmas.Fmt.{AppendsLastDigit, decimal_from_appends, decimal_nonempty, digits_decimal, digits_value-decimal, length-decimal-le, length-decimal-le_succ}
use Rattle.std.proofs.lemmas.Str.Parse.{FoldsDigits, IsDigitsTest, IsNumeralModel, numerals_by_fold}
use Prim.Native.Nat.{ℕ, zero, suc, ◌/◌, ◌≤◌, ◌<◌, ◌^◌}
use mathlib.Core.Path.{◌≡◌, refl, ap, ◌∙◌}
use mathlib.Core.Bool.{true}
use native.Mathlib.Omega.{arith}
use borrow.Author.Tests.{le-leb, le-ltb, leb-true, lt-ltb, ltb-false}
use lib.Dec.{leb, ltb}
use lib.ListN.{get_or-append, get_or, length, length-append}
use Rattle.line.specs.Lines.{all_digits, is_digit, number_from}
use Rattle.line.specs.Printed.{decimal, decimal_by}
use Rattle.line.specs.Theorems.{AtMost20, NoLeadingZero, ReadsBack}
use Rattle.line.proofs.FieldLaw.{Fit, both_true, left_true, number_fit, right_true, split}

by_std : AppendsLastDigit decimal_by
unfolding decimal_by
by_std = record { one = λ k n h. rw (lt-ltb n 10); more = λ k n h. rw (le-ltb n 10) }

-- the decimal of std
pub decimal_is : (n : ℕ) → n < 2 ^ 64 → decimal n ≡ text n
unfolding decimal
decimal_is n h = decimal_from_appends decimal_by by_std (suc n) n h (omega (arith, length-decimal-le_succ n h))

some_by : (k n : ℕ) → n < k → 1 ≤ length (decimal_by k n)
unfolding decimal_by
some_by zero n h = absurd (omega arith)
some_by (suc k) n h = split (ltb n 10) (λ e. rw e (omega arith)) (λ e. rw (e, length-append) (omega arith))

lead_by : (k n : ℕ) → n < k → 1 ≤ n → 49 ≤ get_or (decimal_by k n) 0 0
unfolding decimal_by
lead_by zero n h h' = absurd (omega arith)
lead_by (suc k) n h h' =
    split (ltb n 10)
    (λ e. rw e (omega arith))
    (λ e.
    let above : 10 ≤ n = ltb-false n 10 e in
    rw (e, get_or-append (decimal_by k (n / 10)) _ 0 0 (some_by k (n / 10) (omega arith)))
    (lead_by k (n / 10) (omega arith) (omega arith)))

pub no_leading_zero : NoLeadingZero
unfolding decimal
no_leading_zero n h = lead_by (suc n) n (omega arith) h

pub at-most_20 : AtMost20
at-most_20 n h = rw decimal_is (decimal_nonempty n h, length-decimal-le 20 n (omega arith) (omega arith) h)

-- digits and their number are those of std
digits_test : IsDigitsTest (λ f. all_digits f ≡ true)
unfolding all_digits
digits_test =
    record {
      empty = refl;
      parts = λ b f h.
          let d = left_true (is_digit b) _ h in
          ((leb-true 48 b (left_true (leb 48 b) _ d), leb-true b 57 (right_true (leb 48 b) _ d)), right_true (is_digit b) _ h);
      more = λ b f d h. both_true (both_true (le-leb 48 b d.0) (le-leb b 57 d.1)) h;
    }

digits_fold : FoldsDigits number_from
unfolding number_from
digits_fold = record { empty = λ n. refl; more = λ n b f d. refl }

numerals : IsNumeralModel (λ f. all_digits f ≡ true) (number_from 0)
numerals = numerals_by_fold _ digits_test number_from digits_fold

-- a decimal as a field that is read
number_is : (n : ℕ) → n < 2 ^ 64 → number_from 0 (decimal n) ≡ n
number_is n h = rw decimal_is (digits_value-decimal numerals n h)

pub fit_decimal : (n : ℕ) → n < 2 ^ 64 → Fit (decimal n)
fit_decimal n h =
    record {
      digits = rw decimal_is (digits_decimal numerals n h);
      few = (at-most_20 n h).1;
      below = rw (number_is n h) h;
    }

pub reads_back : ReadsBack
reads_back n h =
    number_fit (fit_decimal n h) (λ none. omega (arith, (at-most_20 n h).0)) ∙ ap Some (number_is n h)
