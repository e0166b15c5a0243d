-- The line at a place of a buffer, and the lines of an input.
use Prim.Native.Nat.{ℕ, ◌+◌, ◌≤◌, ◌<◌}
use mathlib.Core.Path.{◌≡◌, refl, sym, ap}
use mathlib.Core.List.{List, [], ◌∷◌}
use native.Mathlib.Numerals.{add-one}
use native.Mathlib.Omega.{arith}
use borrow.Author.Tests.{ne_eqb}
use lib.Dec.{eqb}
use lib.ListN.{drop, drop_of_length-le, get_or, length}
use lib.Seq.{drop-cons}
use Rattle.line.specs.Lines.{line_in, lines_of, on_first}
use Rattle.line.specs.Readings.{read_on}
use Rattle.line.specs.Theorems.{FirstLine, LineInChunks}
use Rattle.line.specs.declared.readings.Reading.{Reading}
use Rattle.line.proofs.FieldLaw.{split}

module _ (buf : List ℕ) (i : ℕ) where
  over : length buf ≤ i → line_in (drop i buf) ≡ []
  unfolding line_in
  over h = rw drop_of_length-le

  stops : i < length buf → get_or buf i 0 ≡ 10 → line_in (drop i buf) ≡ []
  unfolding line_in
  stops h is = rw (drop-cons buf i 0, is)

  goes_on_lem : i < length buf → (get_or buf i 0 ≡ 10 → ⊥) → line_in (drop i buf) ≡ get_or buf i 0 ∷ line_in (drop (i + 1) buf)
  unfolding line_in
  goes_on_lem h other = rw (add-one, drop-cons buf i 0, ne_eqb (get_or buf i 0) 10)

-- from i on with a reading, the line comes to the same, and to the same end, as from `at` on
pub record Left (buf : List ℕ) (at i : ℕ) (before now : Reading) : Type 0 where
  pub same : read_on before (line_in (drop at buf)) ≡ read_on now (line_in (drop i buf))
  pub stop : at + length (line_in (drop at buf)) ≡ i + length (line_in (drop i buf))

module _ {buf : List ℕ} {at i : ℕ} {before now : Reading} (left : Left buf at i before now) where
  pub turned : {next : Reading} → i < length buf → (get_or buf i 0 ≡ 10 → ⊥) → next ≡ read_on now (get_or buf i 0 ∷ [])
      → Left buf at (i + 1) before next
  turned h other is =
      let more = goes_on_lem buf i h other in
      record { same = rw is (rw more at left.same); stop = omega (arith, rw more at left.stop) }

  taken : line_in (drop i buf) ≡ []
      → (now ≡ read_on before (line_in (drop at buf))) × (i ≡ at + length (line_in (drop at buf)))
  taken none = (sym (rw none at left.same), omega (arith, rw none at left.stop))

  pub taken_over : length buf ≤ i → (now ≡ read_on before (line_in (drop at buf))) × (i ≡ at + length (line_in (drop at buf)))
  taken_over h = taken (over buf i h)

  pub taken_stop : i < length buf → get_or buf i 0 ≡ 10
      → (now ≡ read_on before (line_in (drop at buf))) × (i ≡ at + length (line_in (drop at buf)))
  taken_stop h is = taken (stops buf i h is)

pub first-line : FirstLine
unfolding line_in lines_of
first-line b [] = split (eqb b 10) (λ e. rw e) (λ e. rw e)
first-line b (x ∷ bs) = split (eqb b 10) (λ e. rw e) (λ e. rw e (ap (on_first b) (first-line x bs)))

pub line_in_chunks : LineInChunks
unfolding line_in
line_in_chunks [] ys = (λ h. absurd (omega arith), λ h. refl)
line_in_chunks (b ∷ xs) ys =
    split (eqb b 10)
    (λ e. rw e (λ h. refl, λ h. absurd (omega arith)))
    (λ e. rw e (λ h. ap (λ (l : List ℕ). b ∷ l) ((line_in_chunks xs ys).0 (omega arith)), λ h. ap (λ (l : List ℕ). b ∷ l) ((line_in_chunks xs ys).1 (omega arith))))
