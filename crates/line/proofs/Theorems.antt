-- The facts about lines (specs/Theorems.antt).
use Prim.Native.Nat.{ℕ}
use mathlib.Core.Path.{◌≡◌, refl}
use mathlib.Core.Bool.{true}
use mathlib.Core.List.{List, [], ◌∷◌}
use Rattle.machine.specs.Orders.{of_kind}
use Rattle.line.specs.Lines.{all_digits, command_of, fields_from, fits, lines_of, number_from, number_of, numbers_of, with_numbers, with_one, with_three}
use Rattle.line.specs.Printed.{decimal, decimal_by, printed}
use Rattle.line.specs.Readings.{byte_on, read_on, started}
use Rattle.line.specs.Theorems as theorem
use Rattle.line.specs.declared.readings.Reading.{Reading}
use Rattle.line.proofs.DecimalLaw as decimals
use Rattle.line.proofs.ItemLaw as items
use Rattle.line.proofs.LineLaw as lines
use Rattle.line.proofs.ReadLaw as readings

pub reads : theorem.Reads
reads = readings.reads

pub in_chunks : theorem.InChunks
in_chunks r [] ys = refl
in_chunks r (b ∷ xs) ys = in_chunks (byte_on r b) xs ys

-- whatever the byte, one was seen
seen_stays : (r : Reading) (bs : List ℕ) → r.seen ≡ true → (read_on r bs).seen ≡ true
seen_stays r [] h = h
seen_stays r (b ∷ bs) h = seen_stays (byte_on r b) bs refl

pub seen_any : theorem.SeenAny
seen_any = (refl, λ b bs. seen_stays (byte_on started b) bs refl)

pub first-line : theorem.FirstLine
first-line = lines.first-line

pub line_in_chunks : theorem.LineInChunks
line_in_chunks = lines.line_in_chunks

pub reads_back : theorem.ReadsBack
reads_back = decimals.reads_back

pub at-most_20 : theorem.AtMost20
at-most_20 = decimals.at-most_20

pub no_leading_zero : theorem.NoLeadingZero
no_leading_zero = decimals.no_leading_zero

pub items_below : theorem.ItemsBelow
items_below = items.items_below

pub figures : theorem.Figures
unfolding command_of lines_of fields_from numbers_of number_of fits all_digits number_from with_numbers with_one with_three of_kind printed decimal decimal_by
figures = (refl, refl, refl, refl, refl, refl, refl, refl, refl, refl, refl, refl)
