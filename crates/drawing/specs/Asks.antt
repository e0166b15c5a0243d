-- What the three arguments ask for: a ring code of 01, "Preparing a tape", a count of lines, and their kind.
-- Used by the code's contracts alone: no theorem's statement speaks of it.
use Rattle.std.specs.Prelude.{ℕ, Bool, cond, false, not, true, ◌||◌, List, [], ◌∷◌, eqb, leb, Some, None, Option, Ok, Err, Result}
use Rattle.std.specs.Cmp.Lexicographic.{pointwise}
use Rattle.std.specs.Bool.{then_some}
use Rattle.std.specs.Option.{option_and_then}
use Rattle.line.specs.Lines.{number_of}
use Rattle.line.specs.declared.readings.Fields.{Fields}
use Rattle.line.specs.declared.readings.Reading.{Reading}
use Rattle.tape.specs.Tapes as tapes
use Rattle.drawing.specs.declared.asked.Asked.{Asked}
use Rattle.drawing.specs.declared.asked.BadArgument.{BadArgument}
use Rattle.drawing.specs.declared.asked.BadArgument.TheVariants as bad
use Rattle.drawing.specs.declared.kinds.Kind.{Kind}
use Rattle.drawing.specs.declared.kinds.Kind.TheVariants.{Dealer, Masks}

-- the number of a first field, where it has a digit
abbrev pub only_number : Fields → Option ℕ
only_number f = cond (eqb f.digits 0 || not (eqb f.commas 0)) None (Some f.value)

-- the number of what was read as one field: "decimal of 1 to 20 digits", as in a job line
unfoldable pub number_in : Reading → Option ℕ
number_in r = option_and_then only_number r.fields

abbrev pub some_items : tapes.Kind → Bool
some_items (tapes.items width limit) = true
some_items tapes.other = false

-- whether a tape can be prepared for a ring code
unfoldable pub is_code : ℕ → Bool
is_code code = some_items (tapes.kind_of code)

-- the first argument: a number that is a ring code
abbrev pub code_in : Option ℕ → Option ℕ
code_in n = option_and_then (λ c. then_some (is_code c) c) n

-- the second, "At most 512 lines of each tape kind"
abbrev pub few_in : Option ℕ → Option ℕ
few_in n = option_and_then (λ c. then_some (leb c 512) c) n

-- "masks" and "dealer"
abbrev pub masks_name : List ℕ
masks_name = 109 ∷ 97 ∷ 115 ∷ 107 ∷ 115 ∷ []

abbrev pub dealer_name : List ℕ
dealer_name = 100 ∷ 101 ∷ 97 ∷ 108 ∷ 101 ∷ 114 ∷ []

-- the third: one of the two names
unfoldable pub kind_of : List ℕ → Option Kind
kind_of text = cond (pointwise eqb text masks_name) (Some Masks) (cond (pointwise eqb text dealer_name) (Some Dealer) None)

-- all three, or the first that will not do
abbrev pub asks : Option ℕ → Option ℕ → Option Kind → Result Asked BadArgument
asks None c k = Err bad.Ring
asks (Some n) None k = Err bad.Count
asks (Some n) (Some c) None = Err bad.Kind
asks (Some n) (Some c) (Some k) = Ok (record { code = n; count = c; kind = k })

-- what the texts of the arguments ask for
unfoldable pub asked_of : (ring count kind : List ℕ) → Result Asked BadArgument
asked_of r c k = asks (code_in (number_of r)) (few_in (number_of c)) (kind_of k)
