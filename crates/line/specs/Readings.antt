-- What the bytes of a line so far come to, one byte after the other.
use Rattle.std.specs.Prelude.{ℕ, ◌+◌, ◌-◌, ◌*◌, ◌^◌, cond, false, true, ◌&&◌, List, [], ◌∷◌, eqb, ltb, replicate, slice_index, take, Some, None, Option}
use Rattle.std.specs.Option.{option_and_then}
use Rattle.line.specs.Lines.{is_digit, with_one, with_three}
use Rattle.line.specs.declared.commands.Command.{Command}
use Rattle.line.specs.declared.commands.Command.TheVariants.{Unreadable}
use Rattle.line.specs.declared.readings.Fields.{Fields}
use Rattle.line.specs.declared.readings.Reading.{Reading}

-- fields that a comma ended, the newest first, and no digit of the next
abbrev pub next_field : (ended : List ℕ) (commas : ℕ) → Fields
next_field e n = record { ended = e; commas = n; digits = 0; value = 0 }

-- no byte yet
abbrev pub no_fields : Fields
no_fields = next_field (replicate 3 0) 0

abbrev pub started : Reading
started = record { fields = Some no_fields; seen = false }

-- a comma: three fields are kept, and no line has more than four
unfoldable pub comma_on : Fields → Option Fields
comma_on f =
    cond (ltb 0 f.digits && ltb f.commas 3) (Some (next_field (take 3 (f.value ∷ f.ended)) (f.commas + 1))) None

-- one digit more in the current field
abbrev pub grown : Fields → ℕ → Fields
grown f d = record { ended = f.ended; commas = f.commas; digits = f.digits + 1; value = f.value * 10 + d }

-- a digit: at most 20, of a number below 2^64
unfoldable pub digit_on : Fields → ℕ → Option Fields
digit_on f d = cond (ltb f.digits 20 && ltb (f.value * 10 + d) (2 ^ 64)) (Some (grown f d)) None

-- a byte: "parted by commas, decimal", and no "another byte"
unfoldable pub fields_on : Fields → ℕ → Option Fields
fields_on f b = cond (eqb b 44) (comma_on f) (cond (is_digit b) (digit_on f (b - 48)) None)

-- unreadable stays so, whatever follows
abbrev pub byte_on : Reading → ℕ → Reading
byte_on r b = record { fields = option_and_then (λ f. fields_on f b) r.fields; seen = true }

-- some more bytes
abbrev pub read_on : Reading → List ℕ → Reading
read_on r [] = r
read_on r (b ∷ bs) = read_on (byte_on r b) bs

-- the first bytes of a line
abbrev pub read : List ℕ → Reading
read bs = read_on started bs

-- what fields say: one without a digit, as that of an empty line is, cannot be read
unfoldable pub said_by : Fields → Command
said_by f =
    cond (eqb f.digits 0) Unreadable
    (cond (eqb f.commas 1) (with_one (slice_index f.ended 0) f.value)
    (cond (eqb f.commas 3) (with_three (slice_index f.ended 2) (slice_index f.ended 1) (slice_index f.ended 0) f.value) Unreadable))

-- what a line of these bytes says
abbrev pub said_if : Option Fields → Command
said_if (Some f) = said_by f
said_if None = Unreadable

unfoldable pub command_in : Reading → Command
command_in r = said_if r.fields
