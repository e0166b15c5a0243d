-- What is printed: the items that one preparation gives, as lines.
use Rattle.std.specs.Prelude.{ℕ, ◌*◌, ◌/◌, cond, List, [], ◌≡◌, eqb, length, replicate, Result}
use Rattle.line.specs.Printed.{Wrote}
use Rattle.tape.specs.Tapes.{Outcome, count_of, prepared, refusal_of}
use Rattle.tape.specs.declared.tapes.Refused.{Refused}
use Rattle.drawing.specs.declared.kinds.Kind.{Kind}
use Rattle.drawing.specs.Lines.{lines_of, per_line}
use Rattle.drawing.specs.Raws.{raw_words}

-- 01's refusal number or 0, and the bytes printed
pub record Output : Type 0 where
  pub refusal : ℕ
  pub bytes : List ℕ

-- a refusal prints nothing
unfoldable pub drawn_by : Kind → ℕ → Outcome → Output
drawn_by kind n o = record { refusal = o.refusal; bytes = cond (eqb o.refusal 0) (lines_of kind n o.run) [] }

-- n lines take one run of items, prepared from the raw words in turn
abbrev pub items_of : (code n : ℕ) → Kind → List ℕ → Outcome
items_of code n kind raw = prepared code (raw_words (length raw / 8) raw) (replicate (per_line kind * n) 0)

-- what is printed for a ring code, a count and a kind, from raw bytes
unfoldable pub drawn : (code n : ℕ) → Kind → List ℕ → Output
drawn code n kind raw = drawn_by kind n (items_of code n kind raw)

-- the answer, a refusal or a count of bytes, and the bytes written from the start of a run, where all else stays
pub record Drew (o : Output) (entry exit : List ℕ) (r : Result ℕ Refused) : Type 0 where
  pub refusal : refusal_of r ≡ o.refusal
  pub writes : Wrote 0 o.bytes entry exit (count_of r)
