-- Where a job stands between two bytes of its input, so that the input may come in chunks.
use Rattle.std.specs.Prelude.{ℕ, ◌+◌, cond, List, [], ◌∷◌, ◌++◌, ◌≡◌, eqb, ltb}
use Rattle.machine.specs.Registers.{million}
use Rattle.line.specs.Readings.{byte_on, command_in}
use Rattle.line.specs.Printed.{Wrote}
use Rattle.line.specs.Readings as readings
use Rattle.line.specs.declared.readings.Reading.{Reading}
use Rattle.session.specs.Outputs.{State, Turned, replied, started, taken}

-- what the lines so far leave, how many there were, and what was read of the next
pub record Standing : Type 0 where
  pub state : State
  pub lines : ℕ
  pub reading : Reading

abbrev pub standing : State → ℕ → Reading → Standing
standing s n r = record { state = s; lines = n; reading = r }

-- no byte yet
abbrev pub begun : Standing
begun = standing started 0 readings.started

-- what the line that was read does
abbrev pub line_taken : Standing → Turned
line_taken w = taken w.state (command_in w.reading)

-- a line's end: what is printed, and where the job stands then; "Reading stops after line 1,000,000"
unfoldable pub printed_at : Standing → List ℕ
printed_at w =
    let t = line_taken w in
    cond (ltb w.lines million) (replied (w.lines + 1) t.state.machine t.reply) []

unfoldable pub after_end : Standing → Standing
after_end w =
    cond (ltb w.lines million) (standing (line_taken w).state (w.lines + 1) readings.started)
    (standing w.state w.lines readings.started)

-- a byte of a line
abbrev pub read_to : Standing → Reading → Standing
read_to w r = standing w.state w.lines r

-- some bytes: what is printed, and where the job stands then
unfoldable pub printed_by : Standing → List ℕ → List ℕ
printed_by w [] = []
printed_by w (b ∷ bs) =
    cond (eqb b 10) (printed_at w ++ printed_by (after_end w) bs) (printed_by (read_to w (byte_on w.reading b)) bs)

unfoldable pub after_bytes : Standing → List ℕ → Standing
after_bytes w [] = w
after_bytes w (b ∷ bs) = cond (eqb b 10) (after_bytes (after_end w) bs) (after_bytes (read_to w (byte_on w.reading b)) bs)

-- the end of input ends a line of which a byte was seen
unfoldable pub printed_last : Standing → List ℕ
printed_last w = cond w.reading.seen (printed_at w) []

unfoldable pub after_last : Standing → Standing
after_last w = cond w.reading.seen (after_end w) w

-- what is printed for chunks, one after the other, and then at the end of input
unfoldable pub printed_for : Standing → List (List ℕ) → List ℕ
printed_for w [] = printed_last w
printed_for w (c ∷ cs) = printed_by w c ++ printed_for (after_bytes w c) cs

-- Part of a chunk is done with: the job stood at w before xs and stands at v before ys, and what was printed between is written.
pub record Advanced (w : Standing) (xs : List ℕ) (v : Standing) (ys : List ℕ) (at : ℕ) (entry exit : List ℕ) (next : ℕ) : Type 0 where
  pub bytes : List ℕ
  pub printed : printed_by w xs ≡ bytes ++ printed_by v ys
  pub after : after_bytes w xs ≡ after_bytes v ys
  pub wrote : Wrote at bytes entry exit next
