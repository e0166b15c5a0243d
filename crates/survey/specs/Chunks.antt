-- 01, "The job program": a job chunk by chunk, for whatever the system reads. What it reads and writes no contract can say.
use Rattle.std.specs.Prelude.{ℕ, ◌+◌, ◌≤◌, ◌^◌, Bool, cond, false, true, ◌&&◌, ◌⊎◌, ◌≡◌, ltb, Err, Ok, Result, is_ok, length, take}
use mathlib.Core.List.{List, [], ◌∷◌, ◌++◌, flatten}
use Rattle.machine.specs.Registers.{million}
use Rattle.machine.specs.Step.{written}
use Rattle.session.specs.Standings.{Standing, after_bytes, after_last, begun, printed_by, printed_last}
use Rattle.survey.specs.declared.chunks.Failure.{Failure}
use Rattle.survey.specs.declared.chunks.Failure.TheVariants.{Unread, Unwritten}

-- what a chunk was answered: so many bytes at the buffer's start were read, 0 at the end of input, or what failed
abbrev pub Answered : Type 0
Answered = Result ℕ Failure

-- the bytes that were read of it
abbrev pub bytes_read : Answered → List ℕ → List ℕ
bytes_read (Ok n) buf = take n buf
bytes_read (Err Unread) buf = []
bytes_read (Err (Unwritten n)) buf = take n buf

-- such a chunk: where it leaves the job, and what it prints at the start of the output
pub record Took (w v : Standing) (got : Answered) (buf entry exit : List ℕ) : Type 0 where
  pub after : v ≡ after_bytes w (bytes_read got buf)
  pub prints : exit ≡ written 0 (printed_by w (bytes_read got buf)) entry

-- whether the system could read a chunk and write what it prints
abbrev pub able : Answered → Bool
able got = is_ok got

-- another chunk is read behind one that brought bytes; "Reading stops after line 1,000,000", and where a write fails
abbrev pub goes_on : Answered → (lines : ℕ) → Bool
goes_on (Ok n) lines = ltb 0 n && ltb lines million
goes_on (Err f) lines = false

-- chunks from the start, each with another behind it, and where they leave the job
pub data Chunks : List (List ℕ) → Standing → Type 0 where
  none : Chunks [] begun
  next : {cs : List (List ℕ)} {w : Standing} (got : Answered) (buf : List ℕ) → Chunks cs w
      → goes_on got (after_bytes w (bytes_read got buf)).lines ≡ true
      → Chunks (cs ++ (bytes_read got buf ∷ [])) (after_bytes w (bytes_read got buf))

-- the last chunk, by what it was answered: behind it there is no other, or 2^64 - 2 bytes were read before it
pub record Reached (v : Standing) (got : Answered) (buf : List ℕ) : Type 0 where
  pub chunks : List (List ℕ)
  pub before : Standing
  pub reads : Chunks chunks before
  pub after : v ≡ after_bytes before (bytes_read got buf)
  pub ended : (goes_on got v.lines ≡ false) ⊎ (2 ^ 64 ≤ length (flatten chunks) + 2)

-- the end of input: a line that it ends is taken only where all before it could be read and written
abbrev pub after_input : Bool → Standing → Standing
after_input able w = cond able (after_last w) w

abbrev pub printed_after : Bool → Standing → List ℕ
printed_after able w = cond able (printed_last w) []

-- a whole run: all chunks, then the end of input
pub record Ran (u : Standing) (got : Answered) (buf exit : List ℕ) : Type 0 where
  pub last : Standing
  pub out : List ℕ
  pub reached : Reached last got buf
  pub after : u ≡ after_input (able got) last
  pub prints : exit ≡ written 0 (printed_after (able got) last) out
