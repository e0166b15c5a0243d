-- Read byte by byte, a job prints its output.
use Prim.Native.Nat.{ℕ, zero, suc, ◌+◌, ◌-◌, ◌≤◌, ◌<◌}
use mathlib.Core.Bool.{true}
use mathlib.Core.List.{List, [], ◌∷◌, ◌++◌, append_assoc, append-nil}
use mathlib.Core.Path.{◌≡◌, ap, refl, sym, ◌∙◌}
use native.Mathlib.Omega.{arith}
use borrow.Author.Tests.{ltb-false, ltb-true}
use lib.Dec.{eqb, ltb}
use lib.ListN.{drop, drop_of_length-le, length, length-drop, take}
use lib.Seq.{take-nil}
use Rattle.machine.specs.Registers.{million}
use Rattle.line.specs.Lines.{command_of, line_in, lines_of}
use Rattle.line.specs.Readings.{byte_on, read}
use Rattle.line.specs.Readings as readings
use Rattle.line.proofs.FieldLaw.{split}
use Rattle.line.proofs.Theorems.{first-line, reads, seen_any}
use Rattle.session.specs.Outputs.{State, Turned, output_from, replied, taken}
use Rattle.session.specs.Standings.{Standing, after_bytes, line_taken, printed_by, printed_last, read_to, standing}
use Rattle.session.specs.Theorems.{Stops}
use Rattle.session.proofs.ChunkLaw.{line_closed, line_open, read_line}
use Rattle.session.proofs.EndLaw.{last-seen, last_unseen, late_after, late_printed, line_after, line-printed}

-- all that a job prints from a standing on
abbrev printed_all : Standing → List ℕ → List ℕ
printed_all w bytes = printed_by w bytes ++ printed_last (after_bytes w bytes)

pub stops : Stops
unfolding printed_by after_bytes
stops w late [] = (refl, split w.reading.seen (λ e. (last-seen w e).1 ∙ late_printed w late) (λ e. (last_unseen w e).1))
stops w late (b ∷ bs) =
    split (eqb b 10)
    (λ e. rw (e, late_printed w late, ← late_after w late) (stops (standing w.state w.lines readings.started) late bs))
    (λ e. rw e (stops (read_to w (byte_on w.reading b)) late bs))

some_seen : (l : List ℕ) → 1 ≤ length l → (read l).seen ≡ true
some_seen [] h = absurd (omega arith)
some_seen (b ∷ bs) h = seen_any.1 b bs

-- a job at s, behind n lines
module _ (s : State) (n : ℕ) where
  abbrev before : Standing
  before = standing s n readings.started

  abbrev Prints : List ℕ → Type 0
  Prints bytes = printed_all before bytes ≡ output_from (n + 1) s (take (million - n) (lines_of bytes))

  late_output : million ≤ n → (bytes : List ℕ) → Prints bytes
  unfolding output_from
  late_output late bytes =
      let stopped = stops before late bytes in
      grind (arith, stopped.0, stopped.1)

  no_output : Prints []
  unfolding printed_by after_bytes printed_last lines_of output_from
  no_output = grind arith

-- the bytes behind those of the first line
abbrev behind : List ℕ → List ℕ
behind xs = drop (suc (length (line_in xs))) xs

behind_less : (b : ℕ) (bs : List ℕ) → length (behind (b ∷ bs)) ≤ length bs
behind_less b bs = omega (arith, length-drop (suc (length (line_in (b ∷ bs)))) (b ∷ bs))

-- its next line
module _ (s : State) (n b : ℕ) (bs : List ℕ) where
  abbrev line : List ℕ
  line = line_in (b ∷ bs)

  abbrev done : Turned
  done = taken s (command_of line)

  abbrev reply : List ℕ
  reply = replied (n + 1) done.state.machine done.reply

  abbrev whole : Standing
  whole = read_line (before s n) line

  is : done ≡ line_taken whole
  is = ap (taken s) (sym (reads line))

  first-output : n < million → output_from (n + 1) s (take (million - n) (lines_of (b ∷ bs)))
      ≡ reply ++ output_from (n + 1 + 1) done.state (take (million - (n + 1)) (lines_of (behind (b ∷ bs))))
  unfolding output_from
  first-output early =
      let left : million - n ≡ suc (million - (n + 1)) = omega arith in
      rw (left, first-line b bs) refl

  closed_output : n < million → length line < length (b ∷ bs) → Prints done.state (n + 1) (behind (b ∷ bs)) → Prints s n (b ∷ bs)
  closed_output early ends onward =
      let closed = line_closed (before s n) (b ∷ bs) ends in
      rw (first-output early, closed.0, closed.1, append_assoc, line-printed whole done is early, ← line_after whole done is early)
      (ap (λ (l : List ℕ). reply ++ l) onward)

  open_output : n < million → length (b ∷ bs) ≤ length line → Prints s n (b ∷ bs)
  unfolding lines_of output_from
  open_output early unended =
      let opened = line_open (before s n) (b ∷ bs) unended in
      let last = last-seen whole (some_seen line (omega arith)) in
      let over : length (b ∷ bs) ≤ suc (length line) = omega arith in
      rw (first-output early, drop_of_length-le (b ∷ bs) over, take-nil, opened.0, opened.1, last.1, line-printed whole done is early, append-nil) refl

  line-output : ((t : State) (k : ℕ) → Prints t k (behind (b ∷ bs))) → Prints s n (b ∷ bs)
  line-output onward =
      split (ltb n million)
      (λ e. let early = ltb-true n million e in
      split (ltb (length line) (length (b ∷ bs)))
      (λ h. closed_output early (ltb-true _ _ h) (onward done.state (n + 1)))
      (λ h. open_output early (ltb-false _ _ h)))
      (λ e. late_output s n (ltb-false n million e) (b ∷ bs))

-- shorter inputs print their output, and so does this one
one_more : (bytes : List ℕ) → ((xs : List ℕ) → length xs < length bytes → (s : State) (n : ℕ) → Prints s n xs)
    → (s : State) (n : ℕ) → Prints s n bytes
one_more [] shorter s n = no_output s n
one_more (b ∷ bs) shorter s n = line-output s n b bs (shorter (behind (b ∷ bs)) (omega (arith, behind_less b bs)))

pub output_from_lem : (k : ℕ) (bytes : List ℕ) → length bytes < k → (s : State) (n : ℕ) → Prints s n bytes
output_from_lem zero bytes few = absurd (omega arith)
output_from_lem (suc k) bytes few = one_more bytes (λ xs less. output_from_lem k xs (omega arith))
