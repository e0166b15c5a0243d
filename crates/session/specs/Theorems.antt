-- Facts about what whole jobs print, for all bytes of input. Proofs: proofs/Theorems.antt.
use Rattle.std.specs.Prelude.{ℕ, ◌+◌, ◌≤◌, ◌≡◌, length, replicate}
use mathlib.Core.List.{List, [], ◌∷◌, ◌++◌, flatten, map}
use Rattle.gate.specs.Places.{Place, p0}
use Rattle.machine.specs.Checks.{Tapes}
use Rattle.machine.specs.Registers.{empty_machine, million}
use Rattle.machine.specs.declared.registers.Machine.{Machine}
use Rattle.act.specs.Jobs.{Alike, IsRun, Outcome, course, view_of, views}
use Rattle.act.specs.Secrecy.{Meet}
use Rattle.protocol.specs.Orders.{orders, returned}
use Rattle.line.specs.Lines.{command_of}
use Rattle.line.specs.Printed.{printed}
use Rattle.line.specs.Readings as readings
use Rattle.line.specs.declared.commands.Command.{Command}
use Rattle.line.specs.declared.commands.Command.TheVariants.{Dealer, Masks, Unreadable}
use Rattle.session.specs.Course.{
  AlikeSaid,
  Instead,
  entries_from,
  job_of,
  outcomes_from,
  printed_of,
  printed_run,
  relined,
  said,
  said_by,
  tapes_of,
}
use Rattle.session.specs.Kept.{standing_of, tapes_in}
use Rattle.session.specs.Outputs.{State, most, no_tapes, output, output_from, started, zero_words}
use Rattle.session.specs.Records.{empty_words, machine_in}
use Rattle.session.specs.Standings.{Standing, after_bytes, begun, printed_by, printed_for, printed_last}
use Rattle.session.specs.declared.jobs.Job.{Job}

-- read byte by byte to the end of input, a job prints its output
abbrev pub Output : Type 0
Output = (bytes : List ℕ) → printed_by begun bytes ++ printed_last (after_bytes begun bytes) ≡ output bytes

-- the bytes may come in chunks, cut anywhere
abbrev pub InChunks : Type 0
InChunks = (w : Standing) (xs ys : List ℕ)
    → (printed_by w (xs ++ ys) ≡ printed_by w xs ++ printed_by (after_bytes w xs) ys)
    × (after_bytes w (xs ++ ys) ≡ after_bytes (after_bytes w xs) ys)

-- A whole job in chunks: together they print the output of all its bytes. After line 1,000,000 the rest need not be read.
abbrev pub Whole : Type 0
Whole = (chunks : List (List ℕ))
    → (printed_for begun chunks ≡ output (flatten chunks))
    × ((rest : List ℕ) → million ≤ (after_bytes begun (flatten chunks)).lines → printed_for begun chunks ≡ output (flatten chunks ++ rest))

-- "Reading stops after line 1,000,000": what follows prints nothing
abbrev pub Stops : Type 0
Stops = (w : Standing) → million ≤ w.lines → (bytes : List ℕ)
    → (printed_by w bytes ≡ []) × (printed_last (after_bytes w bytes) ≡ [])

-- what the code keeps before the first line, a record of zero words and no tape line, is the definition's start
abbrev pub Starts : Type 0
Starts = (j : Job) → j.kept.record ≡ machine_in empty_words → tapes_in j.kept.tapes ≡ no_tapes
    → (j.kept.c0 ≡ zero_words) × ((j.kept.c1 ≡ zero_words) × (j.kept.c2 ≡ zero_words)) → j.lines ≡ 0 → j.reading ≡ readings.started
    → standing_of j ≡ begun

-- "prints 13 as refusal and changes nothing": line l, number n, of a job at s with the lines ls to come
abbrev pub Prints13 : (n : ℕ) → State → (l : List ℕ) (ls : List (List ℕ)) → Type 0
Prints13 n s l ls =
    output_from n s (l ∷ ls) ≡ printed n 13 0 s.machine.masks_at s.machine.channels_at ++ output_from (n + 1) s ls

-- "An empty or otherwise unreadable line .. or a tape line after 512 taken of its kind"
abbrev pub Refused : Type 0
Refused = (n : ℕ) (s : State) (l : List ℕ) (ls : List (List ℕ))
    → (command_of l ≡ Unreadable → Prints13 n s l ls)
    × ((t₀ t₁ t₂ : ℕ) → command_of l ≡ Masks t₀ t₁ t₂ → most ≤ length (s.tapes.masks p0) → Prints13 n s l ls)
    × ((item : ℕ) → command_of l ≡ Dealer item → most ≤ length s.tapes.dealer → Prints13 n s l ls)

-- What the orders of some lines return is the course of the job and the tapes read off the lines: each order is lent the tape lines above it.
abbrev pub CourseRead : Type 0
CourseRead = (ks : List Command) → map returned (outcomes_from started ks) ≡ course (job_of ks) (tapes_of ks)

-- "A run is a job with four tapes of those lengths"
abbrev pub RunRead : Type 0
RunRead = (ls : List (List ℕ)) → IsRun (job_of (said ls)) (tapes_of (said ls))

-- and what is printed goes by that course
abbrev pub PrintedRead : Type 0
PrintedRead = (ls : List (List ℕ)) → output_from 1 started ls ≡ printed_run (said ls)

-- "two jobs alike in all but the numbers dealt": demand 3 speaks of any two lists of lines that differ in those and in the tapes' items alone
abbrev pub AlikeRead : Type 0
AlikeRead = (ks ks' : List Command) → AlikeSaid ks ks' → Alike (job_of ks) (job_of ks')

-- What such lines print goes by what any one party sees after every order: so a run and its image print the same.
abbrev pub PrintedSeen : Type 0
PrintedSeen = (U : Place) (ks ks' : List Command) → AlikeSaid ks ks' → (xs ys : List (Outcome Machine))
    → map (view_of orders U) xs ≡ map (view_of orders U) ys
    → printed_of [] empty_machine ks xs ≡ printed_of [] empty_machine ks' ys

-- of the program's output: inputs whose lines are alike, and whose runs look the same to one party, print the same
abbrev pub PrintsSame : Type 0
PrintsSame = (U : Place) (bytes bytes' : List ℕ)
    → (let ks = said_by bytes in
    let ks' = said_by bytes' in
    AlikeSaid ks ks' → views U (job_of ks) (tapes_of ks) ≡ views U (job_of ks') (tapes_of ks') → output bytes ≡ output bytes')

-- Every run of a job that lines make is the run of lines: the same orders, with those tapes.
abbrev pub Relined : Type 0
Relined = (ks : List Command) (T : Tapes) → IsRun (job_of ks) T
    → AlikeSaid ks (relined T ks) × (entries_from [] (relined T ks) ≡ entries_from [] ks) × (tapes_of (relined T ks) ≡ T)

-- What follows from demand 3 for lines. Where ks and ks' are alike, and ks as it stands is a fair run that opens the same as some fair run of ks',
-- whatever one party sees of ks it would see of lines that deal the numbers of ks'.
abbrev pub LinesHide : Type 0
LinesHide = (ks ks' : List Command) → AlikeSaid ks ks' → (T' : Tapes) → Meet (job_of ks) (job_of ks') (tapes_of ks) T'
    → (U : Place) → Instead U ks ks'

-- 01's example but for its last line: "10,1", "10,2", "1,0,13,5" and "9,0", each with byte 10
abbrev pub asked : List ℕ
asked =
    (49 ∷ 48 ∷ 44 ∷ 49 ∷ 10 ∷ [])
    ++ ((49 ∷ 48 ∷ 44 ∷ 50 ∷ 10 ∷ [])
    ++ ((49 ∷ 44 ∷ 48 ∷ 44 ∷ 49 ∷ 51 ∷ 44 ∷ 53 ∷ 10 ∷ [])
    ++ (57 ∷ 44 ∷ 48 ∷ 10 ∷ [])))

-- and what that prints: "3,0,0,0,0" and "4,0,5,0,1"
abbrev pub answered : List ℕ
answered =
    (51 ∷ 44 ∷ 48 ∷ 44 ∷ 48 ∷ 44 ∷ 48 ∷ 44 ∷ 48 ∷ 10 ∷ []) ++ (52 ∷ 44 ∷ 48 ∷ 44 ∷ 53 ∷ 44 ∷ 48 ∷ 44 ∷ 49 ∷ 10 ∷ [])

-- the last line, "9,3", and what it prints as line n: "n,3,0,0,1"
abbrev pub asked_last : List ℕ
asked_last = 57 ∷ 44 ∷ 51 ∷ []

abbrev pub answered_last : ℕ → List ℕ
answered_last n = (48 + n) ∷ 44 ∷ 51 ∷ 44 ∷ 48 ∷ 44 ∷ 48 ∷ 44 ∷ 49 ∷ 10 ∷ []

-- an empty line, and "9,000000000000000000003" with 21 digits; each prints as line n: "n,13,0,0,1"
abbrev pub unreadable : List ℕ
unreadable = 10 ∷ 57 ∷ 44 ∷ (replicate 20 48 ++ (51 ∷ 10 ∷ []))

abbrev pub answered13 : ℕ → List ℕ
answered13 n = (48 + n) ∷ 44 ∷ 49 ∷ 51 ∷ 44 ∷ 48 ∷ 44 ∷ 48 ∷ 44 ∷ 49 ∷ 10 ∷ []

-- "Input .. a line each, gives exactly": with a last byte 10, without one, and with the two unreadable lines before the last
abbrev pub Listing : Type 0
Listing =
    (output (asked ++ (asked_last ++ (10 ∷ []))) ≡ answered ++ answered_last 5)
    × (output (asked ++ asked_last) ≡ answered ++ answered_last 5)
    × (output (asked ++ (unreadable ++ asked_last)) ≡ answered ++ (answered13 5 ++ (answered13 6 ++ answered_last 7)))
