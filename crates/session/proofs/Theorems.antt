-- The facts about what jobs print (specs/Theorems.antt).
use Prim.Native.Nat.{ℕ, suc, ◌≤◌}
use mathlib.Core.List.{List, [], ◌∷◌, ◌++◌, append_assoc, append-nil, flatten}
use mathlib.Core.Path.{◌≡◌, ap, refl, sym, ◌∙◌}
use native.Mathlib.Omega.{arith}
use lib.Dec.{eqb}
use lib.ListN.{length, take}
use Rattle.ring.specs.Modular.{diff}
use Rattle.ring.specs.Rings.{modulus, ring_of}
use Rattle.gate.specs.Places.{total}
use Rattle.machine.specs.Checks.{any_above15, first_met, public_checks}
use Rattle.machine.specs.Orders.{of_kind}
use Rattle.machine.specs.Registers.{empty_machine, million, register_at, sound, sound_register, sound_slots, with_register}
use Rattle.machine.specs.Step.{checks, dealt, opened, step}
use Rattle.line.specs.Lines.{
  all_digits,
  command_of,
  fields_from,
  fits,
  lines_of,
  number_from,
  number_of,
  numbers_of,
  with_numbers,
  with_one,
  with_three,
}
use Rattle.line.specs.Printed.{decimal, decimal_by, printed}
use Rattle.line.specs.Readings.{byte_on}
use Rattle.line.specs.declared.commands.Command.{Command}
use Rattle.line.proofs.FieldLaw.{split}
use Rattle.session.specs.Course.{said}
use Rattle.session.specs.Outputs.{State, declined, item_taken, ordered, output, output_from, started, taken}
use Rattle.session.specs.Standings.{Standing, after_bytes, after_end, begun, printed_at, printed_by, printed_for, printed_last, read_to}
use Rattle.session.specs.Theorems as theorem
use Rattle.session.proofs.AlikeLaw as alike
use Rattle.session.proofs.CourseLaw as courses
use Rattle.session.proofs.OutputLaw as outputs
use Rattle.session.proofs.RecordLaw.{empty_in}
use Rattle.session.proofs.RelinedLaw as relines
use Rattle.session.proofs.TurnLaw.{item_over, masks_over}

pub output-printed : theorem.Output
unfolding output
output-printed bytes = outputs.output_from_lem (suc (length bytes)) bytes (omega arith) started 0

pub in_chunks : theorem.InChunks
unfolding printed_by after_bytes
in_chunks w [] ys = (refl, refl)
in_chunks w (b ∷ xs) ys =
    split (eqb b 10)
    (λ e.
    let onward = in_chunks (after_end w) xs ys in
    rw (e, append_assoc) (ap (λ (l : List ℕ). printed_at w ++ l) onward.0, onward.1))
    (λ e. rw e (in_chunks (read_to w (byte_on w.reading b)) xs ys))

pub stops : theorem.Stops
stops = outputs.stops

-- what chunks print is what their bytes print
in_all : (w : Standing) (chunks : List (List ℕ))
    → printed_for w chunks ≡ printed_by w (flatten chunks) ++ printed_last (after_bytes w (flatten chunks))
unfolding flatten printed_by printed_for after_bytes
in_all w [] = refl
in_all w (c ∷ cs) = let cut = in_chunks w c (flatten cs) in rw (in_all (after_bytes w c) cs, cut.0, cut.1, append_assoc) refl

-- once reading has stopped, the rest of the input and its end print nothing
rest_unread : (bytes rest : List ℕ) → million ≤ (after_bytes begun bytes).lines
    → printed_by begun bytes ++ printed_last (after_bytes begun bytes) ≡ output (bytes ++ rest)
unfolding after_bytes
rest_unread bytes rest late =
    let v = after_bytes begun bytes in
    let cut = in_chunks begun bytes rest in
    let none = append-nil (printed_by begun bytes) in
    rw (← output-printed (bytes ++ rest), cut.0, cut.1, (stops v late rest).0, (stops v late rest).1, (stops v late []).1, none, none) refl

pub whole : theorem.Whole
whole chunks = (
  in_all begun chunks ∙ output-printed (flatten chunks),
  λ rest late. in_all begun chunks ∙ rest_unread (flatten chunks) rest late,
)

pub starts : theorem.Starts
unfolding started
starts j words lines channels count read = rw (words, lines, channels.0, channels.1.0, channels.1.1, count, read, empty_in) refl

prints_13 : (n : ℕ) (s : State) (l : List ℕ) (ls : List (List ℕ)) {k : Command} → command_of l ≡ k → taken s k ≡ declined s
    → theorem.Prints13 n s l ls
unfolding output_from
prints_13 n s l ls e none = rw (e, none) refl

pub refused : theorem.Refused
refused n s l ls = (
  λ e. prints_13 n s l ls e refl,
  λ t₀ t₁ t₂ e h. prints_13 n s l ls e (masks_over s t₀ t₁ t₂ h),
  λ item e h. prints_13 n s l ls e (item_over s item h),
)

pub course-read : theorem.CourseRead
course-read = courses.course-read

pub run-read : theorem.RunRead
run-read = courses.run-read

pub printed-read : theorem.PrintedRead
printed-read = courses.printed-read

pub alike_read : theorem.AlikeRead
alike_read = alike.alike_read

pub printed-seen : theorem.PrintedSeen
printed-seen = alike.printed-seen

pub prints_same : theorem.PrintsSame
unfolding output
prints_same U bytes bytes' a e =
    let ls = take million (lines_of bytes) in
    let ls' = take million (lines_of bytes') in
    printed-read ls ∙ printed-seen U (said ls) (said ls') a _ _ e ∙ sym (printed-read ls')

pub relined-run : theorem.Relined
relined-run = relines.relined-run

pub lines_hide : theorem.LinesHide
lines_hide = relines.lines_hide

pub listing : theorem.Listing
unfolding diff modulus ring_of total any_above15 first_met public_checks empty_machine register_at sound sound_register sound_slots with_register checks dealt opened step all_digits command_of fields_from fits lines_of number_from number_of numbers_of with_numbers with_one with_three of_kind decimal decimal_by printed item_taken ordered started output_from output
listing = (refl, refl, refl)
