-- The hypotheses of `LinesHide` (crate `session`, specs/Theorems.antt) hold of lines that deal 5 and 7, and 4 and 8: both open 12.
use Prim.Native.Nat.{ℕ}
use mathlib.Core.List.{[], ◌∷◌, flatten}
use mathlib.Core.Path.{◌≡◌, refl}
use Rattle.gate.specs.Places.{Place, p0, p1, p2}
use Rattle.machine.specs.Registers.{empty_machine}
use Rattle.act.specs.Jobs.{IsRun, Words, opens}
use Rattle.act.specs.Secrecy.{Meet}
use Rattle.session.specs.Course.{AlikeCommands, AlikeSaid, Instead, entries_from, job_of, tapes_of}
use Rattle.session.proofs.Theorems.{lines_hide}
use Rattle.example.proofs.Example.{course_open}
use Rattle.example.proofs.TestLaw.{all_words, fair_of, fairly, words_of}
use Rattle.example_lines.specs.Lines.{dealing}

alike-lines : AlikeSaid (dealing 5 7) (dealing 4 8)
alike-lines =
    AlikeSaid.more AlikeCommands.dealer (AlikeSaid.more AlikeCommands.dealer
    (AlikeSaid.more AlikeCommands.dealer (AlikeSaid.more AlikeCommands.dealer
    (AlikeSaid.more (AlikeCommands.order refl) (AlikeSaid.more (AlikeCommands.order refl)
    (AlikeSaid.more (AlikeCommands.order refl) (AlikeSaid.more (AlikeCommands.order refl) AlikeSaid.done)))))))

masks_of : (a b : ℕ) (i : Place) → Words ((job_of (dealing a b)).masks_length i) ((tapes_of (dealing a b)).masks i)
unfolding tapes_of flatten all_words
masks_of a b p0 = words_of [] refl
masks_of a b p1 = words_of [] refl
masks_of a b p2 = words_of [] refl

run_of : (a b : ℕ) → IsRun (job_of (dealing a b)) (tapes_of (dealing a b))
unfolding tapes_of flatten all_words
run_of a b = record { masks = masks_of a b; dealer = words_of (1 ∷ 2 ∷ 3 ∷ 4 ∷ []) refl }

meet_lines : Meet (job_of (dealing 5 7)) (job_of (dealing 4 8)) (tapes_of (dealing 5 7)) (tapes_of (dealing 4 8))
unfolding course_open fairly tapes_of flatten entries_from
meet_lines =
    record {
      run_j = run_of 5 7;
      run_k = run_of 4 8;
      fair_j = fair_of (job_of (dealing 5 7)).entries empty_machine (job_of (dealing 5 7)).channels (tapes_of (dealing 5 7)) refl;
      fair_k = fair_of (job_of (dealing 4 8)).entries empty_machine (job_of (dealing 4 8)).channels (tapes_of (dealing 4 8)) refl;
      opened = refl;
    }

-- both open 12
pub opens_these : opens (job_of (dealing 5 7)) (tapes_of (dealing 5 7)) ≡ 12 ∷ []
unfolding course_open tapes_of flatten entries_from
opens_these = refl

-- so to every party the lines that deal 5 and 7 look as some that deal 4 and 8
pub hidden-lines : (U : Place) → Instead U (dealing 5 7) (dealing 4 8)
hidden-lines = lines_hide (dealing 5 7) (dealing 4 8) alike-lines (tapes_of (dealing 4 8)) meet_lines
