-- The hypotheses of demand 3 (crate `act`, specs/Secrecy.antt) hold of two runs that hold different numbers, so it says something of them.
use mathlib.Core.List.{List, [], ◌∷◌}
use mathlib.Core.Path.{◌≡◌, refl}
use Rattle.ring.specs.Modular.{diff}
use Rattle.ring.specs.Rings.{bit_of, modulus, quarter, ring_of}
use Rattle.gate.specs.Gates.{crossed, gated, mask, word}
use Rattle.gate.specs.Places.{Place, next, p0, p1, p2, total}
use Rattle.circuit.specs.Bits.{exclusive, gather}
use Rattle.circuit.specs.Circuits.{after, channelled, ends, result, sent, upto, words}
use Rattle.circuit.specs.Compose.{compose_gates, first_gate, second_gate}
use Rattle.circuit.specs.Decompose.{carry_gate, decompose_gates, raising_gate, running_gate, zero_gate}
use Rattle.circuit.specs.Orders.{addition, composition, conversion, decomposition, multiplication, quotient_gate, scaling, shifting}
use Rattle.view.specs.Views.{lacked_by}
use Rattle.machine.specs.Checks.{Tapes, any_above15, any_bad, any_outside, first_met, public_checks}
use Rattle.machine.specs.Registers.{empty_machine, register_at, sound, sound_register, sound_slots, with_register}
use Rattle.machine.specs.Step.{checks, computed, dealt, opened, step}
use Rattle.machine.specs.declared.registers.Machine.{Machine}
use Rattle.act.specs.Jobs.{Alike, AlikeLists, Entry, Fair, IsRun, Job, Outcome, Words, course, course_from, opened_from, opens, views}
use Rattle.act.specs.Jobs as jobs
use Rattle.act.specs.Secrecy.{Change, Hides, Meet}
use Rattle.protocol.specs.Orders.{orders}
use Rattle.protocol.proofs.Secrecy.{secrecy}
use Rattle.example.specs.Example.{first_job, second_job, first_tapes, second_tapes, after_deals, dealing}
use Rattle.example.specs.Figures.{far, hidden, lines, lines_from, own, table, values, values_from, values_j, values_k, with_hidden}
use Rattle.example.proofs.TestLaw.{all_words, fair_of, fairly, words_of}

-- a run's course, with all that it computes with
unfoldable pub course_open : Job orders → Tapes → List (Outcome Machine)
unfolding diff bit_of modulus quarter ring_of crossed gated mask word total exclusive gather after channelled ends result sent upto words compose_gates first_gate second_gate carry_gate decompose_gates raising_gate running_gate zero_gate addition composition conversion decomposition multiplication quotient_gate scaling shifting any_above15 any_bad any_outside first_met public_checks empty_machine register_at sound sound_register sound_slots with_register checks computed dealt opened step course_from opened_from first_tapes second_tapes dealing after_deals
course_open first_job first_tapes = course first_job first_tapes

-- the two runs: what is answered, and the values held at the end
pub answers : lines first_job first_tapes ≡ table
unfolding course_open lines_from
answers = refl

pub answers' : lines second_job second_tapes ≡ table
unfolding course_open lines_from
answers' = refl

pub holds : values first_job first_tapes ≡ values_j
unfolding course_open values_from
holds = refl

pub holds' : values second_job second_tapes ≡ values_k
unfolding course_open values_from
holds' = refl

-- "two jobs alike in all but the numbers dealt"
unfoldable pub like_itself : (es : List (Entry orders)) → AlikeLists es es
like_itself [] = jobs.done
like_itself (e ∷ es) = jobs.more (record { act = refl; masks_lent = refl; dealer_lent = refl }) (like_itself es)

unfoldable pub alike : Alike first_job second_job
unfolding dealing
alike =
    record {
      entries = jobs.more (record { act = refl; masks_lent = refl; dealer_lent = refl })
          (jobs.more (record { act = refl; masks_lent = refl; dealer_lent = refl }) (like_itself after_deals));
      channels = refl;
      masks_length = refl;
      dealer_length = refl;
    }

-- "A run is a job with four tapes of those lengths"
masks_long : (i : Place) → Words (first_job.masks_length i) (first_tapes.masks i)
unfolding course_open all_words
masks_long p0 = words_of (first_tapes.masks p0) refl
masks_long p1 = words_of (first_tapes.masks p1) refl
masks_long p2 = words_of (first_tapes.masks p2) refl

masks_long' : (i : Place) → Words (second_job.masks_length i) (second_tapes.masks i)
unfolding course_open
masks_long' p0 = masks_long p1
masks_long' p1 = masks_long p2
masks_long' p2 = masks_long p0

pub run : IsRun first_job first_tapes
unfolding course_open all_words
run = record { masks = masks_long; dealer = words_of first_tapes.dealer refl }

run' : IsRun second_job second_tapes
unfolding course_open all_words
run' = record { masks = masks_long'; dealer = words_of second_tapes.dealer refl }

-- both runs are fair, and open the same
fair : Fair first_job first_tapes
unfolding course_open fairly
fair = fair_of first_job.entries empty_machine first_job.channels first_tapes refl

fair' : Fair second_job second_tapes
unfolding course_open fairly
fair' = fair_of second_job.entries empty_machine second_job.channels second_tapes refl

pub opens_these : opens first_job first_tapes ≡ 12 ∷ 1 ∷ 4 ∷ []
unfolding course_open
opens_these = refl

opens_same : opens first_job first_tapes ≡ opens second_job second_tapes
unfolding course_open
opens_same = refl

pub meet : Meet first_job second_job first_tapes second_tapes
meet = record { run_j = run; run_k = run'; fair_j = fair; fair_k = fair'; opened = opens_same }

-- so there is a change for every party, and the run of first_job looks to it as one of second_job does
unfoldable pub applies : (U : Place) → Change first_job second_job U (own U) (far U)
applies U = secrecy first_job second_job alike U (own U) (far U) (run.masks U) (run.masks (next U))

hides : (U : Place) → Hides first_job U (hidden U)
hides U = record { dealer = run.dealer; lacked = run.masks (lacked_by U) }

pub sees_same : (U : Place) → views U first_job first_tapes ≡ views U second_job (with_hidden U ((applies U).to (hidden U)))
unfolding first_tapes
sees_same p0 = (applies p0).alike first_tapes second_tapes meet (hidden p0) (hides p0) fair
sees_same p1 = (applies p1).alike first_tapes second_tapes meet (hidden p1) (hides p1) fair
sees_same p2 = (applies p2).alike first_tapes second_tapes meet (hidden p2) (hides p2) fair
