-- The change of what party 1 does not see of the run of first_job, worked out.
use mathlib.Core.Path.{◌≡◌, refl}
use native.Mathlib.Decide.{ℕ_discrete}
use Rattle.gate.specs.Gates.{item, unmask}
use Rattle.gate.specs.Places.{p1, p2}
use Rattle.view.specs.Views.{decode, lacked_item}
use Rattle.machine.specs.Registers.{empty_machine}
use Rattle.act.specs.Acts.{step}
use Rattle.act.specs.Changes.{decoded}
use Rattle.act.specs.Jobs.{Fair, views}
use Rattle.act.specs.Secrecy.{Hides}
use Rattle.act.specs.Works.{shares_after, words_from}
use Rattle.act.proofs.InverseLaw.{change}
use Rattle.act.proofs.Secrecy.{act_entries, lists_alike, to_is}
use Rattle.protocol.proofs.Secrecy.{orders_perform_acts, secrecy}
use Rattle.example.specs.Example.{first_job, second_job, first_tapes}
use Rattle.example.specs.Figures.{far, hidden, image, own, with_hidden}
use Rattle.example.proofs.Example.{alike, applies, course_open, like_itself, run}
use Rattle.example.proofs.TestLaw.{all_words, fair_of, fairly, words_of}

pub changed : (applies p1).to (hidden p1) ≡ image
unfolding course_open decoded decode lacked_item item unmask image change ℕ_discrete alike like_itself applies secrecy orders_perform_acts step shares_after words_from act_entries lists_alike
changed = to_is orders_perform_acts first_job second_job alike p1 (own p1) (far p1) (run.masks p1) (run.masks p2) (hidden p1)

-- with it the run of second_job is fair, and party 1 sees what it sees of the run of first_job
pub image_hides : Hides second_job p1 image
unfolding course_open image all_words
image_hides = record { dealer = words_of image.dealer refl; lacked = words_of image.lacked refl }

pub image_fair : Fair second_job (with_hidden p1 image)
unfolding course_open image fairly
image_fair = fair_of second_job.entries empty_machine second_job.channels (with_hidden p1 image) refl

pub image_sees_same : views p1 first_job first_tapes ≡ views p1 second_job (with_hidden p1 image)
unfolding course_open image
image_sees_same = refl
