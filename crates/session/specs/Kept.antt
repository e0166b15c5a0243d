-- What the code keeps of a job, as the definitions' state. Used by the code's contracts, and by the theorem `Starts`.
use Rattle.std.specs.Prelude.{ℕ, List, ◌≡◌, length}
use Rattle.gate.specs.Places.{Place, three}
use Rattle.machine.specs.Checks.{Tapes}
use Rattle.session.specs.Outputs.{State, state, tapes}
use Rattle.session.specs.Standings.{Standing, standing}
use Rattle.session.specs.declared.jobs.Job.{Job}
use Rattle.session.specs.declared.lent.LentJob.{LentJob}
use Rattle.session.specs.declared.states.Kept.{Kept}
use Rattle.session.specs.declared.tapes.TapeLines.{TapeLines}

-- the items of the tape lines taken
abbrev pub tapes_in : TapeLines → Tapes
tapes_in t = tapes t.m0.items t.m1.items t.m2.items t.dealer.items

-- what the lines so far leave
abbrev pub state_of : Kept → State
state_of k = state k.record (tapes_in k.tapes) (three k.c0 k.c1 k.c2)

-- and where the job stands
abbrev pub standing_of : Job → Standing
standing_of j = standing (state_of j.kept) j.lines j.reading

-- the same of a job that is lent
abbrev pub wires : LentJob → Place → List ℕ
wires j = three j.c0.now j.c1.now j.c2.now

abbrev pub state_on : LentJob → State
state_on j = state j.record.now (tapes_in j.tapes.now) (wires j)

abbrev pub standing_on : LentJob → Standing
standing_on j = standing (state_on j) j.lines j.reading

-- what was lent still is, and each wire is as long as it was
pub record SameLent (v w : LentJob) : Type 0 where
  pub machine : w.«record».ghost_name ≡ v.«record».ghost_name
  pub tapes : w.tapes.ghost_name ≡ v.tapes.ghost_name
  pub c0 : w.c0.ghost_name ≡ v.c0.ghost_name
  pub c1 : w.c1.ghost_name ≡ v.c1.ghost_name
  pub c2 : w.c2.ghost_name ≡ v.c2.ghost_name
  pub long : (i : Place) → length (wires w i) ≡ length (wires v i)
