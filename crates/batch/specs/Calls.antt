-- A batch in code: its ring, and what an answer says.
-- Used by the code's contracts alone: no theorem's statement speaks of it.
use Rattle.std.specs.Prelude.{ℕ, cond, List, eqb, Some, None, Option, Result}
use Rattle.ring.specs.declared.rings.Ring.{Ring}
use Rattle.ring.specs.declared.rings.Ring.TheVariants.{R31, R61}
use Rattle.gate.specs.Places.{Place}
use Rattle.machine.specs.declared.answers.Done.{Done}
use Rattle.machine.specs.declared.answers.Refusal.{Refusal}
use Rattle.order.specs.Answers.{gates_of, refusal_of, value_of}
use Rattle.batch.specs.Batch.{Outcome}

-- "of one ring, 31 or 61"
unfoldable pub batch_ring : ℕ → Option Ring
batch_ring e = cond (eqb e 31) (Some R31) (cond (eqb e 61) (Some R61) None)

-- an answer, with the channels and results that a call leaves
abbrev pub answered : Result Done Refusal → (c z : Place → List ℕ) → Outcome
answered a c z = record { refusal = refusal_of a; value = value_of a; gates = gates_of a; channels = c; results = z }
