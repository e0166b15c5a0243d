-- What a call from another language leaves, on words.
use Rattle.std.specs.Prelude.{ℕ, cond, List, [], ◌∷◌, eqb, length, Some, None, Option}
use Rattle.machine.specs.declared.orders.Order.{Order}
use Rattle.gate.specs.Places.{Place}
use Rattle.machine.specs.Checks.{Tapes}
use Rattle.machine.specs.Step.{Outcome, step}
use Rattle.tape.specs.Tapes as prepared
use Rattle.batch.specs.Batch as batches
use Rattle.machine.specs.declared.registers.Machine.{Machine}
use Rattle.layout.specs.Layout.{machine_of, machine_words, order_of}

-- the number returned for words in no layout: 02's refusals 14 to 22 stay free
abbrev pub malformed : ℕ
malformed = 100

-- the number returned, and the words of record, answer and channels
pub record Left : Type 0 where
  pub returned : ℕ
  pub machine : List ℕ
  pub answer : List ℕ
  pub channels : Place → List ℕ

abbrev pub left : ℕ → (m a : List ℕ) → (Place → List ℕ) → Left
left n m a c = record { returned = n; machine = m; answer = a; channels = c }

-- what an outcome leaves
abbrev pub left_by : Outcome → Left
left_by o = left o.refusal (machine_words o.machine) (o.refusal ∷ o.value ∷ o.gates ∷ []) o.channels

-- a step where order and record are read, else what the last argument leaves
abbrev pub step_read : Option Order → Option Machine → Tapes → (Place → List ℕ) → Left → Left
step_read (Some o) (Some m) T c u = left_by (step o m T c)
step_read (Some o) None T c u = u
step_read None f T c u = u

-- malformed and nothing changed for words in no layout, else 01's step
unfoldable pub step_words : (o m a : List ℕ) → Tapes → (Place → List ℕ) → Left
step_words o m a T c =
    let unchanged = left malformed m a c in
    cond (eqb (length a) 3) (step_read (order_of o) (machine_of m) T c unchanged) unchanged

-- the number returned, and the words of run and answer
pub record Tape : Type 0 where
  pub returned : ℕ
  pub run : List ℕ
  pub answer : List ℕ

abbrev pub tape : ℕ → (run a : List ℕ) → Tape
tape n run a = record { returned = n; run = run; answer = a }

abbrev pub tape_by : prepared.Outcome → Tape
tape_by o = tape o.refusal o.run (o.refusal ∷ o.count ∷ [])

-- malformed and nothing changed where the answer has not two words, else 01's preparation
unfoldable pub prepare_words : (code : ℕ) (raw run a : List ℕ) → Tape
prepare_words code raw run a = cond (eqb (length a) 2) (tape_by (prepared.prepared code raw run)) (tape malformed run a)

-- the number returned, and the words of channels, results and answer
pub record Decomposed : Type 0 where
  pub returned : ℕ
  pub channels : Place → List ℕ
  pub results : Place → List ℕ
  pub answer : List ℕ

abbrev pub decomposed : ℕ → (c z : Place → List ℕ) → (a : List ℕ) → Decomposed
decomposed n c z a = record { returned = n; channels = c; results = z; answer = a }

abbrev pub decomposed_by : batches.Outcome → Decomposed
decomposed_by o = decomposed o.refusal o.channels o.results (o.refusal ∷ o.value ∷ o.gates ∷ [])

-- malformed and nothing changed where the answer has not three words, else 02's batch
unfoldable pub batch_words : (e l : ℕ) → (x T c z : Place → List ℕ) → (a : List ℕ) → Decomposed
batch_words e l x T c z a = cond (eqb (length a) 3) (decomposed_by (batches.batch e l x T c z)) (decomposed malformed c z a)
