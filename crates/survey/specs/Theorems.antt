-- What the program prints, where the system can read all its input, in whatever chunks, and write all its output. Proof: proofs/Theorems.antt.
use Rattle.std.specs.Prelude.{ℕ, false, true, Ok, ◌≡◌}
use mathlib.Core.List.{List, [], ◌∷◌, ◌++◌, flatten}
use Rattle.session.specs.Outputs.{output}
use Rattle.session.specs.Standings.{Standing, begun, printed_for}
use Rattle.survey.specs.Chunks.{Answered, Reached, able, bytes_read, goes_on}

-- the chunks of a run
abbrev pub chunks_of : {v : Standing} {got : Answered} {buf : List ℕ} → Reached v got buf → List (List ℕ)
chunks_of {got = got} {buf = buf} r = r.chunks ++ (bytes_read got buf ∷ [])

-- A run that ends by itself, and of which all could be read and written, prints the output of its input. The rest of the input is what it
-- did not read: nothing, where the last read answered 0.
abbrev pub Prints : Type 0
Prints = (v : Standing) (got : Answered) (buf rest : List ℕ) (r : Reached v got buf)
    → goes_on got v.lines ≡ false
    → able got ≡ true
    → (got ≡ Ok 0 → rest ≡ [])
    → printed_for begun (chunks_of r) ≡ output (flatten (chunks_of r) ++ rest)
