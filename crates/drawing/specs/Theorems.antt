-- What is printed is what the job program reads as tape lines. Proof: proofs/Theorems.antt.
use Rattle.std.specs.Prelude.{ℕ, zero, suc, ◌+◌, ◌*◌, List, [], ◌∷◌, ◌++◌, map, ◌≡◌, get_or}
use Rattle.line.specs.Lines as job
use Rattle.line.specs.declared.commands.Command.{Command}
use Rattle.line.specs.declared.commands.Command.TheVariants as command
use Rattle.drawing.specs.Draws.{drawn, items_of}
use Rattle.drawing.specs.declared.kinds.Kind.{Kind}
use Rattle.drawing.specs.declared.kinds.Kind.TheVariants.{Dealer, Masks}

-- what line k adds to the tapes
abbrev pub command_at : Kind → ℕ → List ℕ → Command
command_at Masks k ts = command.Masks (get_or ts (3 * k) 0) (get_or ts (3 * k + 1) 0) (get_or ts (3 * k + 2) 0)
command_at Dealer k ts = command.Dealer (get_or ts k 0)

-- what the first n lines add
unfoldable pub commands_of : Kind → ℕ → List ℕ → List Command
commands_of kind zero ts = []
commands_of kind (suc k) ts = commands_of kind k ts ++ (command_at kind k ts ∷ [])

-- whatever the raw bytes: where a draw is not refused, the job program reads n tape lines with the items prepared
abbrev pub ReadAsTapes : Type 0
ReadAsTapes = (code n : ℕ) (kind : Kind) (raw : List ℕ)
    → (drawn code n kind raw).refusal ≡ 0
    → map job.command_of (job.lines_of (drawn code n kind raw).bytes) ≡ commands_of kind n (items_of code n kind raw).run
