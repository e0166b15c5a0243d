use Rattle.layout.proofs.SaysLaw.{risen}
use Rattle.layout.proofs.records.rise.Goals as goal

pub returns : goal.returns
returns c = λ m says.
    risen says _ _ _
