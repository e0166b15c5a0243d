use Rattle.planes.proofs.MaskLaw.{sixth_level}
use Rattle.planes.proofs.squares.transpose.Goals as goal

pub returns-clause-is : goal.returns-clause-is
returns-clause-is c = search sixth_level
