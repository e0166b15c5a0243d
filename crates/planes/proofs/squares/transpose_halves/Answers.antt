use Rattle.planes.proofs.MaskLaw.{five_levels}
use Rattle.planes.proofs.squares.transpose_halves.Goals as goal

pub returns-clause-is : goal.returns-clause-is
returns-clause-is c = search five_levels
