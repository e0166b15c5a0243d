use Rattle.planes.proofs.PlaceLaw.{empty_planes}
use Rattle.planes.proofs.places.Planes.new.Goals as goal

pub returns : goal.returns
returns c = empty_planes
