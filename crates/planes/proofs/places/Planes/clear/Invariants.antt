use Rattle.planes.specs.Planes.{NoPlanes}
use Rattle.planes.proofs.PlaceLaw.{ClearedTo}
use Rattle.planes.proofs.places.Planes.clear.Given as goal

abbrev pub invariant-loop-j : goal.invariant-loop-j
invariant-loop-j l = NoPlanes l.e l.self × ClearedTo l.n l.j l.initial.self l.self
