-- A shift composes with items of its ring.
use mathlib.Core.Path.{refl}
use Rattle.attempt.proofs.SupplyLaw.{items_whole}
use Rattle.attempt.proofs.words.words.Goals as goal

pub shift-requires-clause-items : goal.shift-requires-clause-items
shift-requires-clause-items c = let supplied = rw c.in-Shift.is at c.requires.supplied in items_whole refl supplied.items
