-- The parts of the runs from the record's positions on: their items, and then the gates.
use Prim.Native.Nat.{ℕ, ◌+◌}
use Rattle.circuit.proofs.LentLaw.{long_on}
use Rattle.order.proofs.CostLaw.{costs}
use Rattle.attempt.proofs.AttemptLaw.{bad_tried, gates-tried}
use Rattle.attempt.proofs.SupplyLaw.{cost_modulus, supplied}
use Rattle.attempt.proofs.attempts.run.Goals as goal

pub bad_items-requires : goal.bad_items-requires
bad_items-requires c =
    let a = c.args in
    record { modulus = cost_modulus _ c.requires.cost; long = long_on (a.k.bits + a.k.ring) a.at.masks c.requires.masks }

pub returns-then-bad_items : goal.returns-then-bad_items
returns-then-bad_items c = λ m of seat.
    bad_tried _ _ m (costs _ c.requires.fit c.requires.cost) of _ _ _ _ _ _
    c.bad_items.ensures c.if-bad_items.true

pub words-z-requires : goal.words-z-requires
words-z-requires c =
    let a = c.args in
    let n : ℕ = a.k.bits + a.k.ring in record {
      fit = c.requires.fit;
      supplied = supplied _ c.requires.cost (long_on n a.at.masks c.requires.masks)
          (long_on n a.at.channels c.requires.room) c.bad_items.ensures c.if-bad_items.false;
    }

pub returns : goal.returns
returns c = λ m of seat.
    gates-tried _ _ m (costs _ c.requires.fit c.requires.cost) of _ _ _ _ _ _
    c.bad_items.ensures c.if-bad_items.false seat
    c.words-z.ensures c.left.ensures
