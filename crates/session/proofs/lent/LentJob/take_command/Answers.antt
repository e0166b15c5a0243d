-- A tape line by its function.
use Rattle.session.specs.Kept.{wires}
use Rattle.session.proofs.lent.LentJob.take_command.Goals as goal

pub returns-in-Masks-clause-is : goal.returns-in-Masks-clause-is
returns-in-Masks-clause-is c =
    let k = c.args.self.now in
    rw c.in-Masks.is (c.add_masks.ensures k.«record».now (wires k))

pub returns-in-Dealer-clause-is : goal.returns-in-Dealer-clause-is
returns-in-Dealer-clause-is c =
    let k = c.args.self.now in
    rw c.in-Dealer.is (c.add_item.ensures k.«record».now (wires k))
