use Rattle.attempt.proofs.ItemsLaw.{beyond_high, topped_le}
use Rattle.attempt.proofs.items.beyond.Goals as goal

pub overflow_sub-result : goal.overflow_sub-result
overflow_sub-result c =
    topped_le c.args.w c.args.p c.requires

pub returns : goal.returns
returns c =
    beyond_high c.args.w c.args.p c.requires
