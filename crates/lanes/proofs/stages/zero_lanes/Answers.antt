use mathlib.Core.Path.{refl}
use Rattle.std.proofs.Common.{rules}
use Rattle.gate.specs.Words.{GateWords}
use Rattle.circuit.specs.Loans.{items_next}
use Rattle.lanes.proofs.GateLaw.{one_sent, sends_of}
use Rattle.lanes.proofs.StageLaw.{zeroed}
use Rattle.lanes.proofs.stages.zero_lanes.Goals as goal

pub returns : goal.returns
returns c =
    let words : GateWords c.at-left.result c.at-right.result (items_next c.args.lent.now) c.gate-z.result = search rules in
    sends_of (one_sent refl c.requires c.gate-z.ensures.sent)
    (zeroed c.args.s.now c.at-left.result c.at-right.result (items_next c.args.lent.now) c.gate-z.result c.bitxor.result c.bitxor-2.result
    c.at-left.ensures.whole c.at-left.ensures.is c.at-right.ensures.is words c.bitxor.ensures c.bitxor-2.ensures)
