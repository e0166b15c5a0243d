-- Invariant: i gates ran for each figure, planes 0 to i are the total's, and carries stand from there on.
use mathlib.Core.Path.{◌≡◌, refl}
use native.Mathlib.Omega.{arith}
use Rattle.std.proofs.Common.{rules}
use Rattle.circuit.specs.Loans.{items_next}
use Rattle.circuit.proofs.LoanLaw.{room_later, sends_then}
use Rattle.planes.specs.Planes.{MajorityWords}
use Rattle.lanes.proofs.GateLaw.{nothing_sent, one_sent, sends_of}
use Rattle.lanes.proofs.StageLaw.{summing_all, summing_more, summing_none}
use Rattle.lanes.proofs.stages.running_lanes.Goals as goal

pub loop-i-init : goal.loop-i-init
loop-i-init c =
    nothing_sent c.args.lent.now (summing_none c.args.n c.zeros-last.ensures c.total_in.ensures.whole c.total_in.ensures.is)

pub gate-z-requires-clause-room : goal.gate-z-requires-clause-room
gate-z-requires-clause-room c = room_later c.loop-i.i 1 (omega (arith, c.loop-i-test.true)) c.requires.room c.loop-i.invariant

pub loop-i-preserved : goal.loop-i-preserved
loop-i-preserved c =
    let head = c.loop-i in
    let now = c.total_in-in-loop-i in
    let words : MajorityWords c.at-b.result c.at-u.result head.last (items_next head.lent) c.gate-z.result = search rules in
    let room = room_later head.i 1 (omega (arith, c.loop-i-test.true)) c.requires.room head.invariant in
    sends_then head.invariant (one_sent refl room c.gate-z.ensures.sent)
    (summing_more head.i _ _ _ head.s now.new.s head.last c.bitxor-last.result c.at-b.result c.at-u.result
    (items_next c.loop-i.lent) c.gate-z.result c.loop-i-test.true c.requires.count now.ensures.whole c.at-b.ensures.is c.at-u.ensures.is
    words now.ensures.is c.bitxor-last.ensures)

pub returns : goal.returns
returns c =
    let head = c.loop-i in
    let top = c.total_in-2.ensures in
    let same : head.i ≡ c.args.n = omega (arith, c.loop-i-test.false) in
    sends_of (rw same at head.invariant) (summing_all c.requires.count top.whole top.is)
