-- Invariant: j gates ran for each figure, and j planes of the result are there.
use mathlib.Core.Path.{◌≡◌, ap, refl, ◌∙◌}
use native.Mathlib.Omega.{arith}
use Rattle.std.proofs.Common.{rules}
use Rattle.gate.specs.Words.{GateWords}
use Rattle.circuit.specs.Loans.{items_next}
use Rattle.circuit.proofs.LoanLaw.{room_later, sends_then}
use Rattle.planes.specs.Planes.{with_planes}
use Rattle.planes.proofs.PlaceLaw.{none_kept}
use Rattle.lanes.proofs.GateLaw.{nothing_sent, one_sent, sends_of}
use Rattle.lanes.proofs.StageLaw.{rising_all, rising_more, rising_none}
use Rattle.lanes.proofs.stages.raising_lanes.Goals as goal

pub loop-j-init : goal.loop-j-init
loop-j-init c =
    (nothing_sent _ (rising_none _ _ _ _), (λ e far none. none))

pub gate-z-requires-clause-room : goal.gate-z-requires-clause-room
gate-z-requires-clause-room c = room_later c.loop-j.j 1 (omega (arith, c.loop-j-test.true)) c.requires.room c.loop-j.invariant.0

pub loop-j-preserved : goal.loop-j-preserved
loop-j-preserved c =
    let head = c.loop-j in
    let now = c.store in
    let words : GateWords c.at-b.result head.carry (items_next head.lent) c.gate-z.result = search rules in
    let room = room_later head.j 1 (omega (arith, c.loop-j-test.true)) c.requires.room head.invariant.0 in (
      sends_then head.invariant.0 (one_sent refl room c.gate-z.ensures.sent)
          (rising_more head.j _ _ _ head.o now.new.self head.carry c.at-b.result (items_next c.loop-j.lent) c.gate-z.result
          c.loop-j-test.true c.requires.count now.ensures.whole c.at-b.ensures.is words
          (now.ensures.is ∙ ap (with_planes head.o head.j) c.bitxor.ensures)),
      (λ e far none. none_kept head.o c.bitxor.result (omega (arith, c.loop-j-test.true, far)) now.ensures.is (head.invariant.1 e far none)),
    )

pub returns-clause-is : goal.returns-clause-is
returns-clause-is c =
    let head = c.loop-j in
    let last = c.store-2 in
    let same : head.j ≡ c.args.n = omega (arith, c.loop-j-test.false) in
    sends_of (rw same at head.invariant.0)
    (rising_all head.o last.new.self head.carry c.at-top.result c.requires.count last.ensures.whole c.at-top.ensures.is
    (last.ensures.is ∙ ap (with_planes head.o c.args.n) c.bitxor-2.ensures))
