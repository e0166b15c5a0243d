-- Lengths that are refused, and those that give the gates what they take.
use Prim.Native.Nat.{◌+◌}
use mathlib.Core.Path.{refl, ap, ◌∙◌}
use Rattle.gate.specs.Places.{three}
use Rattle.machine.specs.Checks.{Lengths, first_met, gate_checks}
use Rattle.order.specs.Sources.{public_at}
use Rattle.order.proofs.CostLaw.{costs}
use Rattle.order.proofs.StepLaw.{passed_change}
use Rattle.attempt.proofs.AttemptLaw.{enough, long_enough, short}
use Rattle.attempt.proofs.attempts.perform.Goals as goal

pub returns-in_err-room : goal.returns-in_err-room
returns-in_err-room c = λ m of seat.
    let a = c.args in
    let k = c.cost-k.result in
    let told = c.in_err-room.ensures ∙ ap (λ (l : Lengths). first_met (gate_checks (k.bits + k.ring) (public_at a.at) l)) c.of.ensures in
    passed_change m _ _ c.from_residual.ensures.1
    (short a.t a.d m (costs a.t c.requires.fit c.cost-k.ensures) of (three a.m0.now a.m1.now a.m2.now) (three a.c0.now a.c1.now a.c2.now) told _ refl)

pub run-requires : goal.run-requires
run-requires c =
    let a = c.args in
    let k = c.cost-k.result in
    let told = c.in_ok-room.ensures ∙ ap (λ (l : Lengths). first_met (gate_checks (k.bits + k.ring) (public_at a.at) l)) c.of.ensures in
    let long = long_enough a.at (k.bits + k.ring) a.m0.now a.m1.now a.m2.now a.c0.now a.c1.now a.c2.now told in
    record { fit = c.requires.fit; cost = c.cost-k.ensures; masks = long.0; room = long.1 }

pub returns : goal.returns
returns c = λ m of seat.
    let a = c.args in
    let k = c.cost-k.result in
    let told = c.in_ok-room.ensures ∙ ap (λ (l : Lengths). first_met (gate_checks (k.bits + k.ring) (public_at a.at) l)) c.of.ensures in
    enough a.t a.d m (costs a.t c.requires.fit c.cost-k.ensures) of (three a.m0.now a.m1.now a.m2.now) (three a.c0.now a.c1.now a.c2.now)
    told {l = three c.run.new.c0 c.run.new.c1 c.run.new.c2} refl (c.run.ensures m of seat)
