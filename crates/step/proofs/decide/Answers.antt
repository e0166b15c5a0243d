-- Each way is the definition's step.
use mathlib.Core.Path.{◌≡◌, ◌∙◌, ap}
use Rattle.machine.specs.declared.orders.Order.{Order}
use Rattle.machine.specs.declared.registers.Machine.{Machine}
use Rattle.order.specs.Sources.{sources_in}
use Rattle.order.specs.declared.sources.Sources.{Sources}
use Rattle.step.specs.Ways.{Takes}
use Rattle.step.specs.declared.ways.Way.{Way}
use Rattle.step.proofs.StepLaw.{dealing, gates-at, sources_found, stepped, taken}
use Rattle.step.proofs.decide.Goals as goal

-- the way that was told
takes : {s : Sources} (o : Order) {r w : Way} → ((m : Machine) → s ≡ sources_in m o → Takes o m r) → r ≡ w
    → (m : Machine) → s ≡ sources_in m o → Takes o m w
takes o told e m is = rw e at (told m is)

pub returns-in-Deal : goal.returns-in-Deal
returns-in-Deal c = λ m is.
    let o = c.args.o in
    taken _ _ (takes o c.way_of.ensures c.in-Deal.is m (sources_found m o is)) (c.deal.ensures m (dealing m o is) _ _)

pub returns-in-Attempt : goal.returns-in-Attempt
returns-in-Attempt c = λ m is.
    let o = c.args.o in
    let prepares = takes o c.way_of.ensures c.in-Attempt.is m (sources_found m o is) in
    stepped _ _ _ prepares (c.attempt.ensures m (gates-at m o is) prepares.ready)

pub returns-in-Open : goal.returns-in-Open
returns-in-Open c = λ m is.
    let o = c.args.o in
    let from = sources_found m o is in
    let e = takes o c.way_of.ensures c.in-Open.is m from in
    taken _ _ e (c.open.ensures m (from ∙ ap (sources_in m) e) (gates-at m o is).channels _)
