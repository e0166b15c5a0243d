use mathlib.Core.Path.{ap, sym, ◌∙◌}
use Rattle.ring.specs.Rings.{width_of}
use Rattle.gate.specs.Places.{three}
use Rattle.machine.specs.Checks.{Lengths, first_met}
use Rattle.batch.specs.Batch.{figure_checks}
use Rattle.batch.proofs.CodeLaw.{passed_answer, ready, settled_because, settled-done}
use Rattle.batch.proofs.calls.in_ring.Goals as goal

pub returns-in_err-figures_why : goal.returns-in_err-figures_why
returns-in_err-figures_why c =
    let a = c.args in
    let shares = three a.a0.now a.a1.now a.a2.now in
    passed_answer _ _ c.from_residual.ensures.1
    (settled_because (width_of a.r) a.l shares (three a.m0.now a.m1.now a.m2.now)
    (three a.c0.now a.c1.now a.c2.now) (three a.z0.now a.z1.now a.z2.now) _
    (c.in_err-figures_why.ensures ∙ ap (λ (n : Lengths). first_met (figure_checks (width_of a.r) a.l shares n)) c.of.ensures))

pub run-requires : goal.run-requires
run-requires c =
    let a = c.args in
    let shares = three a.a0.now a.a1.now a.a2.now in
    let good = ready a.r a.l a.a0.now a.a1.now a.a2.now a.m0.now a.m1.now a.m2.now a.c0.now a.c1.now a.c2.now
    (c.in_ok-figures_why.ensures ∙ ap (λ (n : Lengths). first_met (figure_checks (width_of a.r) a.l shares n)) c.of.ensures) in
    record {
      count = good.0;
      masks = good.1.0;
      channels = good.1.1.0;
      lengths = c.requires.lengths;
      results = c.requires.results;
      source = good.1.1.1;
    }

pub returns : goal.returns
returns c =
    let a = c.args in
    let shares = three a.a0.now a.a1.now a.a2.now in
    c.run.ensures
    ∙ sym (settled-done (width_of a.r) a.l shares (three a.m0.now a.m1.now a.m2.now)
    (three a.c0.now a.c1.now a.c2.now) (three a.z0.now a.z1.now a.z2.now)
    (sym (c.in_ok-figures_why.ensures ∙ ap (λ (n : Lengths). first_met (figure_checks (width_of a.r) a.l shares n)) c.of.ensures)))
