use mathlib.Core.Path.{ap}
use lib.ListN.{length}
use Rattle.gate.specs.Places.{three}
use Rattle.order.specs.declared.sources.Sources.{Sources}
use Rattle.order.proofs.StepLaw.{passed_change}
use Rattle.exchange.proofs.OpenLaw.{open_done, open_refused, open_room, open_sound}
use Rattle.exchange.proofs.openings.open.Goals as goal

pub returns-in_err-open_why : goal.returns-in_err-open_why
returns-in_err-open_why c = λ m of place T.
    let a = c.args in
    passed_change m _ _ c.from_residual.ensures.1
    (open_refused m a.x T (three a.c0.now a.c1.now a.c2.now) of place _ c.in_err-open_why.ensures)

-- some record has this source
pub value-value-requires : goal.value-value-requires
value-value-requires c =
    let a = c.args in
    open_sound a.s.sound a.x a.s.a a.at (length a.c0.now) (length a.c1.now) (length a.c2.now) c.in_ok-open_why.ensures c.requires.0
    (ap (λ (s : Sources). s.sound) c.requires.1) (ap (λ (s : Sources). s.a) c.requires.1)

pub open_words-requires : goal.open_words-requires
open_words-requires c =
    let a = c.args in
    let whole = open_room a.s.sound a.x a.s.a a.at (length a.c0.now) (length a.c1.now) (length a.c2.now) c.in_ok-open_why.ensures in
    record { zero = whole.0; one = whole.1.0; two = whole.1.1 }

pub returns : goal.returns
returns c = λ m of place T.
    let a = c.args in
    open_done m a.x T (three a.c0.now a.c1.now a.c2.now) of place {d = three c.open_words.new.c0 c.open_words.new.c1 c.open_words.new.c2}
    c.in_ok-open_why.ensures c.value-value.ensures c.shares.ensures c.open_words.ensures
