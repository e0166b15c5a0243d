-- The step on the record's words and the tape lines taken.
use mathlib.Core.Path.{◌≡◌, refl, sym}
use Rattle.session.specs.Kept.{tapes_in}
use Rattle.session.specs.Outputs.{tapes}
use Rattle.session.specs.Records.{machine_in}
use Rattle.session.proofs.TurnLaw.{order-fits, order-taken}
use Rattle.session.proofs.records.SoundRecord.give_order.Goals as goal

pub invariant_of-self : goal.invariant_of-self
invariant_of-self c =
    let r = c.self in
    let told = c.step_words-answer.ensures.is (machine_in r.inside.words) r.invariant.says (sym r.invariant.sound) in
    order-fits _ _ _ _ _ _ _ told r.invariant

pub returns : goal.returns
returns c =
    let r = c.self in
    let told = c.step_words-answer.ensures.is (machine_in r.inside.words) r.invariant.says (sym r.invariant.sound) in
    let lent : tapes c.as_slice.result.now c.as_slice-2.result.now c.as_slice-3.result.now c.as_slice-4.result.now ≡ tapes_in c.args.tapes.now
    = rw (c.as_slice.ensures.value, c.as_slice-2.ensures.value, c.as_slice-3.ensures.value, c.as_slice-4.ensures.value) refl in
    order-taken _ _ _ _ _ _ _ told r.view_is lent c.refusal.ensures c.value.ensures
