-- Invariant: the registers passed, before what the words behind them say, are the whole record.
use mathlib.Core.Path.{◌∙◌, ap, sym}
use native.Mathlib.Omega.{arith}
use Rattle.layout.specs.Layout.{seen_of}
use Rattle.layout.proofs.ReadLaw.{all_passed, no_register, none_passed, one_passed, other_length, right_length}
use Rattle.layout.proofs.records.see.Goals as goal

pub returns-then-words-ne-RECORD_WORDS : goal.returns-then-words-ne-RECORD_WORDS
returns-then-words-ne-RECORD_WORDS c = ap seen_of (sym (other_length _ c.if-words-ne-RECORD_WORDS.true))

pub loop-k-init : goal.loop-k-init
loop-k-init c = none_passed _

pub loop-k-preserved : goal.loop-k-preserved
loop-k-preserved c =
    one_passed _ c.loop-k.k _ c.loop-k-test.true c.loop-k.invariant (sym c.read_register.ensures ∙ c.in_ok-register.was) c.is_sound-sound.ensures

pub returns-in_err-register : goal.returns-in_err-register
returns-in_err-register c =
    let head = c.loop-k in
    let none = no_register _ head.k 16 c.loop-k-test.true head.invariant.slots (sym c.read_register.ensures ∙ c.in_err-register.was) in
    c.from_residual.ensures ∙ ap seen_of (sym (right_length _ c.if-words-ne-RECORD_WORDS.false ∙ head.invariant.is ∙ none))

pub returns : goal.returns
returns c = all_passed _ c.loop-k.k c.if-words-ne-RECORD_WORDS.false (omega arith) c.loop-k.invariant
