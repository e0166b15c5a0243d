-- Invariant: the items written, joined to what the raw words from `at` on give, are the whole filling.
use mathlib.Core.Path.{sym, ap, ◌∙◌}
use native.Mathlib.Nat.{sub-add-eq}
use native.Mathlib.Omega.{arith}
use Rattle.tape.specs.Draws.{suffices}
use Rattle.tape.proofs.FillLaw.{all-written, drawn, suffices-joined, written}
use Rattle.tape.proofs.passes.fill_run.Goals as goal

-- raw words that suffice give an item
pub unwrap-draw-requires : goal.unwrap-draw-requires
unwrap-draw-requires c =
    let rest = sym (suffices-joined _ _) ∙ sym (ap suffices c.loop-slot.invariant) ∙ c.requires.enough in
    drawn c.draw_item.ensures (omega arith) rest

pub loop-slot-preserved : goal.loop-slot-preserved
loop-slot-preserved c =
    let head = c.loop-slot in
    rw sub-add-eq (head.invariant ∙ written c.draw_item.ensures (omega arith) head.run head.slot-index c.unwrap-draw.ensures (omega arith))

pub returns : goal.returns
returns c =
    let head = c.loop-slot in
    head.invariant ∙ all-written _ _ _ _ (omega arith) head.run head.slot-index (omega arith)
