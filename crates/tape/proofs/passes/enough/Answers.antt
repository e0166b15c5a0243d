-- Invariant: the raw words from the next on suffice for the items left where all of them suffice for n.
use mathlib.Core.Path.{sym, ◌∙◌}
use native.Mathlib.Omega.{arith}
use Rattle.tape.proofs.FillLaw.{all-counted, counted_here, decided, passed_here}
use Rattle.tape.proofs.passes.enough.Goals as goal
use Rattle.tape.proofs.passes.enough.Goals.{then-low_bits-limit, else-low_bits-limit}

pub returns-then-left-eq0 : goal.returns-then-left-eq0
returns-then-left-eq0 c = sym (c.loop-word.invariant ∙ all-counted _ _ _ _ (omega arith))

pub loop-word-preserved : goal.loop-word-preserved
loop-word-preserved c = let before = c.loop-word.invariant in elim c.if-low_bits-limit.branch [
  | then-low_bits-limit w ↦ rw w.left-is (before ∙ counted_here _ _ _ _ (omega arith) c.loop-word-test.true c.low_bits.ensures w.if-low_bits-limit.true)
  | else-low_bits-limit w ↦ rw w.left-is (before ∙ passed_here _ _ _ _ (omega arith) c.loop-word-test.true c.low_bits.ensures w.if-low_bits-limit.false)
]

pub returns : goal.returns
returns c = sym (c.loop-word.invariant ∙ decided _ _ _ _ _ (omega arith))
