use mathlib.Core.Path.{◌∙◌}
use Rattle.gate.proofs.WordLaw.{ring_word_is}
use Rattle.gate.proofs.words.ring_word.Goals as goal

pub returns : goal.returns
returns c = record {
  is = c.mul_add_mod.ensures.is ∙ ring_word_is _ _ _ _ _ _ _ _ _ c.add_mod-sum.ensures.is c.mask_word.ensures.is;
  below = c.mul_add_mod.ensures.below;
}
