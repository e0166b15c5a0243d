-- The three words, each by its function.
use Rattle.gate.proofs.WordLaw.{words_by_bit}
use Rattle.gate.proofs.words.words_by_bit.Goals as goal

pub returns : goal.returns
returns c =
    let whole = words_by_bit _ _ _ _ (c.mask_alone-s0.ensures.is, c.mask_alone-s0.ensures.below) (c.masked-s1.ensures.is, c.masked-s1.ensures.below) (c.masked-s2.ensures.is, c.masked-s2.ensures.below) in record {
      is = whole.0;
      below = whole.1;
    }
