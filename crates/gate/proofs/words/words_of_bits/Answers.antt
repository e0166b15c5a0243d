-- The three words, each by its function.
use Rattle.gate.proofs.WordLaw.{words_of_bits}
use Rattle.gate.proofs.words.words_of_bits.Goals as goal

pub returns : goal.returns
returns c =
    let whole = words_of_bits _ _ _ _ (c.masked.ensures.is, c.masked.ensures.below) (c.mask_alone.ensures.is, c.mask_alone.ensures.below) (c.mask_alone-2.ensures.is, c.mask_alone-2.ensures.below) in record {
      is = whole.0;
      below = whole.1;
    }
