use Rattle.gate.proofs.WordLaw.{words_hold}
use Rattle.gate.proofs.words.ring_words.Goals as goal

pub returns : goal.returns
returns c =
    let whole = words_hold _ _ _ _ (c.ring_word.ensures.is, c.ring_word.ensures.below) (c.ring_word-2.ensures.is, c.ring_word-2.ensures.below) (c.ring_word-3.ensures.is, c.ring_word-3.ensures.below) in record {
      is = whole.0;
      below = whole.1;
    }
