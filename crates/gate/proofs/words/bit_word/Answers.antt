use Rattle.gate.proofs.WordLaw.{bit_word_is, bit_word-lt, sliced_is}
use Rattle.gate.proofs.words.bit_word.Goals as goal

pub returns : goal.returns
returns c =
    record {
      figures = sliced_is _ _ _ _ _ _;
      bits = λ hx hy ht. record { is = bit_word_is _ _ _ _ _ _ hx hy ht; below = bit_word-lt _ _ _ _ _ _ hx hy ht };
    }
