use Rattle.planes.proofs.WordLaw.{majority-words}
use Rattle.planes.proofs.gates.majority_words.Goals as goal

pub returns : goal.returns
returns c =
    majority-words _ _ _ _ c.bitxor.ensures c.bitxor-2.ensures c.bit_words.ensures.figures
