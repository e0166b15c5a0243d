use Rattle.gate.proofs.WordLaw.{gate-words, words_hold}
use Rattle.gate.proofs.words.bit_words.Goals as goal

pub returns : goal.returns
returns c =
    record {
      figures = gate-words _ _ _ c.bit_word.ensures.figures c.bit_word-2.ensures.figures c.bit_word-3.ensures.figures;
      bits = λ hx hy ht.
          let z₀ = c.bit_word.ensures.bits (record { own = hx.zero; far = hx.one }) (record { own = hy.zero; far = hy.one }) (record { own = ht.zero; far = ht.one }) in
          let z₁ = c.bit_word-2.ensures.bits (record { own = hx.one; far = hx.two }) (record { own = hy.one; far = hy.two }) (record { own = ht.one; far = ht.two }) in
          let z₂ = c.bit_word-3.ensures.bits (record { own = hx.two; far = hx.zero }) (record { own = hy.two; far = hy.zero }) (record { own = ht.two; far = ht.zero }) in
          let whole = words_hold 2 _ _ _ (z₀.is, z₀.below) (z₁.is, z₁.below) (z₂.is, z₂.below) in
          record { is = whole.0; below = whole.1 };
    }
