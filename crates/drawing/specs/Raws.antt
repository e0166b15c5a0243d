-- Raw words from raw bytes.
use Rattle.std.specs.Prelude.{ℕ, zero, suc, ◌+◌, ◌*◌, List, [], ◌∷◌, ◌++◌, get_or}

-- half a word: four bytes, the lowest first
abbrev pub half_at : List ℕ → ℕ → ℕ
half_at bs at =
    get_or bs at 0 + get_or bs (at + 1) 0 * 256 + get_or bs (at + 2) 0 * 65536 + get_or bs (at + 3) 0 * 16777216

-- a raw word is eight bytes, the lowest first
abbrev pub word_at : List ℕ → ℕ → ℕ
word_at bs at = half_at bs at + half_at bs (at + 4) * 4294967296

-- n words, one behind the other
unfoldable pub raw_words : ℕ → List ℕ → List ℕ
raw_words zero bs = []
raw_words (suc k) bs = raw_words k bs ++ (word_at bs (8 * k) ∷ [])
