-- 01, order 5: a majority's words, and gates on lent channels up to the result.
-- Used by the code's contracts alone: no theorem's statement speaks of it.
use Rattle.std.specs.Prelude.{ℕ, List, ◌≡◌}
use Rattle.gate.specs.Gates.{gated}
use Rattle.gate.specs.Places.{Place, parts, sharing, tabled}
use Rattle.gate.specs.declared.sharing.Sharing.{Sharing}
use Rattle.circuit.specs.Bits.{gather}
use Rattle.circuit.specs.Circuits.{Gate, ends}
use Rattle.circuit.specs.Decompose.{Digits, digit}
use Rattle.circuit.specs.Lent.{Ran}
use Rattle.decompose.specs.Words.{bits_xor}

-- order 5: "The majority of x, y, c is c XOR ((x XOR c) AND (y XOR c)), one gate": its words, with items t
abbrev pub majority_words : (x y c t : Sharing) → Sharing
majority_words x y c t = sharing (gated 2 (parts (bits_xor x c)) (parts (bits_xor y c)) (parts t))

-- gates of order 5 from states s leave channels d, and z is the l bits that the states at their end give
pub record Ended (l : ℕ) (G : List (Gate Digits)) (s : Place → Digits) (T c : Place → List ℕ) (z : Sharing) (d : Place → List ℕ) : Type 0 where
  pub ran : Ran G s T c (ends G s T) d
  pub is : parts z ≡ tabled (λ i. gather l (digit i (ends G s T i)))

-- and from a position on
abbrev pub bits_ended : ℕ → List (Gate Digits) → (Place → Digits) → Sharing → (T c d : Place → List ℕ) → Type 0
bits_ended l G s z T c d = Ended l G s T c z d
