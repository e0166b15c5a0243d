-- A majority of words is a majority of bits for each figure.
use Prim.Native.Nat.{ℕ}
use mathlib.Core.Path.{◌≡◌, ap, ap₂, ◌∙◌}
use Rattle.gate.specs.Gates.{gated}
use Rattle.gate.specs.Places.{parts, sharing}
use Rattle.gate.specs.declared.sharing.Sharing.{Sharing}
use Rattle.circuit.proofs.BitsLaw.{bit_of-xor}
use Rattle.gate.specs.Words.{GateWords}
use Rattle.decompose.specs.Words.{bits_at, bits_xor}
use Rattle.planes.specs.Planes.{MajorityWords, words_xor}

pub bits-xor : (a b : Sharing) (k : ℕ) → bits_at (words_xor a b) k ≡ bits_xor (bits_at a k) (bits_at b k)
bits-xor a b k = rw (bit_of-xor a.s0 b.s0 k, bit_of-xor a.s1 b.s1 k, bit_of-xor a.s2 b.s2 k)

pub majority-words : (x y c t : Sharing) {l r z : Sharing} → l ≡ words_xor x c → r ≡ words_xor y c → GateWords l r t z
    → MajorityWords x y c t z
majority-words x y c t hl hr h = record {
  at = λ k.
      h.at k
      ∙ ap₂ (λ (a b : Sharing). sharing (gated 2 (parts a) (parts b) (parts (bits_at t k))))
      (ap (λ (w : Sharing). bits_at w k) hl ∙ bits-xor x c k) (ap (λ (w : Sharing). bits_at w k) hr ∙ bits-xor y c k);
}
