-- The bits are shared as the majority wants them; the last share of the carry is the third bit's and the word's.
use Prim.Native.Nat.{ℕ}
use mathlib.Core.Path.{refl, subst}
use native.Mathlib.Omega.{arith}
use lib.Bits.{xor_lt}
use Rattle.std.proofs.Common.{rules}
use Rattle.gate.specs.Places.{InRange}
use Rattle.gate.specs.Words.{BitWords}
use Rattle.gate.specs.declared.sharing.Sharing.{Sharing}
use Rattle.circuit.specs.Loans.{items_next}
use Rattle.circuit.proofs.LoanLaw.{heads_next, next_below, sends_said}
use Rattle.compose.proofs.QuotientLaw.{carries_of}
use Rattle.compose.proofs.quotients.low_carry.Goals as goal

-- the words of the gate, the places that have none of the first and of the second bit having what n has
abbrev Words : (b₀ b₁ b₂ : ℕ) → (t z n : Sharing) → Type 0
Words b₀ b₁ b₂ t z n =
    let x : Sharing = record { s0 = b₀; s1 = n.s1; s2 = b₂ } in
    let y : Sharing = record { s0 = n.s0; s1 = b₁; s2 = b₂ } in
    InRange 2 x → InRange 2 y → InRange 2 t → BitWords x y t z

pub returns : goal.returns
returns c =
    let t = items_next c.args.lent.now in
    let b₀ = c.bit-b0 in
    let b₁ = c.bit-b1 in
    let b₂ = c.bit-b2 in
    let words = subst (λ (n : Sharing). Words b₀.result b₁.result b₂.result t c.gate-z.result n) c.zeros.ensures (search rules) in
    let word = words (record { zero = b₀.ensures.below; one = omega arith; two = b₂.ensures.below })
    (record { zero = omega arith; one = b₁.ensures.below; two = b₂.ensures.below }) (next_below (omega arith) c.requires) in
    record {
      is = sends_said c.gate-z.ensures.sent
          (λ sent. carries_of b₀.ensures.is b₁.ensures.is b₂.ensures.is b₀.ensures.below b₁.ensures.below b₂.ensures.below
          (rw (heads_next c.args.lent.now) word.is) word.below sent refl);
      below = record {
        zero = word.below.zero;
        one = word.below.one;
        two = xor_lt 1 _ _ b₂.ensures.below word.below.two;
      };
    }
