-- What a stage's loop keeps, and stages one after another up to the result.
use Prim.Native.Nat.{ℕ, ◌+◌, ◌-◌, ◌<◌, ◌^◌}
use mathlib.Core.List.{List, ◌∷◌, ◌++◌}
use mathlib.Core.Path.{◌≡◌, ap, fun_ext, refl, sym, ◌∙◌}
use native.Mathlib.Omega.{arith}
use lib.Bits.{xor_zero_r}
use lib.ListN.{length, take}
use Rattle.ring.specs.Rings.{bit_of, modulus}
use Rattle.gate.specs.Places.{InRange, Place, parts, tabled}
use Rattle.gate.specs.declared.sharing.Sharing.{Sharing}
use Rattle.circuit.specs.Bits.{gather}
use Rattle.circuit.specs.Circuits.{Gate, upto}
use Rattle.circuit.specs.Decompose.{Digits, carry_gate, decompose_gates, digit, raising_gate, running_gate, zero_gate}
use Rattle.circuit.specs.Lent.{Left, Ran}
use Rattle.circuit.specs.Orders.{decomposition}
use Rattle.circuit.specs.Sharings.{four_times, zeros}
use Rattle.circuit.proofs.BitsLaw.{stored_bit}
use Rattle.circuit.proofs.LentLaw.{left_of}
use Rattle.circuit.proofs.LoanLaw.{ran_then}
use Rattle.circuit.proofs.RunLaw.{drops}
use Rattle.decompose.specs.Turns.{Ended}
use Rattle.decompose.specs.Words.{bits_at, digits_of, finished, stored, totalled}
use Rattle.decompose.proofs.GateLaw.{digits_gather}

-- the bits that a stage stored last, as bit k of its words
pub record Last (k : ℕ) (w last : Sharing) : Type 0 where
  pub is : last ≡ bits_at w k
  pub bits : InRange 2 last

pub stored_last : (k : ℕ) {w b r : Sharing} → InRange (2 ^ k) w → InRange 2 b → r ≡ stored w b k → Last k r b
stored_last k hw hb e =
    record { is = rw (e, stored_bit k hw.zero hb.zero, stored_bit k hw.one hb.one, stored_bit k hw.two hb.two); bits = hb }

pub zeros-last : {w : Sharing} → w ≡ zeros → Last 1 w w
unfolding bit_of
zeros-last e = record { is = rw e; bits = rw e (omega arith) }

lowest : {w : ℕ} → w < 2 → bit_of w 0 ≡ w
unfolding bit_of
lowest h = omega arith

pub first-last : {w : Sharing} → InRange 2 w → Last 0 w w
first-last h = record { is = rw (lowest h.zero, lowest h.one, lowest h.two); bits = h }

-- a total is made of itself and of nothing
pub totalled_alone : (total : Sharing) → total ≡ totalled total zeros zeros
totalled_alone total = rw (xor_zero_r total.s0, xor_zero_r total.s0, xor_zero_r total.s1, xor_zero_r total.s1, xor_zero_r total.s2, xor_zero_r total.s2) refl

-- a stretch before gates that give bits, and the gates at whose end the bits are taken
pub ended_then : {G H : List (Gate Digits)} {s r : Place → Digits} {T c d e : Place → List ℕ} {z : Sharing} {k : ℕ} (l : ℕ)
    → length G ≡ k
    → Ran G s T c r d
    → Ended l H r (drops k T) (drops k d) z (drops k e)
    → ((i : Place) → take k (e i) ≡ take k (d i))
    → Ended l (G ++ H) s T c z e
ended_then l counted a b kept =
    let ran = ran_then counted a b.ran kept in
    record {
      ran = record { states = refl; channels = ran.channels };
      is = b.is ∙ ap (λ (s : Place → Digits). tabled (λ i. gather l (digit i (s i)))) (sym ran.states);
    }

pub ended_here : {G : List (Gate Digits)} {s : Place → Digits} {T c d : Place → List ℕ} {x carries running raising total z : Sharing} (l : ℕ)
    → Ran G s T c (digits_of x carries running raising) d
    → z ≡ finished total raising l
    → total ≡ totalled x carries running
    → Ended l G s T c z d
ended_here {x = x} {carries = carries} {running = running} {raising = raising} l ran hz ht =
    record {
      ran = record { states = refl; channels = ran.channels };
      is = rw (hz, ht, ran.states) (sym (ap tabled (fun_ext (digits_gather x carries running raising l))));
    }

-- the whole order
pub left_is : (e l : ℕ) (a : Sharing) {x z : Sharing} {T c d : Place → List ℕ}
    → x ≡ four_times (modulus e) a
    → Ended l (upto carry_gate (l + 1) ++ (upto (λ k. running_gate (k + 1)) l ++ (zero_gate ∷ upto raising_gate (l - 1)))) (digits_of x zeros zeros zeros) T c z d
    → Left (decomposition e l) (parts a) (parts a) T c z d
unfolding decomposition decompose_gates
left_is e l a from ended = let whole = rw from at ended in left_of {C = decomposition e l} whole.ran whole.is
