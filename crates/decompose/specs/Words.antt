-- 01, order 5: what the three places keep, as sharings of words.
-- Used by the code's contracts alone: no theorem's statement speaks of it.
use Rattle.std.specs.Prelude.{ℕ, ◌+◌, ◌*◌, ◌/◌, ◌%◌, ◌^◌}
use Rattle.std.specs.Int.Bits.{bit_xor}
use Rattle.gate.specs.Places.{Place, three}
use Rattle.gate.specs.declared.sharing.Sharing.{Sharing}
pub use Rattle.gate.specs.Words.{bits_at}
use Rattle.circuit.specs.Bits.{xor}
use Rattle.circuit.specs.Decompose.{Digits}

-- the states of order 5, from its words of x, carries, running carries and carries of the increment
abbrev pub digits_of : (x carries running raising : Sharing) → Place → Digits
digits_of x carries running raising =
    three
    (record { x = x.s0; carries = carries.s0; running = running.s0; raising = raising.s0 })
    (record { x = x.s1; carries = carries.s1; running = running.s1; raising = raising.s1 })
    (record { x = x.s2; carries = carries.s2; running = running.s2; raising = raising.s2 })

-- XOR of two shared bits of order 5
abbrev pub bits_xor : Sharing → Sharing → Sharing
bits_xor a b = record { s0 = xor a.s0 b.s0; s1 = xor a.s1 b.s1; s2 = xor a.s2 b.s2 }

-- order 5's words with shared bits stored as bit k
abbrev pub stored : Sharing → Sharing → ℕ → Sharing
stored w b k = record { s0 = w.s0 + b.s0 * 2 ^ k; s1 = w.s1 + b.s1 * 2 ^ k; s2 = w.s2 + b.s2 * 2 ^ k }

-- order 5: the total T as words, the sum bits being those of x
abbrev pub totalled : (x carries running : Sharing) → Sharing
totalled x carries running =
    record {
      s0 = bit_xor (bit_xor x.s0 carries.s0) running.s0;
      s1 = bit_xor (bit_xor x.s1 carries.s1) running.s1;
      s2 = bit_xor (bit_xor x.s2 carries.s2) running.s2;
    }

-- order 5: the bits of T from 2 up, l of them, with the carries of the increment
unfoldable pub upper : (total raising l : ℕ) → ℕ
upper total raising l = bit_xor (total / 4) raising % 2 ^ l

-- order 5: the result's words
abbrev pub finished : (total raising : Sharing) → ℕ → Sharing
finished total raising l =
    record {
      s0 = upper total.s0 raising.s0 l;
      s1 = upper total.s1 raising.s1 l;
      s2 = upper total.s2 raising.s2 l;
    }
