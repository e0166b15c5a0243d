-- What each order does: record, answer and channels, for every record, tape and channel.
use Rattle.std.specs.Prelude.{ℕ, ◌+◌, cond, not, List, [], ◌∷◌, ◌++◌, eqb, drop, get_or, length, take}
use Rattle.ring.specs.Modular.{diff}
use Rattle.ring.specs.Rings.{modulus, modulus_of, ring_of}
use Rattle.gate.specs.Places.{Place, next, parts, sharing, tabled, total}
use Rattle.gate.specs.declared.sharing.Sharing.{Sharing}
use Rattle.circuit.specs.Bits.{exclusive}
use Rattle.circuit.specs.Circuits.{Circuit, channelled, gates_of, result}
use Rattle.machine.specs.Checks.{Check, Lengths, Tapes, bad_item, check, first_met, left_of, public_checks}
use Rattle.machine.specs.Registers.{Kind, public_of, register_at, register_of, shares_of, sound, with_register}
use Rattle.machine.specs.Work.{Work, adjusts, computes, deals, number_kind, opens, work_of}
use Rattle.machine.specs.declared.orders.Order.{Order}
use Rattle.machine.specs.declared.registers.Machine.{Machine}
use Rattle.machine.specs.declared.registers.Register.{Register}
use Rattle.machine.specs.declared.registers.Register.TheVariants.{Bits, Empty, Number}

-- the outcome of an order: record, refusal number or 0, value opened or 0, gates spent, channels
pub record Outcome : Type 0 where
  pub machine : Machine
  pub refusal : ℕ
  pub value : ℕ
  pub gates : ℕ
  pub channels : Place → List ℕ

abbrev pub lengths_of : Tapes → (Place → List ℕ) → Lengths
lengths_of T c =
    record {
      masks = tabled (λ i. length (T.masks i));
      dealer = length T.dealer;
      channels = tabled (λ i. length (c i));
    }

-- "1 record not sound", what is public, and last "10 .. out of range"
unfoldable pub checks : Order → Machine → Tapes → (Place → List ℕ) → List Check
checks o m T c =
    check (not (sound m)) 1
    ∷ (public_checks o (public_of m) (lengths_of T c) ++ (check (bad_item (work_of o (public_of m)) (left_of (public_of m) T)) 10 ∷ []))

-- "its value": the total of a number, the exclusive or of bits
abbrev pub value_of : Register → ℕ
value_of Empty = 0
value_of (Number r x) = total (modulus_of r) (parts x)
value_of (Bits l x) = exclusive (parts x)

-- "the words are written from the wire position on, one a wire": at a position, and all else stays
abbrev pub written : ℕ → List ℕ → List ℕ → List ℕ
written at ws c = take at c ++ (ws ++ drop (at + length ws) c)

-- positions that have risen: by gates on the mask tapes, by words on the channels, by items on the dealer's tape
abbrev pub moved : Machine → ℕ → ℕ → ℕ → Machine
moved m gates words items =
    record {
      slots = m.slots;
      masks_at = m.masks_at + gates;
      channels_at = m.channels_at + words;
      dealer_at = m.dealer_at + items;
    }

-- an accepted order that leaves r in d, with so many gates and dealer's items, and these channels
abbrev pub stored : ℕ → Register → (gates items : ℕ) → Machine → (Place → List ℕ) → Outcome
stored d r gates items m c =
    record { machine = with_register (moved m gates gates items) d r; refusal = 0; value = 0; gates = gates; channels = c }

-- 1. "takes items r0, r1 of the dealer's tape; sub-shares r0, r1, v - r0 - r1 modulo p"
abbrev pub dealt_shares : ℕ → ℕ → ℕ → ℕ → Sharing
dealt_shares p v r₀ r₁ = record { s0 = r₀; s1 = r₁; s2 = diff p (diff p v r₀) r₁ }

unfoldable pub dealt : (d e v : ℕ) → Machine → Tapes → (Place → List ℕ) → Outcome
dealt d e v m left c =
    stored d (register_of (number_kind (ring_of e)) (dealt_shares (modulus e) v (get_or left.dealer 0 0) (get_or left.dealer 1 0))) 0 2 m c

-- 2 to 8: the circuit's sub-shares in d, its words on the channels, its gates spent
unfoldable pub computed : Circuit → (d x y : ℕ) → Kind → Machine → Tapes → (Place → List ℕ) → Outcome
computed C d x y kind m left c =
    let X = parts (shares_of (register_at m x)) in
    let Y = parts (shares_of (register_at m y)) in
    stored d (register_of kind (sharing (result C X Y left.masks))) (gates_of C) 0 m
    (tabled (λ i. written m.channels_at (channelled C X Y left.masks i) (c i)))

-- 9. "unit i sends sub-share i+1; the answer is the value. One word a wire, no gate"
abbrev pub opening_word : ℕ → Machine → Place → ℕ
opening_word x m i = parts (shares_of (register_at m x)) (next i)

unfoldable pub opened : ℕ → Machine → (Place → List ℕ) → Outcome
opened x m c =
    record {
      machine = moved m 0 1 0;
      refusal = 0;
      value = value_of (register_at m x);
      gates = 0;
      channels = tabled (λ i. written m.channels_at (opening_word x m i ∷ []) (c i));
    }

-- an accepted order, with what is left of the tapes
abbrev pub performed : Work → Machine → Tapes → (Place → List ℕ) → Outcome
performed (deals d e v) m left c = dealt d e v m left c
performed (adjusts C d x y kind) m left c = computed C d x y kind m left c
performed (computes C d x y kind) m left c = computed C d x y kind m left c
performed (opens x) m left c = opened x m c

-- "A refused order answers value 0 and 0 gates", and changes nothing
abbrev pub refused : ℕ → Machine → (Place → List ℕ) → Outcome
refused n m c = record { machine = m; refusal = n; value = 0; gates = 0; channels = c }

unfoldable pub step : Order → Machine → Tapes → (Place → List ℕ) → Outcome
step o m T c =
    cond (eqb (first_met (checks o m T c)) 0)
    (performed (work_of o (public_of m)) m (left_of (public_of m) T) c)
    (refused (first_met (checks o m T c)) m c)
