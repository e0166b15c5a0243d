-- Demands 1 and 2 of the definition of `step`, for every order, record, tape and channel. Proofs: proofs/.
use Rattle.std.specs.Prelude.{ℕ, ◌+◌, ◌*◌, ◌-◌, ◌/◌, ◌%◌, ◌≤◌, ◌<◌, ◌^◌, Bool, false, true, List, ◌≡◌, get_or, length}
use Rattle.ring.specs.Modular.{diff}
use Rattle.ring.specs.Rings.{modulus, modulus_of, quarter, ring_of, width_of}
use Rattle.ring.specs.declared.rings.Ring.{Ring}
use Rattle.gate.specs.Places.{Place, parts}
use Rattle.circuit.specs.Circuits.{gates_of}
use Rattle.value.specs.Values.{lifted, rounded_up}
use Rattle.machine.specs.Checks.{Tapes, first_met, public_checks}
use Rattle.machine.specs.Registers.{Kind, Public, count_at, empty, kind_at, million, public_of, register_at, shares_of, sound, width_at}
use Rattle.machine.specs.Step.{lengths_of, refused, step, value_of}
use Rattle.machine.specs.Work.{Work, adjusts, computes, deals, modulus_at, number_kind, opens, work_of}
use Rattle.machine.specs.declared.orders.Order.{Order}
use Rattle.machine.specs.declared.orders.Order.TheVariants.{Add, Compose, Convert, Deal, Decompose, Multiply, Open, Scale, Shift}
use Rattle.machine.specs.declared.registers.Machine.{Machine}

-- "A refused order answers value 0 and 0 gates", and record, positions and channels are as they were
abbrev pub Unchanged : Type 0
Unchanged = (o : Order) (m : Machine) (T : Tapes) (c : Place → List ℕ)
    → ((step o m T c).refusal ≡ 0 → ⊥)
    → step o m T c ≡ refused (step o m T c).refusal m c

-- an accepted order leaves a sound record
abbrev pub KeepsSound : Type 0
KeepsSound = (o : Order) (m : Machine) (T : Tapes) (c : Place → List ℕ)
    → (step o m T c).refusal ≡ 0
    → sound (step o m T c).machine ≡ true

-- 1 and 10 apart, the refusal is that of the public checks: kinds, rings, bit counts, positions, lengths and the order's fields
abbrev pub PublicRefusal : Type 0
PublicRefusal = (o : Order) (m : Machine) (T : Tapes) (c : Place → List ℕ)
    → sound m ≡ true
    → ((step o m T c).refusal ≡ 10 → ⊥)
    → (step o m T c).refusal ≡ first_met (public_checks o (public_of m) (lengths_of T c))

-- "Deal: 5 ..; 7 ..; 8 ..; 9 ..; 10 ..": where none is met, nor 1 or 2, a deal is accepted; e is the width of a ring, 13, 31 or 61
abbrev pub DealAccepted : Type 0
DealAccepted = (d v : ℕ) (r : Ring) (m : Machine) (T : Tapes) (c : Place → List ℕ)
    → sound m ≡ true
    → d ≤ 15
    → v < modulus_of r
    → length T.dealer ≤ million
    → m.dealer_at + 2 ≤ length T.dealer
    → get_or T.dealer m.dealer_at 0 < modulus_of r
    → get_or T.dealer (m.dealer_at + 1) 0 < modulus_of r
    → (step (Deal d (width_of r) v) m T c).refusal ≡ 0

-- "7 v is p or more": a deal is refused for its number only where that is so
abbrev pub DealRefusedNumber : Type 0
DealRefusedNumber = (d e v : ℕ) (m : Machine) (T : Tapes) (c : Place → List ℕ)
    → (step (Deal d e v) m T c).refusal ≡ 7
    → modulus e ≤ v

-- the gates that an order spends, the words that it writes on each channel, and the dealer's items that it takes
abbrev pub gates_in : Work → ℕ
gates_in (deals d e v) = 0
gates_in (adjusts C d x y kind) = gates_of C
gates_in (computes C d x y kind) = gates_of C
gates_in (opens x) = 0

abbrev pub words_in : Work → ℕ
words_in (deals d e v) = 0
words_in (adjusts C d x y kind) = gates_of C
words_in (computes C d x y kind) = gates_of C
words_in (opens x) = 1

abbrev pub items_in : Work → ℕ
items_in (deals d e v) = 2
items_in (adjusts C d x y kind) = 0
items_in (computes C d x y kind) = 0
items_in (opens x) = 0

-- "the strand position's rise" is the answer's gates; the other positions rise by the words written and the items dealt
abbrev pub PositionsRise : Type 0
PositionsRise = (o : Order) (m : Machine) (T : Tapes) (c : Place → List ℕ)
    → (step o m T c).refusal ≡ 0
    → ((step o m T c).machine.masks_at ≡ m.masks_at + (step o m T c).gates)
    × ((step o m T c).machine.channels_at ≡ m.channels_at + words_in (work_of o (public_of m)))
    × ((step o m T c).machine.dealer_at ≡ m.dealer_at + items_in (work_of o (public_of m)))

-- "Each answer carries the number of gates spent": those of the order's circuit
abbrev pub GatesAnswered : Type 0
GatesAnswered = (o : Order) (m : Machine) (T : Tapes) (c : Place → List ℕ)
    → (step o m T c).refusal ≡ 0
    → (step o m T c).gates ≡ gates_in (work_of o (public_of m))

-- and as 01 counts them: "one gate", "In all 3l + 1 gates", "Five gates", "3(e-2) + 1 + 2(e-2-s) gates", "two gates a bit", "no gate"
abbrev pub gates_for : Order → Public → ℕ
gates_for (Deal d e v) p = 0
gates_for (Add d x y) p = 0
gates_for (Scale d x c) p = 0
gates_for (Multiply d x y) p = 1
gates_for (Decompose d x l) p = 3 * l + 1
gates_for (Convert d x f) p = 5
gates_for (Shift d x s) p = let e = width_at (kind_at p x) in 3 * (e - 2) + 1 + 2 * (e - 2 - s)
gates_for (Compose d x f) p = 2 * count_at (kind_at p x)
gates_for (Open x) p = 0

abbrev pub GatesCounted : Type 0
GatesCounted = (o : Order) (m : Machine) (T : Tapes) (c : Place → List ℕ)
    → (step o m T c).refusal ≡ 0
    → (step o m T c).gates ≡ gates_for o (public_of m)

-- the register that an order writes: 16 where it writes none
abbrev pub destination : Order → ℕ
destination (Deal d e v) = d
destination (Add d x y) = d
destination (Scale d x c) = d
destination (Multiply d x y) = d
destination (Decompose d x l) = d
destination (Convert d x f) = d
destination (Shift d x s) = d
destination (Compose d x f) = d
destination (Open x) = 16

-- every other register stands
abbrev pub OthersStand : Type 0
OthersStand = (o : Order) (m : Machine) (T : Tapes) (c : Place → List ℕ) (k : ℕ)
    → (k ≡ destination o → ⊥)
    → register_at (step o m T c).machine k ≡ register_at m k

-- "all else there stays": channels keep their lengths, and every word before the position or after the words written
abbrev pub ChannelsStand : Type 0
ChannelsStand = (o : Order) (m : Machine) (T : Tapes) (c : Place → List ℕ) (i : Place)
    → (length ((step o m T c).channels i) ≡ length (c i))
    × ((k : ℕ) → k < m.channels_at → get_or ((step o m T c).channels i) k 0 ≡ get_or (c i) k 0)
    × ((k : ℕ) → m.channels_at + words_in (work_of o (public_of m)) ≤ k → get_or ((step o m T c).channels i) k 0 ≡ get_or (c i) k 0)

abbrev pub is_opening : Order → Bool
is_opening (Deal d e v) = false
is_opening (Add d x y) = false
is_opening (Scale d x c) = false
is_opening (Multiply d x y) = false
is_opening (Decompose d x l) = false
is_opening (Convert d x f) = false
is_opening (Shift d x s) = false
is_opening (Compose d x f) = false
is_opening (Open x) = true

-- "An accepted one answers value 0 unless it opens"; a refused order's value and gates are `Unchanged`'s
abbrev pub ValueAnswered : Type 0
ValueAnswered = (o : Order) (m : Machine) (T : Tapes) (c : Place → List ℕ)
    → is_opening o ≡ false
    → (step o m T c).value ≡ 0

-- an accepted opening: "the answer is the value"
abbrev pub OpensValue : Type 0
OpensValue = (x : ℕ) (m : Machine) (T : Tapes) (c : Place → List ℕ)
    → (step (Open x) m T c).refusal ≡ 0
    → (step (Open x) m T c).value ≡ value_of (register_at m x)

-- the kind of the register that an order writes: an opening writes none, and register 16 is empty, as there is none
abbrev pub kind_left : Work → Kind
kind_left (deals d e v) = number_kind (ring_of e)
kind_left (adjusts C d x y kind) = kind
kind_left (computes C d x y kind) = kind
kind_left (opens x) = empty

-- `length m.slots ≡ 16`, here and below: the record's array of sixteen registers has no other length
abbrev pub KindLeft : Type 0
KindLeft = (o : Order) (m : Machine) (T : Tapes) (c : Place → List ℕ)
    → (step o m T c).refusal ≡ 0
    → length m.slots ≡ 16
    → kind_at (public_of (step o m T c).machine) (destination o) ≡ kind_left (work_of o (public_of m))

-- what each accepted order leaves in d, as a value: a is the value of register x just before, b that of register y
abbrev pub value_at : Machine → ℕ → ℕ
value_at m k = value_of (register_at m k)

abbrev pub DealLeaves : Type 0
DealLeaves = (d e v : ℕ) (m : Machine) (T : Tapes) (c : Place → List ℕ)
    → (step (Deal d e v) m T c).refusal ≡ 0
    → length m.slots ≡ 16
    → value_at (step (Deal d e v) m T c).machine d ≡ v

abbrev pub AddLeaves : Type 0
AddLeaves = (d x y : ℕ) (m : Machine) (T : Tapes) (c : Place → List ℕ)
    → (step (Add d x y) m T c).refusal ≡ 0
    → length m.slots ≡ 16
    → value_at (step (Add d x y) m T c).machine d ≡ (value_at m x + value_at m y) % modulus_at (public_of m) x

abbrev pub ScaleLeaves : Type 0
ScaleLeaves = (d x k : ℕ) (m : Machine) (T : Tapes) (c : Place → List ℕ)
    → (step (Scale d x k) m T c).refusal ≡ 0
    → length m.slots ≡ 16
    → value_at (step (Scale d x k) m T c).machine d ≡ value_at m x * k % modulus_at (public_of m) x

abbrev pub MultiplyLeaves : Type 0
MultiplyLeaves = (d x y : ℕ) (m : Machine) (T : Tapes) (c : Place → List ℕ)
    → (step (Multiply d x y) m T c).refusal ≡ 0
    → length m.slots ≡ 16
    → value_at (step (Multiply d x y) m T c).machine d ≡ value_at m x * value_at m y % modulus_at (public_of m) x

abbrev pub DecomposeLeaves : Type 0
DecomposeLeaves = (d x l : ℕ) (m : Machine) (T : Tapes) (c : Place → List ℕ)
    → (step (Decompose d x l) m T c).refusal ≡ 0
    → length m.slots ≡ 16
    → 4 * value_at m x < modulus_at (public_of m) x
    → value_at (step (Decompose d x l) m T c).machine d ≡ value_at m x % 2 ^ l

abbrev pub ConvertLeaves : Type 0
ConvertLeaves = (d x f : ℕ) (m : Machine) (T : Tapes) (c : Place → List ℕ)
    → (step (Convert d x f) m T c).refusal ≡ 0
    → length m.slots ≡ 16
    → 4 * value_at m x < modulus_at (public_of m) x
    → value_at (step (Convert d x f) m T c).machine d ≡ value_at m x % modulus f

abbrev pub ShiftLeaves : Type 0
ShiftLeaves = (d x s : ℕ) (m : Machine) (T : Tapes) (c : Place → List ℕ)
    → (step (Shift d x s) m T c).refusal ≡ 0
    → length m.slots ≡ 16
    → 4 * value_at m x < modulus_at (public_of m) x
    → value_at (step (Shift d x s) m T c).machine d ≡ value_at m x / 2 ^ s

abbrev pub ComposeLeaves : Type 0
ComposeLeaves = (d x f : ℕ) (m : Machine) (T : Tapes) (c : Place → List ℕ)
    → (step (Compose d x f) m T c).refusal ≡ 0
    → length m.slots ≡ 16
    → value_at (step (Compose d x f) m T c).machine d ≡ value_at m x % modulus f

-- decomposed at l = e-2 and composed in the same ring, e being the width of register x: a is back, in register k, whatever the tapes
-- of either order, and whatever the channels hold when the second starts
abbrev pub RoundTrip : Type 0
RoundTrip = (d k x : ℕ) (m : Machine) (T T' : Tapes) (c c' : Place → List ℕ)
    → (let e = width_at (kind_at (public_of m) x) in
    let bits = step (Decompose d x (e - 2)) m T c in
    let back = step (Compose k d e) bits.machine T' c' in
    bits.refusal ≡ 0
    → back.refusal ≡ 0
    → length m.slots ≡ 16
    → 4 * value_at m x < modulus_at (public_of m) x
    → value_at back.machine k ≡ value_at m x)

-- the same for all sub-shares, with no condition on a: e is the width of register x and X the total of its 4 a_i modulo p

-- "The value is (X div 4 + [X mod 4 is not 0]) modulo 2^l"
abbrev pub DecomposeLeavesAll : Type 0
DecomposeLeavesAll = (d x l : ℕ) (m : Machine) (T : Tapes) (c : Place → List ℕ)
    → (step (Decompose d x l) m T c).refusal ≡ 0
    → length m.slots ≡ 16
    → value_at (step (Decompose d x l) m T c).machine d
    ≡ rounded_up (lifted (width_at (kind_at (public_of m) x)) (parts (shares_of (register_at m x)))) % 2 ^ l

-- "The value is 4^(-1) × (X - p × (-X mod 4)) modulo p'"
abbrev pub ConvertLeavesAll : Type 0
ConvertLeavesAll = (d x f : ℕ) (m : Machine) (T : Tapes) (c : Place → List ℕ)
    → (step (Convert d x f) m T c).refusal ≡ 0
    → length m.slots ≡ 16
    → (let X = lifted (width_at (kind_at (public_of m) x)) (parts (shares_of (register_at m x))) in
    value_at (step (Convert d x f) m T c).machine d
    ≡ quarter f * diff (modulus f) X (modulus_at (public_of m) x * diff 4 0 X) % modulus f)

-- "decompose with l = e-2, then compose bits s and up with weights 2^(j-s)"
abbrev pub ShiftLeavesAll : Type 0
ShiftLeavesAll = (d x s : ℕ) (m : Machine) (T : Tapes) (c : Place → List ℕ)
    → (step (Shift d x s) m T c).refusal ≡ 0
    → length m.slots ≡ 16
    → (let e = width_at (kind_at (public_of m) x) in
    value_at (step (Shift d x s) m T c).machine d
    ≡ rounded_up (lifted e (parts (shares_of (register_at m x)))) % 2 ^ (e - 2) / 2 ^ s)
