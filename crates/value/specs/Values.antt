-- What an accepted order leaves, for all sub-shares, mask tapes and widths. Proofs: proofs/.
use Rattle.std.specs.Prelude.{ℕ, ◌+◌, ◌*◌, ◌-◌, ◌/◌, ◌%◌, ◌≤◌, ◌<◌, ◌^◌, cond, List, ◌≡◌, eqb}
use Rattle.ring.specs.Modular.{diff}
use Rattle.ring.specs.Rings.{modulus, quarter}
use Rattle.gate.specs.Places.{Below, Place, total}
use Rattle.circuit.specs.Bits.{exclusive}
use Rattle.circuit.specs.Circuits.{result}
use Rattle.circuit.specs.Orders.{addition, composition, conversion, decomposition, multiplication, scaling, shifting}
pub use Rattle.circuit.specs.Orders.{lifted, summed}

-- "X div 4 + [X mod 4 is not 0]"
abbrev pub rounded_up : ℕ → ℕ
rounded_up n = n / 4 + cond (eqb (n % 4) 0) 0 1

-- Theorem 3.1 of document 000 with three sub-shares and u = 2: the quotient of the total by p, where b is a multiple of four
abbrev pub QuotientTransfer : Type 0
QuotientTransfer = (e b : ℕ) (x : Place → ℕ)
    → 2 ≤ e
    → Below (modulus e) x
    → b < modulus e
    → b % 4 ≡ 0
    → total (modulus e) x ≡ b
    → summed x ≡ b + modulus e * diff 4 0 (summed x)

-- orders 2, 3 and 4: the sum, the multiple and the product of the values
abbrev pub Adds : Type 0
Adds = (p : ℕ) → 0 < p → (x y : Place → ℕ) (T : Place → List ℕ)
    → total p (result (addition p) x y T) ≡ (total p x + total p y) % p

abbrev pub Scales : Type 0
Scales = (p c : ℕ) → 0 < p → (x y : Place → ℕ) (T : Place → List ℕ)
    → total p (result (scaling p c) x y T) ≡ total p x * c % p

abbrev pub Multiplies : Type 0
Multiplies = (p : ℕ) → 0 < p → (x y : Place → ℕ) (T : Place → List ℕ)
    → total p (result (multiplication p) x y T) ≡ total p x * total p y % p

-- order 5: "The value is (X div 4 + [X mod 4 is not 0]) modulo 2^l"
abbrev pub Decomposes : Type 0
Decomposes = (e l : ℕ) → 1 ≤ l → (a y : Place → ℕ) (T : Place → List ℕ)
    → exclusive (result (decomposition e l) a y T) ≡ rounded_up (lifted e a) % 2 ^ l

-- order 6: "The value is 4^(-1) × (X - p × (-X mod 4)) modulo p'"
abbrev pub Converts : Type 0
Converts = (e f : ℕ) → 1 ≤ f → (a y : Place → ℕ) (T : Place → List ℕ)
    → total (modulus f) (result (conversion e f) a y T)
    ≡ quarter f * diff (modulus f) (lifted e a) (modulus e * diff 4 0 (lifted e a)) % modulus f

-- order 8: the bits' value in the ring
abbrev pub Composes : Type 0
Composes = (f l : ℕ) → 1 ≤ f → (w y : Place → ℕ) (T : Place → List ℕ) → Below (2 ^ l) w
    → total (modulus f) (result (composition f l) w y T) ≡ exclusive w % modulus f

-- order 7: both, for the bits from s up
abbrev pub Shifts : Type 0
Shifts = (e s : ℕ) → 3 ≤ e → s ≤ e - 3 → (a y : Place → ℕ) (T : Place → List ℕ)
    → total (modulus e) (result (shifting e s) a y T) ≡ rounded_up (lifted e a) % 2 ^ (e - 2) / 2 ^ s

-- where 4a is below p, a being the register's value:

-- the lowest l bits of a
abbrev pub DecomposesSmall : Type 0
DecomposesSmall = (e l : ℕ) → 1 ≤ l → l + 2 ≤ e → (a y : Place → ℕ) (T : Place → List ℕ)
    → 4 * total (modulus e) a < modulus e
    → exclusive (result (decomposition e l) a y T) ≡ total (modulus e) a % 2 ^ l

-- a modulo p'
abbrev pub ConvertsSmall : Type 0
ConvertsSmall = (e f : ℕ) → 2 ≤ e → 2 ≤ f → (a y : Place → ℕ) (T : Place → List ℕ)
    → 4 * total (modulus e) a < modulus e
    → total (modulus f) (result (conversion e f) a y T) ≡ total (modulus e) a % modulus f

-- a div 2^s
abbrev pub ShiftsSmall : Type 0
ShiftsSmall = (e s : ℕ) → 3 ≤ e → s ≤ e - 3 → (a y : Place → ℕ) (T : Place → List ℕ)
    → 4 * total (modulus e) a < modulus e
    → total (modulus e) (result (shifting e s) a y T) ≡ total (modulus e) a / 2 ^ s

-- bits at full length, composed in the same ring, give a back
abbrev pub RoundTrip : Type 0
RoundTrip = (e : ℕ) → 3 ≤ e → (a y z : Place → ℕ) (T U : Place → List ℕ)
    → 4 * total (modulus e) a < modulus e
    → total (modulus e) (result (composition e (e - 2)) (result (decomposition e (e - 2)) a y T) z U) ≡ total (modulus e) a
