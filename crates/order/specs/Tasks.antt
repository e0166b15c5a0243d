-- 01, "The nine orders": orders 2 to 8 once their sources are found.
-- Used by the code's contracts alone: no theorem's statement speaks of it.
use Rattle.std.specs.Prelude.{ℕ, ◌+◌, ◌*◌, ◌-◌, ◌%◌, ◌≤◌, ◌<◌, Result, Ok, Err}
use Rattle.ring.specs.Rings.{modulus_of, width_of}
use Rattle.ring.specs.declared.rings.Ring.{Ring}
use Rattle.gate.specs.Places.{InRange}
use Rattle.gate.specs.declared.sharing.Sharing.{Sharing}
use Rattle.circuit.specs.Circuits.{Circuit}
use Rattle.circuit.specs.Orders.{composition, conversion, decomposition, multiplication, shifting}
use Rattle.machine.specs.Registers.{Kind, bits, million, number}
use Rattle.machine.specs.declared.answers.Refusal.{Refusal}
use Rattle.machine.specs.declared.registers.Machine.{Machine}
use Rattle.order.specs.declared.tasks.Cost.{Cost}
use Rattle.order.specs.declared.tasks.Prepared.{Prepared}
use Rattle.order.specs.declared.tasks.Prepared.TheVariants.{Gates, Local}
use Rattle.order.specs.declared.tasks.Task.{Task}
use Rattle.order.specs.declared.tasks.Task.TheVariants.{Compose, Convert, Decompose, Multiply, Shift}

-- the circuit of an order with gates
abbrev pub circuit_of : Task → Circuit
circuit_of (Multiply r x y) = multiplication (modulus_of r)
circuit_of (Decompose r a l) = decomposition (width_of r) l
circuit_of (Convert e f a) = conversion (width_of e) (width_of f)
circuit_of (Shift r a s) = shifting (width_of r) s
circuit_of (Compose f w l) = composition (width_of f) l

-- its sources' sub-shares
abbrev pub source_of : Task → Sharing
source_of (Multiply r x y) = x
source_of (Decompose r a l) = a
source_of (Convert e f a) = a
source_of (Shift r a s) = a
source_of (Compose f w l) = w

abbrev pub other_of : Task → Sharing
other_of (Multiply r x y) = y
other_of (Decompose r a l) = a
other_of (Convert e f a) = a
other_of (Shift r a s) = a
other_of (Compose f w l) = w

-- what it leaves in d
abbrev pub kind_left : Task → Kind
kind_left (Multiply r x y) = number r
kind_left (Decompose r a l) = bits l
kind_left (Convert e f a) = number f
kind_left (Shift r a s) = number r
kind_left (Compose f w l) = number f

-- "l from 1 to e-2", of a number in range
pub record Decomposes (r : Ring) (a : Sharing) (l : ℕ) : Type 0 where
  pub source : InRange (modulus_of r) a
  pub least : 1 ≤ l
  pub most : l ≤ width_of r - 2

-- "s from 0 to e-3"
pub record Shifts (r : Ring) (a : Sharing) (s : ℕ) : Type 0 where
  pub source : InRange (modulus_of r) a
  pub most : s ≤ width_of r - 3

-- two numbers of one ring
pub record Multiplies (r : Ring) (x y : Sharing) : Type 0 where
  pub left : InRange (modulus_of r) x
  pub right : InRange (modulus_of r) y

-- what sound sources and accepted numbers give
abbrev pub Fit : Task → Type 0
Fit (Multiply r x y) = Multiplies r x y
Fit (Decompose r a l) = Decomposes r a l
Fit (Convert e f a) = InRange (modulus_of e) a
Fit (Shift r a s) = Shifts r a s
Fit (Compose f w l) = l ≤ 59

-- b gates on bits and n in a ring
abbrev pub costing : ℕ → ℕ → Ring → Cost
costing b n r = record { bits = b; ring = n; modulus = modulus_of r }

-- the gates of a task on bits, then those in the ring of a modulus: "3l + 1 gates", "Five gates", "3(e-2) + 1 + 2(e-2-s) gates", "two gates a bit"
abbrev pub cost_of : Task → Cost
cost_of (Multiply r x y) = costing 0 1 r
cost_of (Decompose r a l) = costing (3 * l + 1) 0 r
cost_of (Convert e f a) = costing 1 4 f
cost_of (Shift r a s) = costing (3 * (width_of r - 2) + 1) (2 * (width_of r - 2 - s)) r
cost_of (Compose f w l) = costing 0 (2 * l) f

-- a destination below 16, and positions with room to rise
pub record Seated (m : Machine) (d : ℕ) : Type 0 where
  pub register : d < 16
  pub masks : m.masks_at ≤ million
  pub channels : m.channels_at ≤ million
  pub dealer : m.dealer_at ≤ million

-- what an order with such a step needs of the record
abbrev pub Ready : Machine → ℕ → Result Prepared Refusal → Type 0
Ready m d (Err w) = Unit {0}
Ready m d (Ok (Local r)) = Seated m d
Ready m d (Ok (Gates t)) = Seated m d × Fit t

-- order 2: "sub-share by sub-share"
abbrev pub added_to : ℕ → Sharing → Sharing → Sharing
added_to p x y = record { s0 = (x.s0 + y.s0) % p; s1 = (x.s1 + y.s1) % p; s2 = (x.s2 + y.s2) % p }

-- order 3: "by a public c"
abbrev pub scaled_by : ℕ → Sharing → ℕ → Sharing
scaled_by p x c = record { s0 = x.s0 * c % p; s1 = x.s1 * c % p; s2 = x.s2 * c % p }
