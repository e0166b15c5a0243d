-- Every result's sub-shares are in range, for all sources and mask tapes. Proofs: proofs/Ranges.antt.
use Rattle.std.specs.Prelude.{ℕ, ◌<◌, ◌≤◌, ◌^◌, List}
use Rattle.ring.specs.Rings.{modulus}
use Rattle.gate.specs.Places.{Below, Place}
use Rattle.circuit.specs.Circuits.{Circuit, result}
use Rattle.circuit.specs.Orders.{addition, composition, conversion, decomposition, multiplication, scaling, shifting}

-- whatever the sources and the items, the circuit's sub-shares are below m
abbrev pub Leaves : ℕ → Circuit → Type 0
Leaves m C = (x y : Place → ℕ) (T : Place → List ℕ) → Below m (result C x y T)

abbrev pub AddRange : Type 0
AddRange = (p : ℕ) → 0 < p → Leaves p (addition p)

abbrev pub ScaleRange : Type 0
ScaleRange = (p c : ℕ) → 0 < p → Leaves p (scaling p c)

abbrev pub MultiplyRange : Type 0
MultiplyRange = (p : ℕ) → 0 < p → Leaves p (multiplication p)

abbrev pub DecomposeRange : Type 0
DecomposeRange = (e l : ℕ) → Leaves (2 ^ l) (decomposition e l)

abbrev pub ConvertRange : Type 0
ConvertRange = (e f : ℕ) → 1 ≤ f → Leaves (modulus f) (conversion e f)

abbrev pub ShiftRange : Type 0
ShiftRange = (e s : ℕ) → 1 ≤ e → Leaves (modulus e) (shifting e s)

abbrev pub ComposeRange : Type 0
ComposeRange = (f l : ℕ) → 1 ≤ f → Leaves (modulus f) (composition f l)
