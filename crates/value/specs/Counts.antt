-- Gate counts as formulas, and the moduli that items are tested by. Proofs: proofs/Counts.antt.
use Rattle.std.specs.Prelude.{ℕ, ◌+◌, ◌*◌, ◌-◌, ◌≤◌, ◌∷◌, ◌++◌, ◌≡◌, replicate}
use Rattle.ring.specs.Rings.{modulus}
use Rattle.circuit.specs.Circuits.{gates_of, moduli}
use Rattle.circuit.specs.Orders.{composition, conversion, decomposition, shifting}

-- "In all 3l + 1 gates"
abbrev pub DecomposeCount : Type 0
DecomposeCount = (e l : ℕ) → 1 ≤ l → gates_of (decomposition e l) ≡ 3 * l + 1

-- "Five gates"
abbrev pub ConvertCount : Type 0
ConvertCount = (e f : ℕ) → gates_of (conversion e f) ≡ 5

-- "3(e-2) + 1 + 2(e-2-s) gates"
abbrev pub ShiftCount : Type 0
ShiftCount = (e s : ℕ) → 3 ≤ e → gates_of (shifting e s) ≡ 3 * (e - 2) + 1 + 2 * (e - 2 - s)

-- "two gates a bit"
abbrev pub ComposeCount : Type 0
ComposeCount = (f l : ℕ) → gates_of (composition f l) ≡ 2 * l

-- bits first, then the ring of the result
abbrev pub DecomposeModuli : Type 0
DecomposeModuli = (e l : ℕ) → 1 ≤ l → moduli (decomposition e l).gates ≡ replicate (3 * l + 1) 2

abbrev pub ConvertModuli : Type 0
ConvertModuli = (e f : ℕ) → moduli (conversion e f).gates ≡ 2 ∷ replicate 4 (modulus f)

abbrev pub ShiftModuli : Type 0
ShiftModuli = (e s : ℕ) → 3 ≤ e
    → moduli (shifting e s).gates ≡ replicate (3 * (e - 2) + 1) 2 ++ replicate (2 * (e - 2 - s)) (modulus e)

abbrev pub ComposeModuli : Type 0
ComposeModuli = (f l : ℕ) → moduli (composition f l).gates ≡ replicate (2 * l) (modulus f)
