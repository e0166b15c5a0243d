-- What the gate does, for every modulus m and all parts. Proofs: proofs/Theorems.antt.
use Rattle.std.specs.Prelude.{ℕ, ◌+◌, ◌*◌, ◌%◌, ◌<◌, ◌≡◌}
use Rattle.ring.specs.Modular.{diff}
use Rattle.gate.specs.Gates.{gated, item, mask, unmask, word}
use Rattle.gate.specs.Places.{Below, Pair, Place, held, p0, p1, p2, pair, total}

-- the total of the new sub-shares is the product of the totals
abbrev pub Multiplies : Type 0
Multiplies = (m : ℕ) → 0 < m → (x y t : Place → ℕ) → total m (gated m x y t) ≡ total m x * total m y % m

-- every word is in range
abbrev pub WordsFit : Type 0
WordsFit = (m : ℕ) → 0 < m → (x y t : Place → ℕ) → Below m (gated m x y t)

-- the three masks total 0
abbrev pub MasksCancel : Type 0
MasksCancel = (m : ℕ) → 0 < m → (t : Place → ℕ) → (mask m (held t p0) + mask m (held t p1) + mask m (held t p2)) % m ≡ 0

-- "Bits don't notice" (02, P5): modulo 2 the mask is 01's, t_i - t_(i+1)
abbrev pub BitsSame : Type 0
BitsSame = (own far : ℕ) → mask 2 (pair own far) ≡ diff 2 own far

-- a mask and the item it adds determine each other
abbrev pub Unmasks : Type 0
Unmasks = (m : ℕ) → 0 < m → (own far : ℕ) → far < m → unmask m own (mask m (pair own far)) ≡ far

abbrev pub Masks : Type 0
Masks = (m : ℕ) → 0 < m → (own d : ℕ) → d < m → mask m (pair own (unmask m own d)) ≡ d

-- the word received and the item that the receiver lacks determine each other, all else fixed
abbrev pub ItemOfWord : Type 0
ItemOfWord = (m : ℕ) → 0 < m → (x y : Pair) (own far : ℕ) → far < m
    → item m x y own (word m x y (pair own far)) ≡ far

abbrev pub WordOfItem : Type 0
WordOfItem = (m : ℕ) → 0 < m → (x y : Pair) (own z : ℕ) → z < m
    → word m x y (pair own (item m x y own z)) ≡ z

-- and the item is in range
abbrev pub ItemsFit : Type 0
ItemsFit = (m : ℕ) → 0 < m → (x y : Pair) (own z : ℕ) → item m x y own z < m
