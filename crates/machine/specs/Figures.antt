-- 01, "Figures worked by hand": every row marked (*), under one statement. Proof: proofs/Figures.antt.
use Rattle.std.specs.Prelude.{ℕ, List, [], ◌∷◌, ◌++◌, replicate}
use Rattle.ring.specs.declared.rings.Ring.TheVariants.{R13}
use Rattle.gate.specs.Places.{Place, three}
use Rattle.circuit.specs.Figures as circuit
use Rattle.circuit.specs.Figures.{Figure, Hold, row}
use Rattle.machine.specs.Registers.{empty_machine, register_at, with_register}
use Rattle.machine.specs.Step.{step, value_of}
use Rattle.machine.specs.declared.orders.Order.TheVariants.{Decompose}
use Rattle.machine.specs.declared.registers.Machine.{Machine}
use Rattle.machine.specs.declared.registers.Register.TheVariants.{Number}

-- a, b, c of ring 13 in register 0, all else empty
abbrev holding : ℕ → ℕ → ℕ → Machine
holding a b c = with_register empty_machine 0 (Number R13 (record { s0 = a; s1 = b; s2 = c }))

-- mask tapes and channels: an item and a word of each for every one of the 3 * 11 + 1 = 34 gates
abbrev lent : Place → List ℕ
lent = three (replicate 34 0) (replicate 34 1) (replicate 34 0)

-- decomposed into register 1 at l = 11: the refusal answered, and the value there afterwards
abbrev decomposed : ℕ → ℕ → ℕ → List ℕ
decomposed a b c =
    let s = step (Decompose 1 0 11) (holding a b c) (record { masks = lent; dealer = [] }) lent in
    s.refusal ∷ value_of (register_at s.machine 1) ∷ []

-- "2048 as 2048,0,0 gives 1; .. as 2047,1,0 gives 0. No refusal.", of the order
unfoldable pub not_refused : List Figure
not_refused = row (decomposed 2048 0 0) (0 ∷ 1 ∷ []) ∷ row (decomposed 2047 1 0) (0 ∷ 0 ∷ []) ∷ []

-- the whole table
unfoldable pub figures : List Figure
figures = circuit.figures ++ not_refused

-- every row holds
abbrev pub FiguresHold : Type 0
FiguresHold = Hold figures
