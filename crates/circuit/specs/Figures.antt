-- 01, "Figures worked by hand": the rows marked (*) that speak of circuits and gates, the product's words by 02, P5. Proof: proofs/Figures.antt.
-- The whole table, with the rows over `step`, is `machine`'s specs/Figures.antt.
use Rattle.std.specs.Prelude.{ℕ, List, [], ◌∷◌, map, ◌≡◌}
use Rattle.ring.specs.Rings.{modulus}
use Rattle.gate.specs.Gates.{gated}
use Rattle.gate.specs.Places.{Place, p0, p1, p2, three, total}
use Rattle.circuit.specs.Bits.{exclusive}
use Rattle.circuit.specs.Circuits.{Circuit, result}
use Rattle.circuit.specs.Orders.{conversion, decomposition, lifted}

-- a row: what the definitions give, and what the paper says
pub record Figure : Type 0 where
  pub given : List ℕ
  pub wanted : List ℕ

abbrev listed : (Place → ℕ) → List ℕ
listed x = x p0 ∷ x p1 ∷ x p2 ∷ []

-- some items in range of every modulus, those past the list being 0: no value depends on them
abbrev tapes : Place → List ℕ
tapes = three (1 ∷ 0 ∷ 1 ∷ 1 ∷ 0 ∷ []) (0 ∷ 1 ∷ 1 ∷ 0 ∷ 1 ∷ []) (1 ∷ 1 ∷ 0 ∷ 0 ∷ 1 ∷ [])

-- what sub-shares a, b, c leave
abbrev run : Circuit → ℕ → ℕ → ℕ → Place → ℕ
run C a b c = result C (three a b c) (three 0 0 0) tapes

-- in ring 13, the value, and what it "decomposes at l = 11 to"
abbrev value : ℕ → ℕ → ℕ → ℕ
value a b c = total (modulus 13) (three a b c)

abbrev bits : ℕ → ℕ → ℕ → ℕ
bits a b c = exclusive (run (decomposition 13 11) a b c)

-- "V as a,b,c: gives", and with "X ="
abbrev gives : ℕ → ℕ → ℕ → List ℕ
gives a b c = value a b c ∷ bits a b c ∷ []

abbrev gives_with_x : ℕ → ℕ → ℕ → List ℕ
gives_with_x a b c = value a b c ∷ lifted 13 (three a b c) ∷ bits a b c ∷ []

-- "to ring", of ring 13
abbrev converted : ℕ → ℕ → ℕ → ℕ → List ℕ
converted f a b c = total (modulus f) (run (conversion 13 f) a b c) ∷ []

abbrev pub row : List ℕ → List ℕ → Figure
row given wanted = record { given = given; wanted = wanted }

unfoldable pub figures : List Figure
figures =
    row (gives_with_x 1 2 2) (5 ∷ 20 ∷ 5 ∷ [])
    ∷ row (gives_with_x 8000 100 96) (5 ∷ 8211 ∷ 5 ∷ [])
    ∷ row (gives_with_x 8000 8000 387) (5 ∷ 16402 ∷ 5 ∷ [])
    ∷ row (gives_with_x 8190 1 0) (0 ∷ 8191 ∷ 0 ∷ [])
    ∷ row (gives 2047 0 0) (2047 ∷ 2047 ∷ [])
    ∷ row (gives 2048 0 0) (2048 ∷ 1 ∷ [])
    ∷ row (gives 2047 1 0) (2048 ∷ 0 ∷ [])
    ∷ row (converted 31 8000 100 96) (5 ∷ [])
    ∷ row (converted 31 2048 0 0) (2147477504 ∷ [])
    ∷ row (converted 13 2048 0 0) (2048 ∷ [])
    -- products of 1,2,2 and 3,0,0 with items 10,20,30: "the words become 19, 10 and 8177"
    ∷ row (listed (gated (modulus 13) (three 1 2 2) (three 3 0 0) (three 10 20 30))) (19 ∷ 10 ∷ 8177 ∷ [])
    -- bits 1,0,1 and 1,1,0 with items 0,1,1
    ∷ row (listed (gated 2 (three 1 0 1) (three 1 1 0) (three 0 1 1))) (1 ∷ 1 ∷ 0 ∷ [])
    ∷ []

-- every row of a table holds
abbrev pub Hold : List Figure → Type 0
Hold rows = map (λ (f : Figure). f.given) rows ≡ map (λ (f : Figure). f.wanted) rows
