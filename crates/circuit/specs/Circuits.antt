-- Circuits: lists of gates over a state that each place keeps for itself.
use Rattle.std.specs.Prelude.{ℕ, zero, suc, List, [], ◌∷◌, ◌++◌, map, drop, get_or, length}
use Rattle.gate.specs.Gates.{gated}
use Rattle.gate.specs.Places.{Place, tabled}

-- one gate: its modulus, its two factors and what becomes of the word, each from the place and that place's state alone
pub record Gate (S : Type 0) : Type 0 where
  pub modulus : ℕ
  pub left : Place → S → ℕ
  pub right : Place → S → ℕ
  pub absorb : Place → S → ℕ → S

-- the words of one gate, with the item of each mask tape
unfoldable pub words : {S : Type 0} → Gate S → (Place → S) → (Place → ℕ) → Place → ℕ
words g s t = gated g.modulus (tabled (λ i. g.left i (s i))) (tabled (λ i. g.right i (s i))) t

-- the states after it
unfoldable pub after : {S : Type 0} → Gate S → (Place → S) → (Place → ℕ) → Place → S
after g s z = tabled (λ i. g.absorb i (s i) (z i))

-- "the next item t0, t1, t2 of each strand", and what is left of the tapes
abbrev pub heads : (Place → List ℕ) → Place → ℕ
heads T = tabled (λ i. get_or (T i) 0 0)

abbrev pub tails : (Place → List ℕ) → Place → List ℕ
tails T = tabled (λ i. drop 1 (T i))

-- the states at the end of a list of gates, from the states at the start and the mask tapes
unfoldable pub ends : {S : Type 0} → List (Gate S) → (Place → S) → (Place → List ℕ) → Place → S
ends [] s T = s
ends (g ∷ G) s T = ends G (after g s (words g s (heads T))) (tails T)

-- the words that each place sends, in order
unfoldable pub sent : {S : Type 0} → List (Gate S) → (Place → S) → (Place → List ℕ) → Place → List ℕ
sent [] s T i = []
sent (g ∷ G) s T i = words g s (heads T) i ∷ sent G (after g s (words g s (heads T))) (tails T) i

-- g 0, g 1, .. up to k gates
unfoldable pub upto : {S : Type 0} → (ℕ → Gate S) → ℕ → List (Gate S)
upto g zero = []
upto g (suc k) = upto g k ++ (g k ∷ [])

-- an order's circuit: a start from the sub-shares of its sources at a place, gates, and a finish to the sub-share of its result
pub record Circuit : Type 1 where
  pub State : Type 0
  pub start : ℕ → ℕ → State
  pub gates : List (Gate State)
  pub finish : Place → State → ℕ

abbrev pub starts : (C : Circuit) → (Place → ℕ) → (Place → ℕ) → Place → C.State
starts C x y = tabled (λ i. C.start (x i) (y i))

-- the sub-shares that it leaves, and the words that it sends
unfoldable pub result : Circuit → (Place → ℕ) → (Place → ℕ) → (Place → List ℕ) → Place → ℕ
result C x y T = tabled (λ i. C.finish i (ends C.gates (starts C x y) T i))

unfoldable pub channelled : Circuit → (Place → ℕ) → (Place → ℕ) → (Place → List ℕ) → Place → List ℕ
channelled C x y T = sent C.gates (starts C x y) T

-- "the number of gates", and the moduli that its items must be below
abbrev pub gates_of : Circuit → ℕ
gates_of C = length C.gates

abbrev pub moduli : {S : Type 0} → List (Gate S) → List ℕ
moduli G = map (λ g. g.modulus) G
