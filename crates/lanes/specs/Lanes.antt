-- 02, P13: "with one 64-bit word a gate, bit k serving figure k": a circuit of bits on 64 figures at once.
use Rattle.std.specs.Prelude.{ℕ, zero, suc, List, [], ◌∷◌, ◌++◌, map, get_or}
use Rattle.ring.specs.Rings.{bit_of}
use Rattle.gate.specs.Places.{Place, tabled}
use Rattle.circuit.specs.Bits.{gather}
use Rattle.circuit.specs.Circuits.{Circuit, channelled, gates_of, result}

-- how many figures a word serves
abbrev pub count : ℕ
count = 64

-- f 0 to f (n - 1)
unfoldable pub listed : ℕ → (ℕ → ℕ) → List ℕ
listed zero f = []
listed (suc n) f = listed n f ++ (f n ∷ [])

-- "three runs of 64 sub-shares": the three sub-shares of figure k
abbrev pub figure : (Place → List ℕ) → ℕ → Place → ℕ
figure a k = tabled (λ i. get_or (a i) k 0)

-- bit k of each word of a run, and of the three mask tapes
abbrev pub lane : ℕ → List ℕ → List ℕ
lane k ws = map (λ w. bit_of w k) ws

abbrev pub lanes : ℕ → (Place → List ℕ) → Place → List ℕ
lanes k T = tabled (λ i. lane k (T i))

-- n words, bit k of the g-th being item g of list k
unfoldable pub woven : ℕ → (ℕ → List ℕ) → List ℕ
woven n f = listed n (λ g. gather count (λ k. get_or (f k) g 0))

-- "figure k at place k": what the circuit of an order with one source, which is given twice, leaves of figure k, "fed bit k of each
-- item"
unfoldable pub results : Circuit → (a T : Place → List ℕ) → Place → List ℕ
results C a T i = listed count (λ k. result C (figure a k) (figure a k) (lanes k T) i)

-- the words that each place sends: bit k of word g is what figure k's gate g sends
unfoldable pub words_sent : Circuit → (a T : Place → List ℕ) → Place → List ℕ
words_sent C a T i = woven (gates_of C) (λ k. channelled C (figure a k) (figure a k) (lanes k T) i)
