-- Facts about preparing a tape, for all ring codes, raw words and runs. Proofs: proofs/Theorems.antt.
use Rattle.std.specs.Prelude.{ℕ, ◌≤◌, ◌<◌, ◌≡◌, cond, List, [], ◌∷◌, ltb, length, get_or, take}
use Rattle.tape.specs.Tapes.{items, kind_of, low_bits, prepared, refused}

-- the low e bits of each raw word, less those that do not fit
unfoldable pub fitting : ℕ → ℕ → List ℕ → List ℕ
fitting e limit [] = []
fitting e limit (w ∷ raw) = cond (ltb (low_bits e w) limit) (low_bits e w ∷ fitting e limit raw) (fitting e limit raw)

-- the four ring codes: bits, and each ring with its modulus
abbrev pub Codes : Type 0
Codes =
    (kind_of 1 ≡ items 1 2) × (kind_of 13 ≡ items 13 8191) × (kind_of 31 ≡ items 31 2147483647)
    × (kind_of 61 ≡ items 61 2305843009213693951)

-- "5 other ring code", whatever the raw words and the run
abbrev pub OtherCode : Type 0
OtherCode = (code : ℕ) (raw run : List ℕ)
    → (code ≡ 1 → ⊥) → (code ≡ 13 → ⊥) → (code ≡ 31 → ⊥) → (code ≡ 61 → ⊥)
    → prepared code raw run ≡ refused 5 run

-- every item written is in range
abbrev pub InRange : Type 0
InRange = (code e limit : ℕ) (raw run : List ℕ)
    → kind_of code ≡ items e limit
    → (prepared code raw run).refusal ≡ 0
    → (i : ℕ) → i < length run → get_or (prepared code raw run).run i 0 < limit

-- as many items are written as the run is long
abbrev pub SameLength : Type 0
SameLength = (code : ℕ) (raw run : List ℕ) → length (prepared code raw run).run ≡ length run

-- the items are the low bits of the raw words used, in their order, less those that do not fit
abbrev pub InOrder : Type 0
InOrder = (code e limit : ℕ) (raw run : List ℕ)
    → kind_of code ≡ items e limit
    → (prepared code raw run).refusal ≡ 0
    → (prepared code raw run).run ≡ fitting e limit (take (prepared code raw run).count raw)

-- raw words run out exactly where too few of them fit
abbrev pub RunsOut : Type 0
RunsOut = (code e limit : ℕ) (raw run : List ℕ)
    → kind_of code ≡ items e limit
    → (length run ≤ length (fitting e limit raw) → (prepared code raw run).refusal ≡ 0)
    × (length (fitting e limit raw) < length run → (prepared code raw run).refusal ≡ 12)

-- the count is the least: the raw words used give the same, and fewer run out
abbrev pub Least : Type 0
Least = (code : ℕ) (raw run : List ℕ)
    → (prepared code raw run).refusal ≡ 0
    → (prepared code (take (prepared code raw run).count raw) run ≡ prepared code raw run)
    × ((k : ℕ) → k < (prepared code raw run).count → prepared code (take k raw) run ≡ refused 12 run)

-- "Either leaves the run unchanged, with count 0"
abbrev pub Unchanged : Type 0
Unchanged = (code : ℕ) (raw run : List ℕ)
    → ((prepared code raw run).refusal ≡ 0 → ⊥)
    → ((prepared code raw run).count ≡ 0) × ((prepared code raw run).run ≡ run)

-- a run of length 0 is accepted with count 0, for every ring code that there is
abbrev pub EmptyRun : Type 0
EmptyRun = (code e limit : ℕ) (raw : List ℕ)
    → kind_of code ≡ items e limit
    → prepared code raw [] ≡ record { refusal = 0; count = 0; run = [] }

-- "Raw 8191, 8192, 5, two items in ring 13: 0, 5, three words used", whatever the run held
abbrev pub Figure : Type 0
Figure = (a b : ℕ)
    → prepared 13 (8191 ∷ 8192 ∷ 5 ∷ []) (a ∷ b ∷ []) ≡ record { refusal = 0; count = 3; run = 0 ∷ 5 ∷ [] }
