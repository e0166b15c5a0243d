-- One party among three: "A unit uses nothing but its own pairs .., its two strands, the words it has received and what is public".
use Rattle.std.specs.Prelude.{ℕ, ◌<◌, List, [], ◌∷◌, drop, get_or}
use Rattle.gate.specs.Gates.{item, word}
use Rattle.gate.specs.Places.{Place, held, next, p0, p1, p2, pair, tabled, three}
use Rattle.circuit.specs.Circuits.{Gate, after, sent, words}

-- what party U has at its own place, at the next one, and lacks, by place
abbrev pub around {ℓ} : {A : Type ℓ} → Place → A → A → A → Place → A
around p0 own far lacked = three own far lacked
around p1 own far lacked = three lacked own far
around p2 own far lacked = three far lacked own

-- the place whose sub-shares and mask tape U lacks
abbrev pub lacked_by : Place → Place
lacked_by U = next (next U)

-- what U keeps: the states at its two places
pub record Held (S : Type 0) : Type 0 where
  pub own : S
  pub far : S

abbrev pub held_states : {S : Type 0} → Place → (Place → S) → Held S
held_states U s = record { own = s U; far = s (next U) }

-- U's word at a gate, from its own states and items
abbrev pub own_word : {S : Type 0} → Place → Gate S → Held S → ℕ → ℕ → ℕ
own_word U g h t t' =
    word g.modulus
    (pair (g.left U h.own) (g.left (next U) h.far))
    (pair (g.right U h.own) (g.right (next U) h.far))
    (pair t t')

-- its states after the gate, from its own word w and the word z that it receives
abbrev pub own_after : {S : Type 0} → Place → Gate S → Held S → ℕ → ℕ → Held S
own_after U g h w z = record { own = g.absorb U h.own w; far = g.absorb (next U) h.far z }

abbrev pub first : List ℕ → ℕ
first l = get_or l 0 0

-- U's states at the end of a list of gates, from its states, its two mask tapes and the words it receives
unfoldable pub own_ends : {S : Type 0} → Place → List (Gate S) → Held S → (own far received : List ℕ) → Held S
own_ends U [] h t t' W = h
own_ends U (g ∷ G) h t t' W =
    own_ends U G (own_after U g h (own_word U g h (first t) (first t')) (first W)) (drop 1 t) (drop 1 t') (drop 1 W)

-- the words that U sends, from the same
unfoldable pub own_sent : {S : Type 0} → Place → List (Gate S) → Held S → (own far received : List ℕ) → List ℕ
own_sent U [] h t t' W = []
own_sent U (g ∷ G) h t t' W =
    own_word U g h (first t) (first t')
    ∷ own_sent U G (own_after U g h (own_word U g h (first t) (first t')) (first W)) (drop 1 t) (drop 1 t') (drop 1 W)

-- the words that U receives, channel U + 1, where M is the mask tape that it lacks
unfoldable pub encode : {S : Type 0} → Place → List (Gate S) → (Place → S) → (own far M : List ℕ) → List ℕ
encode U G s t t' M = sent G s (around U t t' M) (next U)

-- the item that U lacks at a gate, from the word it receives there
unfoldable pub lacked_item : {S : Type 0} → Place → Gate S → (Place → S) → ℕ → ℕ → ℕ
lacked_item U g s t' z =
    item g.modulus
    (held (tabled (λ i. g.left i (s i))) (next U))
    (held (tabled (λ i. g.right i (s i))) (next U))
    t' z

-- the items that U lacks, from the words it receives, gate by gate
unfoldable pub decode : {S : Type 0} → Place → List (Gate S) → (Place → S) → (own far W : List ℕ) → List ℕ
decode U [] s t t' W = []
decode U (g ∷ G) s t t' W =
    lacked_item U g s (first t') (first W)
    ∷ decode U G
    (after g s (words g s (around U (first t) (first t') (lacked_item U g s (first t') (first W)))))
    (drop 1 t) (drop 1 t') (drop 1 W)

-- a list of numbers each below its modulus, and as many as there are moduli
pub data Fits : List ℕ → List ℕ → Type 0 where
  none : Fits [] []
  more : {m x : ℕ} {ms xs : List ℕ} → x < m → Fits ms xs → Fits (m ∷ ms) (x ∷ xs)
