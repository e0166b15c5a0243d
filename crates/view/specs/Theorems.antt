-- What one party sees of any list of gates, for every party by one proof each. Proofs: proofs/Theorems.antt.
use Rattle.std.specs.Prelude.{ℕ, suc, List, ◌≡◌, take}
use Rattle.gate.specs.Places.{Place, next}
use Rattle.circuit.specs.Circuits.{Gate, ends, moduli, sent}
use Rattle.view.specs.Views.{Fits, Held, decode, encode, held_states, own_ends, own_sent}

-- what U holds and sends is a function of its own states, its own two mask tapes and the words received
abbrev pub EndsLocal : Type 1
EndsLocal = (S : Type 0) (U : Place) (G : List (Gate S)) (s : Place → S) (T : Place → List ℕ)
    → held_states U (ends G s T) ≡ own_ends U G (held_states U s) (T U) (T (next U)) (sent G s T (next U))

abbrev pub SentLocal : Type 1
SentLocal = (S : Type 0) (U : Place) (G : List (Gate S)) (s : Place → S) (T : Place → List ℕ)
    → sent G s T U ≡ own_sent U G (held_states U s) (T U) (T (next U)) (sent G s T (next U))

-- "the words it has received": the first k + 1 words that a party sends depend on the first k that it receives, and on nothing later
abbrev pub SentCausal : Type 1
SentCausal = (S : Type 0) (U : Place) (G : List (Gate S)) (h : Held S) (t t' W W' : List ℕ) (k : ℕ)
    → take k W ≡ take k W'
    → take (suc k) (own_sent U G h t t' W) ≡ take (suc k) (own_sent U G h t t' W')

-- the items that U lacks and the words it receives determine each other, each list in the ranges of the gates
abbrev pub ItemsOfWords : Type 1
ItemsOfWords = (S : Type 0) (U : Place) (G : List (Gate S)) (s : Place → S) (t t' M : List ℕ)
    → Fits (moduli G) M
    → decode U G s t t' (encode U G s t t' M) ≡ M

abbrev pub WordsOfItems : Type 1
WordsOfItems = (S : Type 0) (U : Place) (G : List (Gate S)) (s : Place → S) (t t' W : List ℕ)
    → Fits (moduli G) W
    → encode U G s t t' (decode U G s t t' W) ≡ W

abbrev pub WordsFit : Type 1
WordsFit = (S : Type 0) (U : Place) (G : List (Gate S)) (s : Place → S) (t t' M : List ℕ)
    → Fits (moduli G) M
    → Fits (moduli G) (encode U G s t t' M)

abbrev pub ItemsFit : Type 1
ItemsFit = (S : Type 0) (U : Place) (G : List (Gate S)) (s : Place → S) (t t' W : List ℕ)
    → Fits (moduli G) W
    → Fits (moduli G) (decode U G s t t' W)
