-- A list of gates uses no more items than it has gates.
use Prim.Native.Nat.{ℕ, suc}
use mathlib.Core.List.{List, [], ◌∷◌}
use mathlib.Core.Path.{◌≡◌, ap, ap₂, fun_ext, refl, ◌∙◌}
use lib.ListN.{drop, length, take}
use Rattle.gate.specs.Places.{Place, tabled}
use Rattle.gate.proofs.PlaceLaw.{tabled_is}
use Rattle.circuit.specs.Circuits.{Gate, after, ends, heads, sent, tails, words}
use Rattle.view.proofs.TakeLaw.{first_of_take, rest_of_take}

-- tapes that agree in their first n items
abbrev pub Agree : ℕ → (Place → List ℕ) → (Place → List ℕ) → Type 0
Agree n T T' = (i : Place) → take n (T i) ≡ take n (T' i)

heads_agree : (n : ℕ) (T T' : Place → List ℕ) → Agree (suc n) T T' → heads T ≡ heads T'
heads_agree n T T' a = ap tabled (fun_ext (λ i. first_of_take n (T i) (T' i) (a i)))

tails_agree : (n : ℕ) (T T' : Place → List ℕ) → Agree (suc n) T T' → Agree n (tails T) (tails T')
tails_agree n T T' a i =
    rw (tabled_is (λ j. drop 1 (T j)), tabled_is (λ j. drop 1 (T' j))) (rest_of_take n (T i) (T' i) (a i))

module _ {S : Type 0} where
  pub ends_prefix : (G : List (Gate S)) (s : Place → S) (T T' : Place → List ℕ) → Agree (length G) T T'
      → ends G s T ≡ ends G s T'
  unfolding ends
  ends_prefix [] s T T' a = refl
  ends_prefix (g ∷ G) s T T' a =
      ends_prefix G (after g s (words g s (heads T))) (tails T) (tails T') (tails_agree (length G) T T' a)
      ∙ ap (λ t. ends G (after g s (words g s t)) (tails T')) (heads_agree (length G) T T' a)

  pub sent_prefix : (G : List (Gate S)) (s : Place → S) (T T' : Place → List ℕ) → Agree (length G) T T'
      → (i : Place) → sent G s T i ≡ sent G s T' i
  unfolding sent
  sent_prefix [] s T T' a i = refl
  sent_prefix (g ∷ G) s T T' a i =
      ap₂ ◌∷◌ (ap (λ t. words g s t i) (heads_agree (length G) T T' a))
      (sent_prefix G (after g s (words g s (heads T))) (tails T) (tails T') (tails_agree (length G) T T' a) i
      ∙ ap (λ t. sent G (after g s (words g s t)) (tails T') i) (heads_agree (length G) T T' a))
