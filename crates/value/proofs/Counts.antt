-- Gate counts and moduli (specs/Counts.antt).
use Prim.Native.Nat.{ℕ, zero, suc, ◌+◌, ◌*◌, ◌-◌, ◌≤◌}
use mathlib.Core.List.{List, [], ◌∷◌, ◌++◌, map, map-append}
use mathlib.Core.Path.{◌≡◌, ap, ap₂, refl, sym, ◌∙◌}
use native.Mathlib.Omega.{arith}
use lib.ListN.{length, length-append, length-map, length-replicate, replicate, replicate-append-replicate}
use Rattle.ring.specs.Rings.{modulus}
use Rattle.gate.specs.Places.{Place}
use Rattle.circuit.specs.Circuits.{Gate, moduli, upto}
use Rattle.circuit.specs.Compose.{compose_gates, first_gate, second_gate}
use Rattle.circuit.specs.Decompose.{Digits, carry_gate, decompose_gates, digit, raising_gate, running_gate, zero_gate}
use Rattle.circuit.specs.Orders.{composition, conversion, decomposition, quotient_gate, shifting, within}
use Rattle.value.specs.Counts.{ComposeCount, ComposeModuli, ConvertCount, ConvertModuli, DecomposeCount, DecomposeModuli, ShiftCount, ShiftModuli}

-- n gates, all of modulus m
record Alike {S : Type 0} (n m : ℕ) (G : List (Gate S)) : Type 0 where
  are : moduli G ≡ replicate n m

module _ {S : Type 0} {m : ℕ} where
  alike-append : {a b n : ℕ} {G H : List (Gate S)} → Alike a m G → Alike b m H → a + b ≡ n → Alike n m (G ++ H)
  alike-append {a} {b} {n} {G} {H} g h e =
      let both = ap₂ ◌++◌ g.are h.are ∙ replicate-append-replicate a b m in
      record { are = map-append (λ g. g.modulus) G H ∙ both ∙ ap (λ (k : ℕ). replicate k m) e }

  alike-upto : (g : ℕ → Gate S) → ((k : ℕ) → (g k).modulus ≡ m) → (n : ℕ) → Alike n m (upto g n)
  unfolding upto
  alike-upto g same zero = record { are = refl }
  alike-upto g same (suc n) =
      alike-append {b = 1} (alike-upto g same n) (record { are = ap (λ (k : ℕ). replicate 1 k) (same n) }) (omega arith)

compose_alike : {K : Type 0} (read : Place → K → ℕ → ℕ) (m from n : ℕ) → Alike (2 * n) m (compose_gates read m from n)
unfolding compose_gates first_gate second_gate
compose_alike read m from zero = record { are = refl }
compose_alike read m from (suc n) = alike-append {b = 2} (compose_alike read m from n) (record { are = refl }) (omega arith)

decompose_alike : (l : ℕ) → 1 ≤ l → Alike (3 * l + 1) 2 (decompose_gates l)
unfolding decompose_gates carry_gate running_gate zero_gate raising_gate
decompose_alike l h =
    alike-append (alike-upto carry_gate (λ k. refl) (l + 1))
    (alike-append (alike-upto (λ k. running_gate (k + 1)) (λ k. refl) l)
    (alike-append {a = 1} {G = zero_gate ∷ []} (record { are = refl }) (alike-upto raising_gate (λ k. refl) (l - 1)) refl) refl)
    (omega arith)

within-moduli : (G : List (Gate Digits)) → moduli (map within G) ≡ moduli G
within-moduli [] = refl
within-moduli (g ∷ G) = ap (λ (l : List ℕ). g.modulus ∷ l) (within-moduli G)

pub decompose_moduli : DecomposeModuli
unfolding decomposition
decompose_moduli e l h = (decompose_alike l h).are

pub convert_moduli : ConvertModuli
unfolding conversion quotient_gate
convert_moduli e f = ap (λ (l : List ℕ). 2 ∷ l) (compose_alike _ (modulus f) 0 2).are

pub shift_moduli : ShiftModuli
unfolding shifting
shift_moduli e s h =
    let G = decompose_gates (e - 2) in
    map-append (λ g. g.modulus) (map within G) (compose_gates digit (modulus e) s (e - 2 - s))
    ∙ ap₂ ◌++◌ (within-moduli G ∙ (decompose_alike (e - 2) (omega arith)).are) (compose_alike digit (modulus e) s (e - 2 - s)).are

pub compose_moduli : ComposeModuli
unfolding composition
compose_moduli f l = (compose_alike _ (modulus f) 0 l).are

-- as many gates as moduli
counted : {S : Type 0} (G : List (Gate S)) {l : List ℕ} → moduli G ≡ l → length G ≡ length l
counted G e = sym (length-map G (λ g. g.modulus)) ∙ ap length e

pub decompose_count : DecomposeCount
decompose_count e l h = counted (decomposition e l).gates (decompose_moduli e l h) ∙ length-replicate (3 * l + 1) 2

pub convert_count : ConvertCount
convert_count e f = counted (conversion e f).gates (convert_moduli e f)

pub shift_count : ShiftCount
shift_count e s h =
    counted (shifting e s).gates (shift_moduli e s h)
    ∙ length-append (replicate (3 * (e - 2) + 1) 2) (replicate (2 * (e - 2 - s)) (modulus e))
    ∙ ap₂ ◌+◌ (length-replicate (3 * (e - 2) + 1) 2) (length-replicate (2 * (e - 2 - s)) (modulus e))

pub compose_count : ComposeCount
compose_count f l = counted (composition f l).gates (compose_moduli f l) ∙ length-replicate (2 * l) (modulus f)
