-- Circuits whose gates are all on bits.
use Prim.Native.Nat.{ℕ, zero, suc, ◌<◌}
use mathlib.Core.List.{List, [], ◌∷◌}
use mathlib.Core.Path.{◌≡◌, ap, refl, subst, sym, ◌∙◌}
use native.Mathlib.Omega.{arith}
use lib.Dec.{lit<}
use lib.ListN.{drop, get_or, length, replicate}
use Rattle.gate.specs.Places.{Place}
use Rattle.circuit.specs.Circuits.{Circuit, Gate, after, channelled, gates_of, heads, moduli, sent, starts, tails, upto, words}
use Rattle.circuit.specs.Decompose.{carry_gate, decompose_gates, zero_gate}
use Rattle.circuit.specs.Orders.{decomposition}
use Rattle.circuit.proofs.RunLaw.{length-sent, words_below}
use Rattle.value.proofs.Counts.{decompose_count, decompose_moduli}
use Rattle.view.specs.Views.{Fits, more, none}
use Rattle.lanes.proofs.LaneLaw.{Bits}

abbrev pub OnBits : {S : Type 0} → List (Gate S) → Type 0
OnBits G = moduli G ≡ replicate (length G) 2

pub decomposition-bits : (e l : ℕ) → OnBits (decomposition e l).gates
unfolding decomposition decompose_gates upto carry_gate zero_gate
decomposition-bits e zero = refl
decomposition-bits e (suc l) =
    decompose_moduli e (suc l) (omega arith) ∙ ap (λ (n : ℕ). replicate n 2) (sym (decompose_count e (suc l) (omega arith)))

-- such gates send bits
sent_below : {S : Type 0} (G : List (Gate S)) → OnBits G → (s : Place → S) (T : Place → List ℕ) (i : Place) (g : ℕ) → get_or (sent G s T i) g 0 < 2
unfolding sent
sent_below [] on s T i g = lit< tt
sent_below (h ∷ G) on s T i zero =
    let two : h.modulus ≡ 2 = ap (λ (l : List ℕ). get_or l 0 0) on in
    subst (λ (m : ℕ). words h s (heads T) i < m) two (words_below h (omega arith) s (heads T) i)
sent_below (h ∷ G) on s T i (suc g) = sent_below G (ap (drop 1) on) (after h s (words h s (heads T))) (tails T) i g

pub channelled-bits : (C : Circuit) → OnBits C.gates → (x : Place → ℕ) (T : Place → List ℕ) (i : Place)
    → Bits (gates_of C) (channelled C x x T i)
unfolding channelled
channelled-bits C on x T i =
    record { long = length-sent C.gates (starts C x x) T i; below = sent_below C.gates on (starts C x x) T i }

-- bits are in the ranges of such gates
pub bits_fit : (n : ℕ) (l : List ℕ) → Bits n l → Fits (replicate n 2) l
bits_fit zero [] b = none
bits_fit zero (x ∷ l) b = absurd (omega (arith, b.long))
bits_fit (suc n) [] b = absurd (omega (arith, b.long))
bits_fit (suc n) (x ∷ l) b =
    more (b.below 0) (bits_fit n l (record { long = omega (arith, b.long); below = λ g. b.below (suc g) }))

pub fit_bits : (n : ℕ) (l : List ℕ) → Fits (replicate n 2) l → Bits n l
fit_bits zero l none = record { long = refl; below = λ g. lit< tt }
fit_bits (suc n) l (more {x = x} {xs = xs} h fs) =
    let rest = fit_bits n xs fs in
    record { long = ap suc rest.long; below = elim [ zero ↦ h | suc g ↦ rest.below g ] }
