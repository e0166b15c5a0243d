-- One gate on lent runs, what a circuit leaves there, and the parts of runs that an order uses.
use Prim.Native.Nat.{ℕ, ◌+◌, ◌-◌, ◌<◌, ◌≤◌}
use mathlib.Core.List.{List, [], ◌∷◌}
use mathlib.Core.Path.{◌≡◌, ap, refl, sym, ◌∙◌}
use native.Mathlib.Nat.{le_refl}
use native.Mathlib.Omega.{arith}
use lib.ListN.{drop, length, length-drop, set}
use lib.Seq.{set_split, take_all}
use borrow.Rule.Slice.PartMut.{mid_of, put_mid}
use Rattle.gate.specs.Places.{Place, parts, tabled, three}
use Rattle.gate.specs.declared.sharing.Sharing.{Sharing}
use Rattle.gate.proofs.PlaceLaw.{each}
use Rattle.circuit.specs.Circuits.{Circuit, Gate, after, channelled, ends, heads, result, sent, starts, words}
use Rattle.circuit.specs.Lent.{Left, Long, Ran}

-- a run's part from k on, and the run with other words there
abbrev pub part_from : ℕ → List ℕ → List ℕ
part_from k t = mid_of k (length t - k) t

abbrev pub put_part : ℕ → (d e : List ℕ) → List ℕ
put_part k d e = put_mid k (length d - k) d e

-- of three runs
abbrev pub parts_from : ℕ → (t₀ t₁ t₂ : List ℕ) → Place → List ℕ
parts_from k t₀ t₁ t₂ = three (part_from k t₀) (part_from k t₁) (part_from k t₂)

abbrev pub put_back : ℕ → (d₀ d₁ d₂ e₀ e₁ e₂ : List ℕ) → Place → List ℕ
put_back k d₀ d₁ d₂ e₀ e₁ e₂ = three (put_part k d₀ e₀) (put_part k d₁ e₁) (put_part k d₂ e₂)

-- the part of a run from k on is what is left of it
pub part_is : (k : ℕ) (l : List ℕ) → part_from k l ≡ drop k l
part_is k l = take_all (length l - k) (drop k l) (rw (length-drop k l) (le_refl (length l - k)))

module _ {S : Type 0} where
  pub ran_none : (s : Place → S) (T c : Place → List ℕ) → Ran [] s T c s c
  unfolding ends sent
  ran_none s T c = record { states = refl; channels = λ i. refl }

  -- one gate that writes its words to the heads of what it is lent
  pub ran-gate : (g : Gate S) (s : Place → S) (T c : Place → List ℕ) (z : Place → ℕ) {d : Place → List ℕ}
      → words g s (heads T) ≡ z
      → ((i : Place) → 0 < length (c i))
      → ((i : Place) → d i ≡ set (c i) 0 (z i))
      → Ran (g ∷ []) s T c (after g s z) d
  unfolding ends sent
  ran-gate g s T c z is room stored =
      record {
        states = ap (after g s) is;
        channels = λ i. stored i ∙ set_split (c i) 0 (z i) (room i) ∙ ap (λ (w : Place → ℕ). w i ∷ drop 1 (c i)) (sym is);
      }

-- a circuit's gates leave the circuit's result
pub left_of : {C : Circuit} {x y : Place → ℕ} {T c : Place → List ℕ} {r : Place → C.State} {z : Sharing} {d : Place → List ℕ}
    → Ran C.gates (starts C x y) T c r d
    → parts z ≡ tabled (λ i. C.finish i (r i))
    → Left C x y T c z d
unfolding result channelled
left_of {C} ran is =
    record {
      is = is ∙ ap (λ r. tabled (λ i. C.finish i (r i))) (sym ran.states);
      channels = ran.channels;
    }

-- what one place's run has, each has
pub rooms : {t₀ t₁ t₂ : List ℕ} → Long 1 t₀ t₁ t₂ → (i : Place) → 0 < length (three t₀ t₁ t₂ i)
rooms {t₀} {t₁} {t₂} h = each (λ i. 0 < length (three t₀ t₁ t₂ i)) (omega arith) (omega arith) (omega arith)

-- what is long enough for k + n words is so from k on for n
part_long : (n k : ℕ) (t : List ℕ) → k + n ≤ length t → n ≤ length (part_from k t)
part_long n k t h = rw (part_is k t, length-drop k t) (omega arith)

pub long_on : (n k : ℕ) {t₀ t₁ t₂ : List ℕ} → Long (k + n) t₀ t₁ t₂ → Long n (part_from k t₀) (part_from k t₁) (part_from k t₂)
long_on n k {t₀} {t₁} {t₂} h =
    record { zero = part_long n k t₀ h.zero; one = part_long n k t₁ h.one; two = part_long n k t₂ h.two }
