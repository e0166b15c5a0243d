-- What two runs open, act by act.
use Prim.Native.Nat.{ℕ}
use mathlib.Core.Bool.{Bool, cond, false, false≢true, true, ◌&&◌}
use mathlib.Core.List.{List, ◌∷◌}
use mathlib.Core.Path.{◌≡◌, ap, refl, sym, ◌∙◌}
use lib.Dec.{eqb}
use lib.ListN.{drop, get_or}
use borrow.Author.Tests.{eq-eqb, ne_eqb}

-- what two accepted acts open, with the rest
abbrev pub opens_with : Bool → ℕ → ℕ → List ℕ → List ℕ
opens_with b refusal value rest = cond (b && eqb refusal 0) (value ∷ rest) rest

split_opened : (b : Bool) (v v' : ℕ) (rest rest' : List ℕ) → cond (b && true) (v ∷ rest) rest ≡ cond (b && true) (v' ∷ rest') rest'
    → (rest ≡ rest') × (b ≡ true → v ≡ v')
split_opened true v v' rest rest' e = (ap (λ (l : List ℕ). drop 1 l) e, λ q. ap (λ (l : List ℕ). get_or l 0 0) e)
split_opened false v v' rest rest' e = (e, λ q. absurd (false≢true q))

pub opened_accepted : (b : Bool) (r r' v v' : ℕ) (rest rest' : List ℕ) → r ≡ 0 → r' ≡ 0
    → opens_with b r v rest ≡ opens_with b r' v' rest' → (rest ≡ rest') × (b ≡ true → v ≡ v')
opened_accepted b r r' v v' rest rest' z z' e =
    split_opened b v v' rest rest'
    (ap (λ (t : Bool). cond (b && t) (v ∷ rest) rest) (sym (eq-eqb r 0 z)) ∙ e ∙ ap (λ (t : Bool). cond (b && t) (v' ∷ rest') rest') (eq-eqb r' 0 z'))

none_opened : (b : Bool) (l rest : List ℕ) → cond (b && false) l rest ≡ rest
none_opened true l rest = refl
none_opened false l rest = refl

pub opened-refused : (b : Bool) (r r' v v' : ℕ) (rest rest' : List ℕ) → (r ≡ 0 → ⊥) → (r' ≡ 0 → ⊥)
    → opens_with b r v rest ≡ opens_with b r' v' rest' → rest ≡ rest'
opened-refused b r r' v v' rest rest' z z' e =
    sym (ap (λ (t : Bool). cond (b && t) (v ∷ rest) rest) (ne_eqb r 0 z) ∙ none_opened b (v ∷ rest) rest)
    ∙ e
    ∙ ap (λ (t : Bool). cond (b && t) (v' ∷ rest') rest') (ne_eqb r' 0 z')
    ∙ none_opened b (v' ∷ rest') rest'
