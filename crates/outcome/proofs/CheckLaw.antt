-- Lists of checks.
use Prim.Native.Nat.{ℕ, ◌<◌}
use mathlib.Core.Bool.{Bool, and-eq-true_iff, cond, false, true, ◌&&◌}
use mathlib.Core.List.{List, [], ◌∷◌, ◌++◌}
use mathlib.Core.Path.{◌≡◌, refl}
use native.Mathlib.Omega.{arith}
use lib.Dec.{ltb}
use borrow.Author.Tests.{ltb-true}
use Rattle.machine.specs.Checks.{Check, check, first_met}

-- none of the checks is met
abbrev pub Passed : List Check → Type 0
Passed [] = Unit {0}
Passed (c ∷ cs) = (c.met ≡ false) × Passed cs

pub passed_append : (a b : List Check) → Passed (a ++ b) → Passed a × Passed b
passed_append [] b h = (tt, h)
passed_append (c ∷ cs) b h = let rest = passed_append cs b h.1 in ((h.0, rest.0), rest.1)

-- every refusal has a number, and it is not 0
abbrev pub numbered : List Check → Bool
numbered [] = true
numbered (c ∷ cs) = ltb 0 c.refusal && numbered cs

pub numbered-append : (a b : List Check) → numbered a ≡ true → numbered b ≡ true → numbered (a ++ b) ≡ true
numbered-append [] b h k = k
numbered-append (c ∷ a) b h k =
    let both = (and-eq-true_iff (ltb 0 c.refusal) (numbered a)).0 h in
    (and-eq-true_iff (ltb 0 c.refusal) (numbered (a ++ b))).1 (both.0, numbered-append a b both.1 k)

unmet : (b : Bool) (n k : ℕ) → 0 < n → cond b n k ≡ 0 → (b ≡ false) × (k ≡ 0)
unmet true n k p h = absurd (omega arith)
unmet false n k p h = (refl, h)

pub passed : (cs : List Check) → numbered cs ≡ true → first_met cs ≡ 0 → Passed cs
unfolding first_met
passed [] n h = tt
passed (c ∷ cs) n h =
    let both = (and-eq-true_iff (ltb 0 c.refusal) (numbered cs)).0 n in
    let first = unmet c.met c.refusal (first_met cs) (ltb-true 0 c.refusal both.0) h in
    (first.0, passed cs both.1 first.1)

-- a last check aside, which does not refuse, the answer is that of the others
pub last_aside : (cs : List Check) (b : Bool) (n : ℕ)
    → (first_met (cs ++ (check b n ∷ [])) ≡ n → ⊥) → first_met (cs ++ (check b n ∷ [])) ≡ first_met cs
unfolding first_met
last_aside [] true n h = absurd (h refl)
last_aside [] false n h = refl
last_aside (c ∷ cs) b n h = go c.met h (last_aside cs b n)
  where
    rest : ℕ
    rest = first_met (cs ++ (check b n ∷ []))

    go : (met : Bool) → (cond met c.refusal rest ≡ n → ⊥) → ((rest ≡ n → ⊥) → rest ≡ first_met cs)
        → cond met c.refusal rest ≡ cond met c.refusal (first_met cs)
    go true h' ih = refl
    go false h' ih = ih h'
