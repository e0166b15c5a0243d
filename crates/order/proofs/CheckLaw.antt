-- Lists of checks: one after another, and what no refusal says.
use Rattle.std.specs.Prelude.{Result}
use Rattle.std.specs.List.{list_any}
use Rattle.std.specs.Result.{IsErrAnd}
use Rattle.std.proofs.lemmas.Result.{err_from_is_err_and}
use Prim.Native.Nat.{ℕ}
use mathlib.Core.Bool.{Bool, cond, false, true, ◌||◌}
use mathlib.Core.List.{List, [], ◌∷◌, ◌++◌}
use mathlib.Core.Path.{◌≡◌, refl, ap, ap₂, sym, ◌∙◌}
use lib.Dec.{T, eqb, ltb}
use Rattle.machine.specs.Checks.{Check, any_above15, check, first_met, kind_checks, named}
use Rattle.machine.specs.Registers.{public_of, sound}
use Rattle.machine.specs.declared.orders.Order.{Order}
use Rattle.machine.specs.declared.orders.Order.TheVariants.{Add, Compose, Convert, Deal, Decompose, Multiply, Open, Scale, Shift}
use Rattle.machine.specs.declared.registers.Machine.{Machine}
use Rattle.machine.specs.declared.answers.Refusal.{Refusal}
use Rattle.machine.specs.Answers.{number_of}
use Rattle.order.specs.Answers.{first_nonzero, verdict_of}
use Rattle.order.specs.Attempts.{begin_checks, record_refusal}
use Rattle.order.proofs.VerdictLaw.{first_refusal}

-- no check of the list refuses with 0
abbrev pub refusing : List Check → Bool
refusing [] = true
refusing (c ∷ cs) = cond (eqb c.refusal 0) false (refusing cs)

pub joined : (ks ls : List Check) → T (refusing ks) → first_met (ks ++ ls) ≡ first_nonzero (first_met ks) (first_met ls)
unfolding first_met
joined [] ls h = refl
joined (k ∷ ks) ls h = go k.met (eqb k.refusal 0) refl h (joined ks ls)
  where
    go : (b z : Bool) → eqb k.refusal 0 ≡ z → T (cond z false (refusing ks))
        → (T (refusing ks) → first_met (ks ++ ls) ≡ first_nonzero (first_met ks) (first_met ls))
        → cond b k.refusal (first_met (ks ++ ls)) ≡ first_nonzero (cond b k.refusal (first_met ks)) (first_met ls)
    go true false e h rest = rw e
    go false false e h rest = rest h
    go true true e h rest = elim h [ ]
    go false true e h rest = elim h [ ]

-- register numbers tested one by one
pub above15_is : (names : List ℕ) → list_any (λ k. ltb 15 k) names ≡ any_above15 names
unfolding any_above15
above15_is [] = refl
above15_is (k ∷ ks) = ap (λ (b : Bool). ltb 15 k || b) (above15_is ks)

-- a check that is met, and one that is not
pub met : {b : Bool} (n : ℕ) (cs : List Check) → b ≡ true → n ≡ first_met (check b n ∷ cs)
unfolding first_met
met n cs e = sym (ap (λ (b : Bool). cond b n (first_met cs)) e)

pub passed : {b : Bool} {v : ℕ} (n : ℕ) (cs : List Check) → b ≡ false → v ≡ first_met cs → v ≡ first_met (check b n ∷ cs)
unfolding first_met
passed n cs e h = h ∙ sym (ap (λ (b : Bool). cond b n (first_met cs)) e)

-- the last
pub all_passed : {b : Bool} (n : ℕ) → b ≡ false → 0 ≡ first_met (check b n ∷ [])
unfolding first_met
all_passed n e = sym (ap (λ (b : Bool). cond b n 0) e)

-- a check that does not refuse is not met
pub unmet : (b : Bool) (n : ℕ) (cs : List Check) → eqb n 0 ≡ false → first_met (check b n ∷ cs) ≡ 0 → b ≡ false
unfolding first_met
unmet true n cs h e = sym (ap (λ (k : ℕ). eqb k 0) e) ∙ h
unmet false n cs h e = refl

pub unmet_rest : (b : Bool) (n : ℕ) (cs : List Check) → eqb n 0 ≡ false → first_met (check b n ∷ cs) ≡ 0 → first_met cs ≡ 0
unfolding first_met
unmet_rest true n cs h e = let z : true ≡ false = sym (ap (λ (k : ℕ). eqb k 0) e) ∙ h in cc
unmet_rest false n cs h e = e

begin_refuses : (m : Machine) (o : Order) → T (refusing (begin_checks (sound m) (named o) ++ kind_checks o (public_of m)))
begin_refuses m (Deal d e v) = tt
begin_refuses m (Add d x y) = tt
begin_refuses m (Scale d x c) = tt
begin_refuses m (Multiply d x y) = tt
begin_refuses m (Decompose d x l) = tt
begin_refuses m (Convert d x f) = tt
begin_refuses m (Shift d x s) = tt
begin_refuses m (Compose d x f) = tt
begin_refuses m (Open x) = tt

module _ (m : Machine) (o : Order) where
  -- then the rest
  pub record_then : (rest : List Check) → first_met ((begin_checks (sound m) (named o) ++ kind_checks o (public_of m)) ++ rest) ≡ first_nonzero (record_refusal o m) (first_met rest)
  unfolding record_refusal
  record_then rest = joined (begin_checks (sound m) (named o) ++ kind_checks o (public_of m)) rest (begin_refuses m o)

-- one list, then another
pub then-joined : (ks ls : List Check) → T (refusing ks) → {u v w : ℕ} → u ≡ first_nonzero v w → v ≡ first_met ks → w ≡ first_met ls → u ≡ first_met (ks ++ ls)
then-joined ks ls h e f g = e ∙ ap₂ first_nonzero f g ∙ sym (joined ks ls h)

-- where the first of them has given a verdict
module _ (ks ls : List Check) (h : T (refusing ks)) where
  pub refused-first : (w : Refusal) → number_of w ≡ first_met ks → number_of w ≡ first_met (ks ++ ls)
  refused-first w e = then-joined ks ls h (first_refusal w _) e refl

  pub fine_first : {n : ℕ} → 0 ≡ first_met ks → n ≡ first_met ls → n ≡ first_met (ks ++ ls)
  fine_first e = then-joined ks ls h refl e

-- a refusal that is passed on
pub passed_on : {A : Type 0} (r : Result A Refusal) (w : Refusal) {n : ℕ} → IsErrAnd r (λ e. e ≡ w) → number_of w ≡ n → verdict_of r ≡ n
passed_on r w told is =
    let p = err_from_is_err_and r told in
    rw (p.1, p.2) is
