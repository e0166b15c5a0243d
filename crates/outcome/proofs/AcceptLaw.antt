-- An order's answer: the first check that is met, or, when none is, its work.
use Prim.Native.Nat.{ℕ, suc, zero}
use mathlib.Core.Bool.{Bool, cond, false, true}
use mathlib.Core.List.{List, [], ◌∷◌}
use mathlib.Core.Path.{◌≡◌, ap, refl, sym, ◌∙◌}
use native.Mathlib.Omega.{arith}
use lib.Dec.{eqb}
use borrow.Author.Tests.{eqb-true, ne_eqb, not-false}
use Rattle.gate.specs.Places.{Place}
use Rattle.machine.specs.Checks.{Tapes, any_above15, bad_item, check, first_met, kind_checks, left_of, length_checks, named, public_checks}
use Rattle.machine.specs.Registers.{public_of, sound}
use Rattle.machine.specs.Step.{Outcome, checks, computed, dealt, lengths_of, opened, performed, refused, step}
use Rattle.machine.specs.Work.{Work, adjusts, computes, deals, opens, work_of}
use Rattle.machine.specs.declared.orders.Order.{Order}
use Rattle.machine.specs.declared.registers.Machine.{Machine}
use Rattle.outcome.proofs.CheckLaw.{Passed, numbered-append, passed, passed_append}
use Rattle.outcome.proofs.OrderLaw.{numbered_public}

pub performed_refusal : (w : Work) (m : Machine) (left : Tapes) (c : Place → List ℕ) → (performed w m left c).refusal ≡ 0
unfolding dealt computed opened
performed_refusal (deals d e v) m left c = refl
performed_refusal (adjusts C d x y kind) m left c = refl
performed_refusal (computes C d x y kind) m left c = refl
performed_refusal (opens x) m left c = refl

-- an accepted order: what the checks say, and what is done
pub record Accepted (o : Order) (m : Machine) (T : Tapes) (c : Place → List ℕ) : Type 0 where
  pub sound : sound m ≡ true
  pub registers : any_above15 (named o) ≡ false
  pub kinds : Passed (kind_checks o (public_of m))
  pub lengths : Passed (length_checks (work_of o (public_of m)) (public_of m) (lengths_of T c))
  pub items : bad_item (work_of o (public_of m)) (left_of (public_of m) T) ≡ false
  pub done : step o m T c ≡ performed (work_of o (public_of m)) m (left_of (public_of m) T) c

module _ (o : Order) (m : Machine) (T : Tapes) (c : Place → List ℕ) where
  abbrev first : ℕ
  first = first_met (checks o m T c)

  -- the refusal answered is that of the first check that is met
  pub refusal_is : (step o m T c).refusal ≡ first
  unfolding step
  refusal_is = go (eqb first 0) refl
    where
      go : (b : Bool) → eqb first 0 ≡ b
          → (cond b (performed (work_of o (public_of m)) m (left_of (public_of m) T) c) (refused first m c)).refusal ≡ first
      go true e = performed_refusal (work_of o (public_of m)) m (left_of (public_of m) T) c ∙ sym (eqb-true first 0 e)
      go false e = refl

  pub accepted : (step o m T c).refusal ≡ 0 → Accepted o m T c
  unfolding step checks public_checks
  accepted h =
      let none : first ≡ 0 = sym refusal_is ∙ h in
      let p = public_of m in
      let len = lengths_of T c in
      let item = check (bad_item (work_of o p) (left_of p T)) 10 ∷ [] in
      let all = passed (checks o m T c) (numbered-append (public_checks o p len) item (numbered_public o p len) refl) none in
      let apart = passed_append (public_checks o p len) item all.1 in
      let public = passed_append (kind_checks o p) (length_checks (work_of o p) p len) apart.0.1 in
      record {
        sound = not-false (sound m) all.0;
        registers = apart.0.0;
        kinds = public.0;
        lengths = public.1;
        items = apart.1.0;
        done = rw none;
      }

  stays : (first ≡ 0 → ⊥) → step o m T c ≡ refused first m c
  unfolding step
  stays h = rw (ne_eqb first 0 h)

  pub refused_is : ((step o m T c).refusal ≡ 0 → ⊥) → step o m T c ≡ refused (step o m T c).refusal m c
  refused_is h = stays (λ e. h (refusal_is ∙ e)) ∙ ap (λ (n : ℕ). refused n m c) (sym refusal_is)

  -- what holds of an outcome, by whether it is accepted
  pub either : (P : Outcome → Type 0)
      → (Accepted o m T c → P (performed (work_of o (public_of m)) m (left_of (public_of m) T) c))
      → P (refused (step o m T c).refusal m c)
      → P (step o m T c)
  either P kept stayed = go (step o m T c).refusal refl
    where
      go : (n : ℕ) → (step o m T c).refusal ≡ n → P (step o m T c)
      go zero e = let a = accepted e in rw a.done (kept a)
      go (suc n) e = rw (refused_is (λ z. omega arith)) stayed
