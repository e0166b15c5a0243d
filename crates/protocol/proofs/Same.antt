-- What the refusal of an order goes by; two records the same in all that is public and in every value stay so (specs/Same.antt).
use Prim.Native.Nat.{ℕ}
use mathlib.Core.Bool.{Bool, false, true}
use mathlib.Core.Path.{◌≡◌, ap, refl, subst, sym, ◌∙◌}
use lib.Dec.{eqb}
use borrow.Author.Tests.{eqb-false, eqb-true}
use Rattle.machine.specs.Registers.{Public, public_of}
use Rattle.machine.specs.Step.{lengths_of, step, value_of}
use Rattle.machine.specs.Work.{work_of}
use Rattle.outcome.specs.Theorems.{destination, value_at}
use Rattle.outcome.proofs.Theorems.{keeps_sound, others_stand, public_refusal, slots_stand, step_public}
use Rattle.outcome.proofs.WorkLaw.{public_by}
use Rattle.protocol.specs.Orders.{RefusedNumber}
use Rattle.protocol.specs.Same.{KeepsGood, KeepsSame, PublicFields}
use Rattle.protocol.proofs.OrderLaw.{number_aside, same_left}

pub public_fields : PublicFields
public_fields o m T c is-sound not-item not_number =
    let public = public_refusal o m T c is-sound not-item in
    public ∙ number_aside o (public_of m) (lengths_of T c) (λ h. not_number (subst (RefusedNumber o) (sym public) h))

pub keeps_good : KeepsGood
keeps_good o m T c good ok = record { sound = keeps_sound o m T c ok; slots = slots_stand o m T c ∙ good.slots }

pub keeps_same : KeepsSame
keeps_same o m n T T' c c' same ok ok' small =
    record {
      left = keeps_good o m T c same.left ok;
      right = keeps_good o n T' c' same.right ok';
      public = step_public o m T c ok ∙ ap (λ (p : Public). public_by (work_of o p) p) same.public ∙ sym (step_public o n T' c' ok');
      values = λ k. go k (eqb k (destination o)) refl;
    }
  where
    go : (k : ℕ) (b : Bool) → eqb k (destination o) ≡ b → value_at (step o m T c).machine k ≡ value_at (step o n T' c').machine k
    go k true e = rw (eqb-true k (destination o) e) (same_left m n T T' c c' same o ok ok' small)
    go k false e =
        let other = eqb-false k (destination o) e in
        ap value_of (others_stand o m T c k other) ∙ same.values k ∙ sym (ap value_of (others_stand o n T' c' k other))
