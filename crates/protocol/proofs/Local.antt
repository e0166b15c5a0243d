-- What each party has, what is answered and what it sends after an order, from its own data alone (specs/Local.antt).
use Prim.Native.Nat.{ℕ, zero, suc}
use mathlib.Core.List.{List}
use mathlib.Core.Path.{◌≡◌, ap, ap₂, refl, subst, sym, ◌∙◌}
use native.Mathlib.Omega.{arith}
use borrow.Author.Tests.{ne_eqb}
use Rattle.gate.specs.Places.{Place}
use Rattle.gate.proofs.PlaceLaw.{tabled-at}
use Rattle.machine.specs.Checks.{Tapes}
use Rattle.machine.specs.Registers.{public_of}
use Rattle.machine.specs.Step.{step, written}
use Rattle.machine.specs.declared.orders.Order.{Order}
use Rattle.machine.specs.declared.registers.Machine.{Machine}
use Rattle.act.specs.Jobs.{Outcome}
use Rattle.act.specs.Lawful.{AlikeWork}
use Rattle.act.specs.Local.{sent_by}
use Rattle.act.specs.Own.{Brought, Own, answer, brought_by, own_answer, own_of, own_step}
use Rattle.act.specs.Works.{Shared}
use Rattle.act.proofs.ActLaw.{done_is}
use Rattle.act.proofs.LocalLaw.{act_answer, act_causal, act_own}
use Rattle.act.proofs.OwnLaw.{own-alike, own-value-alike, work-local}
use Rattle.act.proofs.WorkLaw.{gates-alike}
use Rattle.outcome.proofs.AcceptLaw.{accepted, refused_is}
use Rattle.protocol.specs.Acts.{Column, Kinds, act_of, shared_of, work_for}
use Rattle.protocol.specs.Local.{AnswerOwn, StepCausal, StepLocal, StepOwn, StepSends}
use Rattle.protocol.specs.Orders.{without_number}
use Rattle.protocol.proofs.Lawful.{alike_acts}
use Rattle.protocol.proofs.OrderLaw.{number_apart_works}
use Rattle.protocol.proofs.StepLaw.{performed_is, refusal_same, step_is}

pub step_local : StepLocal
step_local U w m left c =
    ap (λ (x : Outcome (Shared Kinds Column)). own_of U x.state x.channels) (sym (performed_is w m left c))
    ∙ work-local Kinds Column U (work_for (public_of m) w) (shared_of m) left c

module _ (U : Place) (o : Order) (m : Machine) (T : Tapes) (c : Place → List ℕ) where
  abbrev has : Own Kinds Column
  has = own_of U (shared_of m) c

  abbrev brings : Brought
  brings = brought_by U (act_of o) (shared_of m) T

  abbrev alike : AlikeWork ((act_of o).work has.public) ((act_of (without_number o)).work has.public)
  alike = number_apart_works o (public_of m)

  own_at : (n : ℕ) → (step o m T c).refusal ≡ n
      → own_of U (shared_of (step o m T c).machine) (step o m T c).channels ≡ own_step U (act_of (without_number o)) n has brings
  own_at zero e =
      let s = (accepted o m T c e).sound in
      ap (λ (x : Outcome (Shared Kinds Column)). own_of U x.state x.channels) (sym (step_is o m T c s))
      ∙ act_own Kinds Column U (act_of o) (shared_of m) T c
      ∙ ap (λ (n : ℕ). own_step U (act_of o) n has brings) (refusal_same o m T c s ∙ e)
      ∙ own-alike U alike has brings
  own_at (suc n) e = rw (refused_is o m T c (λ z. omega arith), ne_eqb (suc n) 0 (λ z. omega arith))

  answer_at : (n : ℕ) → (step o m T c).refusal ≡ n
      → answer (step o m T c).value (step o m T c).gates ≡ own_answer U (act_of (without_number o)) n has brings
  answer_at zero e =
      let s = (accepted o m T c e).sound in
      ap (λ (x : Outcome (Shared Kinds Column)). answer x.value x.gates) (sym (step_is o m T c s))
      ∙ act_answer Kinds Column U (act_of o) (shared_of m) T c
      ∙ ap (λ (n : ℕ). own_answer U (act_of o) n has brings) (refusal_same o m T c s ∙ e)
      ∙ ap₂ answer (own-value-alike U alike has brings) (gates-alike alike)
  answer_at (suc n) e = rw (refused_is o m T c (λ z. omega arith), ne_eqb (suc n) 0 (λ z. omega arith))

pub step-own : StepOwn
step-own U o m T c = own_at U o m T c (step o m T c).refusal refl

pub answer-own : AnswerOwn
answer-own U o m T c = answer_at U o m T c (step o m T c).refusal refl

pub step_sends : StepSends
step_sends U o m T c ok =
    let s = (accepted o m T c ok).sound in
    ap (λ (x : Outcome (Shared Kinds Column)). x.channels U)
    (sym (step_is o m T c s) ∙ done_is (act_of o) (shared_of m) T c (refusal_same o m T c s ∙ ok))
    ∙ tabled-at (λ i. written m.channels_at (sent_by i (act_of o) (shared_of m) T) (c i)) U

pub step_causal : StepCausal
step_causal U o o' m n T T' c d k alike own same =
    act_causal Kinds Column U (act_of o) (act_of o') (shared_of m) (shared_of n) T T' c d k
    (subst (λ q. AlikeWork ((act_of o).work (shared_of m).public) ((act_of o').work q)) (ap (λ (P : Own Kinds Column). P.public) own)
    ((alike_acts o o' alike).works (shared_of m).public))
    own same
