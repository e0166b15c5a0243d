-- Locality and causality of every act (specs/Local.antt).
use Prim.Native.Nat.{ℕ, suc}
use mathlib.Core.List.{List}
use mathlib.Core.Path.{◌≡◌, ap, ap₂, refl, sym, ◌∙◌}
use native.Mathlib.Omega.{arith}
use lib.ListN.{take}
use borrow.Author.Tests.{ne_eqb}
use Rattle.gate.specs.Places.{Place, next, p0, p1, p2}
use Rattle.view.specs.Views.{around, lacked_by, own_sent}
use Rattle.view.proofs.Theorems.{sent_causal}
use Rattle.machine.specs.Checks.{Tapes}
use Rattle.act.specs.Jobs.{Outcome}
use Rattle.act.specs.Lawful.{AlikeWork}
use Rattle.act.specs.Lawful as lawful
use Rattle.act.specs.Local.{ActAnswer, ActCausal, ActOwn, WorkCausal}
use Rattle.act.specs.Own.{Brought, Own, answer, brought, brought_by, own_answer, own_of, own_starts, own_step, own_value, own_words}
use Rattle.act.specs.Works.{Shared, Work, deals, evaluates, gates_in, left_of, opens, shares_read, value_from, words_from}
use Rattle.act.proofs.ActLaw.{step_by}
use Rattle.act.proofs.OwnLaw.{words-local, work-local}

pub act_own : ActOwn
act_own E D U a m T c =
    step_by a m T c
    (λ (o : Outcome (Shared E D)). own_of U o.state o.channels ≡ own_step U a o.refusal (own_of U m c) (brought_by U a m T))
    (work-local E D U (a.work m.public) m (left_of m.public T) c)
    (λ n. rw (ne_eqb (suc n) 0 (λ z. omega arith)))

-- an opening's three: U's own two, and the word received for the third
all_three : {D : Type 0} (U : Place) (read : D → ℕ) (s : Place → D)
    → shares_read s read ≡ around U (read (s U)) (read (s (next U))) (read (s (lacked_by U)))
all_three p0 read s = refl
all_three p1 read s = refl
all_three p2 read s = refl

value-own : {E D : Type 0} (U : Place) (w : Work E D) (m : Shared E D) (left : Tapes) (c : Place → List ℕ)
    → value_from w m.share ≡ own_value U w (own_of U m c) (brought U w m.share left)
unfolding words_from
value-own U (deals rest p v put) m left c = refl
value-own U (evaluates rest R) m left c = refl
value-own U (opens rest read value) m left c = ap value (all_three U read m.share)

pub act_answer : ActAnswer
act_answer E D U a m T c =
    let w = a.work m.public in
    step_by a m T c
    (λ (o : Outcome (Shared E D)). answer o.value o.gates ≡ own_answer U a o.refusal (own_of U m c) (brought_by U a m T))
    (ap (λ (v : ℕ). answer v (gates_in w)) (value-own U w m (left_of m.public T) c))
    (λ n. rw (ne_eqb (suc n) 0 (λ z. omega arith)))

pub work_causal : WorkCausal
unfolding own_words
work_causal E D U (deals rest p v put) own far B B' k same = refl
work_causal E D U (evaluates rest R) own far B B' k same =
    let h = own_starts R own far in
    sent_causal R.State U R.gates h B.own B.far B.received B'.received k same.received
    ∙ ap₂ (λ (t t' : List ℕ). take (suc k) (own_sent U R.gates h t t' B'.received)) same.own same.far
work_causal E D U (opens rest read value) own far B B' k same = refl

words-alike : {E D : Type 0} (U : Place) {w w' : Work E D} → AlikeWork w w' → (a b : D) (B : Brought) → own_words U w a b B ≡ own_words U w' a b B
unfolding own_words
words-alike U lawful.same a b B = refl
words-alike U lawful.number a b B = refl

pub act_causal : ActCausal
act_causal E D U a b m n T T' c d k alike own same =
    let w = a.work m.public in
    let w' = b.work n.public in
    let B = brought_by U a m T in
    let B' = brought_by U b n T' in
    ap (take (suc k)) (words-local U m.share (left_of m.public T) w ∙ words-alike U alike (m.share U) (m.share (next U)) B)
    ∙ ap (λ (P : Own E D). take (suc k) (own_words U w' P.own P.far B)) own
    ∙ work_causal E D U w' (n.share U) (n.share (next U)) B B' k same
    ∙ sym (ap (take (suc k)) (words-local U n.share (left_of n.public T') w'))
