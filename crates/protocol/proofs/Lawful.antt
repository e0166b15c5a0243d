-- Each order is a lawful act, and orders alike in all but the numbers dealt are alike acts.
use Prim.Native.Nat.{ℕ, ◌+◌}
use mathlib.Core.Bool.{false, false≢true, true}
use mathlib.Core.List.{List}
use mathlib.Core.Logic.{inl, inr}
use mathlib.Core.Path.{◌≡◌, ap, fun_ext, refl, subst, subst₂, sym, transport, ◌∙◌}
use native.Mathlib.Omega.{arith}
use lib.ListN.{get_or}
use borrow.Author.Tests.{ltb-false}
use Rattle.ring.specs.Rings.{modulus}
use Rattle.gate.specs.Places.{Place, next, p0}
use Rattle.circuit.specs.Circuits.{gates_of}
use Rattle.view.specs.Views.{lacked_by}
use Rattle.machine.specs.Checks.{Lengths, Tapes, first_met, is_empty, kind_checks, length_checks, public_checks, uneven}
use Rattle.machine.specs.Registers.{Kind, empty, kind_at, public_of, sound, width_at}
use Rattle.machine.specs.Registers as registers
use Rattle.machine.specs.Step.{step}
use Rattle.machine.specs.Work.{work_of}
use Rattle.machine.specs.Work as works
use Rattle.machine.specs.declared.orders.Order.{Order}
use Rattle.machine.specs.declared.registers.Machine.{Machine}
use Rattle.machine.proofs.KindLaw.{neither}
use Rattle.machine.proofs.WrittenLaw.{empty_of}
use Rattle.act.specs.Acts as acts
use Rattle.act.specs.Jobs.{Outcome}
use Rattle.act.specs.Lawful.{AlikeActs, AlikeWork, Lawful, Lends, told_at}
use Rattle.act.specs.Lawful as lawful
use Rattle.act.specs.Works.{Shared, Work, value_from}
use Rattle.act.proofs.WorkLaw.{alike-back}
use Rattle.outcome.specs.Theorems.{value_at}
use Rattle.outcome.proofs.CheckLaw.{Passed, passed, passed_append}
use Rattle.outcome.proofs.OrderLaw.{light, numbered_public}
use Rattle.outcome.proofs.RegisterLaw.{Fits, register_fits, shares_at, value_as_lem, value_as}
use Rattle.outcome.proofs.WorkLaw.{Light, even}
use Rattle.protocol.specs.Acts.{Column, Kinds, SmallIn, act_of, public_for, public_from, shared_of, value_in, work_for}
use Rattle.protocol.specs.Orders.{Lifts, Small, TakesSmall, column, without_number}
use Rattle.protocol.specs.Same.{Same}
use Rattle.protocol.proofs.OpenLaw.{third_same}
use Rattle.protocol.proofs.OrderLaw.{Full, full, moduli_narrow, number_apart_works, number_aside, same_small}
use Rattle.protocol.proofs.Same.{keeps_same}
use Rattle.protocol.proofs.SharedLaw.{column-at, read_at, value_is}
use Rattle.protocol.proofs.StepLaw.{refusal_same, step_is}

-- no public check is met
public_passed : (o : Order) (p : registers.Public) (len : Lengths) → first_met (public_checks o p len) ≡ 0
    → Passed (kind_checks o p) × Passed (length_checks (work_of o p) p len)
unfolding public_checks
public_passed o p len h =
    let all = passed (public_checks o p len) (numbered_public o p len) h in
    passed_append (kind_checks o p) (length_checks (work_of o p) p len) all.1

lends_by : (w : works.Work) (p : registers.Public) (len : Lengths) → Light w → Passed (length_checks w p len)
    → Lends (work_for p w) (public_for p) len
lends_by (works.deals d e v) p len l h = ltb-false len.dealer (p.dealer_at + 2) h.1.0
lends_by (works.adjusts C d x y kind) p len l h = inl (empty_of C.gates l)
lends_by (works.computes C d x y kind) p len l h =
    let tests = neither (uneven len.masks) (uneven len.channels) h.0 in
    let masks = (even len.masks tests.0).same in
    let channels = (even len.channels tests.1).same in
    let first = ltb-false (len.masks p0) (p.masks_at + gates_of C) h.1.0 in
    let second = ltb-false (len.channels p0) (p.channels_at + gates_of C) h.1.1.0 in
    inr (λ i. (omega (arith, masks i), omega (arith, channels i)))
lends_by (works.opens x) p len l h =
    let channels = (even len.channels h.0).same in
    let first = ltb-false (len.channels p0) (p.channels_at + 1) h.1.0 in
    λ i. omega (arith, channels i)

-- data of two records that are the same in all that is public and in every value
pub record SameData (s t : Shared Kinds Column) : Type 0 where
  pub left : Machine
  pub right : Machine
  pub is_left : shared_of left ≡ s
  pub is_right : shared_of right ≡ t
  pub same : Same left right

pub same_public : (s t : Shared Kinds Column) → SameData s t → s.public ≡ t.public
same_public s t i =
    sym (ap (λ (x : Shared Kinds Column). x.public) i.is_left)
    ∙ ap public_for i.same.public
    ∙ ap (λ (x : Shared Kinds Column). x.public) i.is_right

-- 4a is below p, of a record and of its data
pub small_is : (o : Order) (m : Machine) → TakesSmall o m ≡ SmallIn o (shared_of m)
small_is o m =
    ap (λ (v : ℕ → ℕ). (x : ℕ) → Lifts o x → Small (v x) (modulus (width_at (kind_at (public_of m) x)))) (fun_ext (λ x. value_is m x))

-- the value that a work opens
abbrev opens_of : works.Work → Machine → ℕ
opens_of (works.deals d e v) m = 0
opens_of (works.adjusts C d x y kind) m = 0
opens_of (works.computes C d x y kind) m = 0
opens_of (works.opens x) m = value_at m x

value_of_lem : (m : Machine) (w : works.Work) → value_from (work_for (public_of m) w) (column m) ≡ opens_of w m
value_of_lem m (works.deals d e v) = refl
value_of_lem m (works.adjusts C d x y kind) = refl
value_of_lem m (works.computes C d x y kind) = refl
value_of_lem m (works.opens x) = sym (value_is m x)

opens-alike : (w : works.Work) (m n : Machine) → Same m n → opens_of w m ≡ opens_of w n
opens-alike (works.deals d e v) m n same = refl
opens-alike (works.adjusts C d x y kind) m n same = refl
opens-alike (works.computes C d x y kind) m n same = refl
opens-alike (works.opens x) m n same = same.values x

not_empty : (kind : Kind) → is_empty kind ≡ false → kind ≡ empty → ⊥
not_empty kind h e = false≢true (sym h ∙ ap is_empty e)

-- two records on which U agrees, and whose opening gives one value, agree in what it reads of the third place
third_by : (U : Place) (w : works.Work) (m n : Machine) → sound m ≡ true → sound n ≡ true → public_of m ≡ public_of n → Full w (public_of m)
    → column m U ≡ column n U → column m (next U) ≡ column n (next U)
    → value_from (work_for (public_of m) w) (column m) ≡ value_from (work_for (public_of m) w) (column n)
    → told_at (work_for (public_of m) w) (column m) (lacked_by U) ≡ told_at (work_for (public_of m) w) (column n) (lacked_by U)
third_by U (works.deals d e v) m n s t public some own far value = refl
third_by U (works.adjusts C d x y kind) m n s t public some own far value = refl
third_by U (works.computes C d x y kind) m n s t public some own far value = refl
third_by U (works.opens x) m n s t public some own far value =
    let kind : Kind = kind_at (public_of m) x in
    let fits' : Fits kind (shares_at n x)
    = subst (λ (p : registers.Public). Fits (kind_at p x) (shares_at n x)) (sym public) (register_fits n x t) in
    let at_own : shares_at m x U ≡ shares_at n x U
    = sym (column-at m x U) ∙ ap (λ (l : List ℕ). get_or l x 0) own ∙ column-at n x U in
    let at-far : shares_at m x (next U) ≡ shares_at n x (next U)
    = sym (column-at m x (next U)) ∙ ap (λ (l : List ℕ). get_or l x 0) far ∙ column-at n x (next U) in
    let values : value_as kind (shares_at m x) ≡ value_as kind (shares_at n x)
    = sym (value_as_lem kind (shares_at m x))
    ∙ sym (ap (value_in kind) (read_at m x)) ∙ value ∙ ap (value_in kind) (read_at n x)
    ∙ value_as_lem kind (shares_at n x) in
    column-at m x (lacked_by U)
    ∙ third_same U kind (shares_at m x) (shares_at n x) (not_empty kind some) (register_fits m x s) fits' at_own at-far values
    ∙ sym (column-at n x (lacked_by U))

module _ (o : Order) where
  keeps_at : (m n : Machine) → Same m n → (T T' : Tapes) (c c' : Place → List ℕ)
      → (acts.step (act_of o) (shared_of m) T c).refusal ≡ 0 → (acts.step (act_of o) (shared_of n) T' c').refusal ≡ 0 → SmallIn o (shared_of m)
      → SameData (acts.step (act_of o) (shared_of m) T c).state (acts.step (act_of o) (shared_of n) T' c').state
  keeps_at m n same T T' c c' z z' small =
      let s = same.left.sound in
      let t = same.right.sound in
      record {
        left = (step o m T c).machine;
        right = (step o n T' c').machine;
        is_left = ap (λ (x : Outcome (Shared Kinds Column)). x.state) (sym (step_is o m T c s));
        is_right = ap (λ (x : Outcome (Shared Kinds Column)). x.state) (sym (step_is o n T' c' t));
        same = keeps_same o m n T T' c c' same
            (sym (refusal_same o m T c s) ∙ z) (sym (refusal_same o n T' c' t) ∙ z') (transport (sym (small_is o m)) small);
      }

  pub lawful_order : Lawful SameData (act_of o)
  lawful_order =
      record {
        lends = λ q len h.
            let p = public_from q in
            lends_by (work_of o p) p len (light o p) (public_passed o p len h).1;
        narrow = λ q len h. moduli_narrow o (public_from q) (public_passed o (public_from q) len h).0;
        small = λ s t i h.
            subst (SmallIn o) i.is_right
            (transport (small_is o i.right)
            (same_small o i.left i.right i.same
            (transport (sym (small_is o i.left)) (subst (SmallIn o) (sym i.is_left) h))));
        keeps = λ s t T T' c c' i.
            subst₂ (λ (x y : Shared Kinds Column).
            (acts.step (act_of o) x T c).refusal ≡ 0 → (acts.step (act_of o) y T' c').refusal ≡ 0 → SmallIn o x
            → SameData (acts.step (act_of o) x T c).state (acts.step (act_of o) y T' c').state)
            i.is_left i.is_right (keeps_at i.left i.right i.same T T' c c');
        value = λ s t i.
            let m = i.left in
            let n = i.right in
            let w = work_of o (public_of m) in
            subst₂ (λ (x y : Shared Kinds Column).
            value_from ((act_of o).work x.public) x.share ≡ value_from ((act_of o).work y.public) y.share)
            i.is_left i.is_right
            (value_of_lem m w
            ∙ opens-alike w m n i.same
            ∙ ap (λ (p : registers.Public). opens_of (work_of o p) n) i.same.public
            ∙ sym (value_of_lem n (work_of o (public_of n))));
        third = λ U s₀ s t₀ t len i j.
            let m = i.right in
            let n = j.right in
            subst₂ (λ (x y : Shared Kinds Column). x.public ≡ y.public
            → (act_of o).refusal x.public len ≡ 0
            → x.share U ≡ y.share U → x.share (next U) ≡ y.share (next U)
            → value_from ((act_of o).work x.public) x.share ≡ value_from ((act_of o).work x.public) y.share
            → told_at ((act_of o).work x.public) x.share (lacked_by U) ≡ told_at ((act_of o).work x.public) y.share (lacked_by U))
            i.is_right j.is_right
            (λ public z own far value.
            third_by U (work_of o (public_of m)) m n i.same.right.sound j.same.right.sound
            (ap public_from public)
            (full o (public_of m) (public_passed o (public_of m) len z).0) own far value);
      }

alike_trans : {E D : Type 0} {u v w : Work E D} → AlikeWork u v → AlikeWork v w → AlikeWork u w
alike_trans lawful.same b = b
alike_trans lawful.number lawful.same = lawful.number
alike_trans lawful.number lawful.number = lawful.number

pub alike_acts : (o o' : Order) → without_number o ≡ without_number o' → AlikeActs SameData (act_of o) (act_of o')
alike_acts o o' alike =
    record {
      works = λ q.
          let p = public_from q in
          alike_trans
          (subst (λ (x : Order). AlikeWork (work_for p (work_of o p)) (work_for p (work_of x p))) alike (number_apart_works o p))
          (alike-back (number_apart_works o' p));
      refusals = λ q len u v.
          let p = public_from q in
          number_aside o p len u
          ∙ ap (λ (x : Order). first_met (public_checks x p len)) alike
          ∙ sym (number_aside o' p len v);
      left = lawful_order o;
      right = lawful_order o';
    }
