-- Acts on a part, and acts that rewrite: what they do and what they owe (specs/Lifting.antt).
use Prim.Native.Nat.{ℕ, zero, suc}
use mathlib.Core.Bool.{Bool, cond, false}
use mathlib.Core.List.{List, []}
use mathlib.Core.Logic.{inl}
use mathlib.Core.Path.{◌≡◌, ap, ap₂, fun_ext, refl, subst, subst₂, sym, ◌∙◌}
use native.Mathlib.Nat.{add-zero}
use native.Mathlib.Omega.{arith}
use borrow.Author.Tests.{ne_eqb}
use lib.Dec.{eqb}
use Rattle.gate.specs.Places.{Place, p0, p1, p2}
use Rattle.gate.proofs.PlaceLaw.{tabled_is}
use Rattle.circuit.specs.Circuits.{sent}
use Rattle.view.specs.Views.{lacked_by}
use Rattle.machine.specs.Checks.{Lengths, Tapes, any_bad, any_outside}
use Rattle.machine.specs.Step.{lengths_of, written}
use Rattle.machine.proofs.WrittenLaw.{nothing_written}
use Rattle.act.specs.Acts.{Act, first_nonzero, performed, refusal_by, step}
use Rattle.act.specs.Jobs.{Outcome, refused}
use Rattle.act.specs.Lawful.{AlikeWork, Lends, NarrowWork, told_at}
use Rattle.act.specs.Lawful as lawful
use Rattle.act.specs.Lifting.{
  BothPublic,
  InBoth,
  KeepsSecond,
  LiftAlike,
  LiftLawful,
  LiftOpening,
  LiftStep,
  RewriteLawful,
  RewriteStep,
  first_part,
  first_public,
  joined,
  lift_act,
  lift_work,
  rewrite_act,
  rewriting,
  rewritten,
  rewrote,
  second_after,
  second_part,
  with_second,
}
use Rattle.act.specs.Works.{Public, Shared, Work, bad_item, deals, evaluates, gates_in, left_of, opens, shares_after, value_from, words_from}
use Rattle.act.proofs.ActLaw.{done_is, passed, refusal_is}
use Rattle.act.proofs.WorkLaw.{gates-alike}

rewriting_does : {E D : Type 0} (rest : Public E → E) (f : Public E → D → D) (m : Shared E D) (left : Tapes) (c : Place → List ℕ)
    → performed (rewriting (rest m.public) (f m.public)) m left c ≡ rewrote 0 (rewritten rest f m) m c
unfolding shares_after words_from sent
rewriting_does rest f m left c =
    let q = m.public in
    let ws : Place → List ℕ = λ i. written q.channels_at [] (c i) in
    let channels : ws ≡ c = fun_ext (λ i. nothing_written q.channels_at (c i)) in
    rw (tabled_is (λ i. f q (m.share i)), tabled_is ws, channels, add-zero q.masks_at, add-zero q.channels_at, add-zero q.dealer_at)

pub rewrite_step : RewriteStep
unfolding step any_bad any_outside
rewrite_step E D refusal rest f m T c = go (refusal m.public (lengths_of T c))
  where
    go : (r : ℕ)
        → cond (eqb (refusal_by r false) 0)
        (performed (rewriting (rest m.public) (f m.public)) m (left_of m.public T) c)
        (refused (refusal_by r false) m c)
        ≡ rewrote r (rewritten rest f m) m c
    go zero = rewriting_does rest f m (left_of m.public T) c
    go (suc n) = rw (ne_eqb (suc n) 0 (λ z. omega arith))

pub rewrite_lawful : RewriteLawful
rewrite_lawful E D refusal rest f Same keeps =
    record {
      lends = λ q len z. inl refl;
      narrow = λ q len z. lawful.Narrow.none;
      small = λ m n same h. tt;
      keeps = λ m n T T' c c' same z z' h.
          subst₂ Same (sym (is m T c z)) (sym (is n T' c' z'))
          (keeps m n (lengths_of T c) (lengths_of T' c') same (accepted m T c z) (accepted n T' c' z'));
      value = λ m n same. refl;
      third = λ U m₀ m n₀ n len i j public z own far value. refl;
    }
  where
    accepted : (m : Shared E D) (T : Tapes) (c : Place → List ℕ) → (step (rewrite_act refusal rest f) m T c).refusal ≡ 0
        → refusal m.public (lengths_of T c) ≡ 0
    accepted m T c z = sym (ap (λ (o : Outcome (Shared E D)). o.refusal) (rewrite_step E D refusal rest f m T c)) ∙ z

    is : (m : Shared E D) (T : Tapes) (c : Place → List ℕ) → (step (rewrite_act refusal rest f) m T c).refusal ≡ 0
        → (step (rewrite_act refusal rest f) m T c).state ≡ rewritten rest f m
    is m T c z =
        ap (λ (o : Outcome (Shared E D)). o.state) (rewrite_step E D refusal rest f m T c)
        ∙ ap (λ (r : ℕ). cond (eqb r 0) (rewritten rest f m) m) (accepted m T c z)

-- a lifted work is the work, in all but where it stands
module _ {E E' D : Type 0} (D' : Type 0) (e : E') where
  lift_lends : (w : Work E D) (q : Public (E × E')) (len : Lengths) → Lends w (first_public q) len → Lends (lift_work {D' = D'} e w) q len
  lift_lends (deals rest p v put) q len h = h
  lift_lends (evaluates rest R) q len h = h
  lift_lends (opens rest read value) q len h = h

  lift_narrow : (w : Work E D) → NarrowWork w → NarrowWork (lift_work {D' = D'} e w)
  lift_narrow (deals rest p v put) h = h
  lift_narrow (evaluates rest R) h = h
  lift_narrow (opens rest read value) h = h

  lift_items : (w : Work E D) (left : Tapes) → bad_item (lift_work {D' = D'} e w) left ≡ bad_item w left
  lift_items (deals rest p v put) left = refl
  lift_items (evaluates rest R) left = refl
  lift_items (opens rest read value) left = refl

  lift_value : (w : Work E D) (s : Place → D × D') → value_from (lift_work e w) s ≡ value_from w (λ i. (s i).0)
  lift_value (deals rest p v put) s = refl
  lift_value (evaluates rest R) s = refl
  lift_value (opens rest read value) s = refl

  lift_told : (w : Work E D) (s : Place → D × D') (i : Place) → told_at (lift_work e w) s i ≡ told_at w (λ j. (s j).0) i
  lift_told (deals rest p v put) s i = refl
  lift_told (evaluates rest R) s i = refl
  lift_told (opens rest read value) s i = refl

  lift_works : {w w' : Work E D} → AlikeWork w w' → AlikeWork (lift_work {D' = D'} e w) (lift_work e w')
  lift_works lawful.same = lawful.same
  lift_works lawful.number = lawful.number

  lift_shares : (w : Work E D) (s : Place → D × D') (left : Tapes) (i : Place)
      → shares_after (lift_work e w) s left i ≡ (shares_after w (λ j. (s j).0) left i, (s i).1)
  unfolding shares_after
  lift_shares (deals rest p v put) s left p0 = refl
  lift_shares (deals rest p v put) s left p1 = refl
  lift_shares (deals rest p v put) s left p2 = refl
  lift_shares (evaluates rest R) s left p0 = refl
  lift_shares (evaluates rest R) s left p1 = refl
  lift_shares (evaluates rest R) s left p2 = refl
  lift_shares (opens rest read value) s left i = refl

  lift_performed : (w : Work E D) (m : Shared (E × E') (D × D')) (left : Tapes) (c : Place → List ℕ)
      → performed (lift_work e w) m left c ≡ with_second (λ n. e) m (performed w (first_part m) left c)
  unfolding words_from
  lift_performed (deals rest p v put) m left c = rw (fun_ext (lift_shares (deals rest p v put) m.share left))
  lift_performed (evaluates rest R) m left c = rw (fun_ext (lift_shares (evaluates rest R) m.share left))
  lift_performed (opens rest read value) m left c = rw (fun_ext (lift_shares (opens rest read value) m.share left))

-- an act is allowed on the first part where the lifted one is
allowed : {E E' D : Type 0} (earlier : Public (E × E') → Lengths → ℕ) (a : Act E D) (q : Public (E × E')) (len : Lengths)
    → first_nonzero (earlier q len) (a.refusal (first_public q) len) ≡ 0 → a.refusal (first_public q) len ≡ 0
allowed earlier a q len = by (earlier q len)
  where
    by : (n : ℕ) → first_nonzero n (a.refusal (first_public q) len) ≡ 0 → a.refusal (first_public q) len ≡ 0
    by zero z = z
    by (suc n) z = absurd (omega arith)

module _ {E E' D D' : Type 0} (earlier : Public (E × E') → Lengths → ℕ) (after : Public (E × E') → ℕ → E') (a : Act E D)
    (m : Shared (E × E') (D × D')) (T : Tapes) (c : Place → List ℕ) where
  abbrev lifted : Act (E × E') (D × D')
  lifted = lift_act earlier after a

  abbrev work : Work E D
  work = a.work (first_public m.public)

  abbrev rest : E'
  rest = after m.public (gates_in work)

  abbrev left : Tapes
  left = left_of m.public T

  abbrev own : ℕ
  own = a.refusal (first_public m.public) (lengths_of T c)

  -- the two steps by the refusal that they answer
  abbrev whole : ℕ → Outcome (Shared (E × E') (D × D'))
  whole r = cond (eqb r 0) (performed (lift_work rest work) m left c) (refused r m c)

  abbrev part : ℕ → Outcome (Shared E D)
  part r = cond (eqb r 0) (performed work (first_part m) left c) (refused r (first_part m) c)

  whole_by_part : (r : ℕ) → whole r ≡ with_second (after m.public) m (part r)
  whole_by_part zero = lift_performed D' rest work m left c
  whole_by_part (suc n) = let no = ne_eqb (suc n) 0 (λ z. omega arith) in rw (no, no)

  -- n: the earlier refusal
  earlier_first : (n : ℕ)
      → whole (refusal_by (first_nonzero n own) (bad_item work left))
      ≡ cond (eqb n 0) (with_second (after m.public) m (part (refusal_by own (bad_item work left)))) (refused n m c)
  earlier_first zero = whole_by_part (refusal_by own (bad_item work left))
  earlier_first (suc n) = rw (ne_eqb (suc n) 0 (λ z. omega arith))

  -- an accepted lifted act: the act is accepted on the first part, and what it leaves there stands beside the second
  module _ (z : (step lifted m T c).refusal ≡ 0) where
    lift_zero : (step a (first_part m) T c).refusal ≡ 0
    lift_zero =
        let both = passed lifted m T c z in
        refusal_is a (first_part m) T c
        ∙ ap₂ refusal_by {x = own} (allowed earlier a m.public (lengths_of T c) both.0) (sym (lift_items D' rest work left) ∙ both.1)

    lift_state : (step lifted m T c).state ≡ joined (step a (first_part m) T c).state (second_after after a m)
    lift_state =
        ap (λ (o : Outcome (Shared (E × E') (D × D'))). o.state) (done_is lifted m T c z ∙ lift_performed D' rest work m left c)
        ∙ sym (ap (λ (o : Outcome (Shared E D)). joined o.state (second_after after a m)) (done_is a (first_part m) T c lift_zero))

pub lift_step : LiftStep
unfolding step
lift_step E E' D D' earlier after a m T c =
    let q = m.public in
    let w = a.work (first_public q) in
    let n : ℕ = earlier q (lengths_of T c) in
    ap (λ (bad : Bool). whole earlier after a m T c (refusal_by (first_nonzero n (a.refusal (first_public q) (lengths_of T c))) bad))
    (lift_items D' (after q (gates_in w)) w (left_of q T))
    ∙ earlier_first earlier after a m T c n

pub lift_lawful : LiftLawful
lift_lawful E E' D D' Same Same' earlier after a law keeps =
    record {
      lends = λ q len z.
          let w = a.work (first_public q) in
          lift_lends D' (after q (gates_in w)) w q len (law.lends (first_public q) len (allowed earlier a q len z));
      narrow = λ q len z.
          let w = a.work (first_public q) in
          lift_narrow D' (after q (gates_in w)) w (law.narrow (first_public q) len (allowed earlier a q len z));
      small = λ m n same h. law.small (first_part m) (first_part n) same.first h;
      keeps = λ m n T T' c c' same z z' h.
          subst₂ (InBoth Same Same') (sym (lift_state earlier after a m T c z)) (sym (lift_state earlier after a n T' c' z'))
          (record {
            first =
                law.keeps (first_part m) (first_part n) T T' c c' same.first
                (lift_zero earlier after a m T c z) (lift_zero earlier after a n T' c' z') h;
            second = keeps m n same;
          });
      value = λ m n same.
          lift_value D' _ (a.work (first_public m.public)) m.share
          ∙ law.value (first_part m) (first_part n) same.first
          ∙ sym (lift_value D' _ (a.work (first_public n.public)) n.share);
      third = λ U m₀ m n₀ n len i j public z own far value.
          let w = a.work (first_public m.public) in
          lift_told D' _ w m.share (lacked_by U)
          ∙ law.third U (first_part m₀) (first_part m) (first_part n₀) (first_part n) len i.first j.first
          (ap first_public public) (allowed earlier a m.public len z)
          (ap (λ (x : D × D'). x.0) own) (ap (λ (x : D × D'). x.0) far)
          (sym (lift_value D' _ w m.share) ∙ value ∙ lift_value D' _ w n.share)
          ∙ sym (lift_told D' _ w n.share (lacked_by U));
    }

pub lift_alike : LiftAlike
lift_alike E E' D D' Same Same' earlier after a b alike keeps =
    record {
      works = λ q.
          let works = alike.works (first_public q) in
          subst (λ (n : ℕ). AlikeWork ((lift_act {D' = D'} earlier after a).work q) (lift_work (after q n) (b.work (first_public q))))
          (gates-alike works) (lift_works D' _ works);
      refusals = λ q len. by (earlier q len) (alike.refusals (first_public q) len);
      left = lift_lawful E E' D D' Same Same' earlier after a alike.left keeps;
      right = lift_lawful E E' D D' Same Same' earlier after b alike.right keeps_b;
    }
  where
    gates : (m : Shared (E × E') (D × D')) → gates_in (a.work (first_public m.public)) ≡ gates_in (b.work (first_public m.public))
    gates m = gates-alike (alike.works (first_public m.public))

    keeps_b : KeepsSecond Same Same' after b
    keeps_b m n same = rw (← (gates m), ← (gates n)) (keeps m n same)

    by : {r r' : ℕ} (n : ℕ) → ((a.NumberRefused r → ⊥) → (b.NumberRefused r' → ⊥) → r ≡ r')
        → (a.NumberRefused (first_nonzero n r) → ⊥) → (b.NumberRefused (first_nonzero n r') → ⊥) → first_nonzero n r ≡ first_nonzero n r'
    by zero same x y = same x y
    by (suc n) same x y = refl

pub lift_opening : LiftOpening
lift_opening E E' D D' e (deals rest p v put) = refl
lift_opening E E' D D' e (evaluates rest R) = refl
lift_opening E E' D D' e (opens rest read value) = refl

pub both_public : BothPublic
both_public E E' D D' Same Same' first second m n i =
    ap₂ beside (first (first_part m) (first_part n) i.first) (second (second_part m) (second_part n) i.second)
  where
    beside : Public E → E' → Public (E × E')
    beside q e = record { rest = (q.rest, e); masks_at = q.masks_at; channels_at = q.channels_at; dealer_at = q.dealer_at }
