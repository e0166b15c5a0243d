-- An order on a sound record is its act on the record's data.
use Prim.Native.Nat.{ℕ, zero, suc}
use mathlib.Core.Bool.{Bool, and-eq-true_iff, cond, false, false≢true, not, true, ◌&&◌}
use mathlib.Core.List.{List, [], ◌∷◌, ◌++◌}
use mathlib.Core.Path.{◌≡◌, ap, ap₂, fun_ext, refl, sym, ◌∙◌}
use native.Mathlib.Omega.{arith}
use lib.Dec.{ltb}
use lib.ListN.{get_or, set}
use Rattle.ring.specs.Rings.{modulus, ring_of}
use Rattle.gate.specs.Places.{Place, next, parts, sharing, tabled}
use Rattle.gate.specs.declared.sharing.Sharing.{Sharing}
use Rattle.gate.proofs.PlaceLaw.{parts-sharing, tabled-at, tabled_is}
use Rattle.circuit.specs.Circuits.{Circuit, channelled, ends, gates_of, moduli, result, sent, starts}
use Rattle.machine.specs.Checks.{Check, Tapes, any_bad, any_outside, bad_item, check, first_met, left_of, public_checks}
use Rattle.machine.specs.Registers.{Kind, public_of, sound}
use Rattle.machine.specs.Registers as registers
use Rattle.machine.specs.Step.{checks, computed, dealt, dealt_shares, lengths_of, moved, opened, performed, step, written}
use Rattle.machine.specs.Step as steps
use Rattle.machine.specs.Work.{number_kind, work_of}
use Rattle.machine.specs.Work as works
use Rattle.machine.specs.declared.orders.Order.{Order}
use Rattle.machine.specs.declared.registers.Machine.{Machine}
use Rattle.machine.proofs.WrittenLaw.{empty_of, nothing_written}
use Rattle.act.specs.Acts.{refusal_by}
use Rattle.act.specs.Acts as acts
use Rattle.act.specs.Jobs.{Outcome, refused}
use Rattle.act.specs.Performs.{outcome_by}
use Rattle.act.specs.Works.{Public, Shared, begun, public_after, shares_after, value_from, words_from}
use Rattle.act.specs.Works as acting
use Rattle.act.proofs.ActLaw as tests
use Rattle.outcome.proofs.AcceptLaw.{accepted, performed_refusal, refusal_is, refused_is}
use Rattle.outcome.proofs.CheckLaw.{numbered}
use Rattle.outcome.proofs.OrderLaw.{light, numbered_public}
use Rattle.outcome.proofs.RegisterLaw.{shares_at}
use Rattle.outcome.proofs.WorkLaw.{Light, public_after_lem}
use Rattle.protocol.specs.Acts.{Column, Kinds, act_of, kept_as, public_for, evaluation_of, shared_of, work_for}
use Rattle.protocol.specs.Orders.{column, returned}
use Rattle.protocol.proofs.SharedLaw.{column-at, column-with, value_is}

starts-at : (C : Circuit) (d x y : ℕ) (kind : Kind) (m : Machine)
    → begun (evaluation_of C d x y kind) (column m) ≡ starts C (shares_at m x) (shares_at m y)
starts-at C d x y kind m = ap tabled (fun_ext (λ i. ap₂ C.start (column-at m x i) (column-at m y i)))

module _ (m : Machine) (left : Tapes) (c : Place → List ℕ) where
  ends_at : (C : Circuit) (d x y : ℕ) (kind : Kind) (i : Place)
      → C.finish i (ends C.gates (begun (evaluation_of C d x y kind) (column m)) left.masks i)
      ≡ parts (sharing (result C (shares_at m x) (shares_at m y) left.masks)) i
  unfolding result
  ends_at C d x y kind i =
      ap (λ (s : Place → C.State). C.finish i (ends C.gates s left.masks i)) (starts-at C d x y kind m)
      ∙ sym (tabled-at (λ j. C.finish j (ends C.gates (starts C (shares_at m x) (shares_at m y)) left.masks j)) i)
      ∙ sym (ap (λ f. f i) (parts-sharing (result C (shares_at m x) (shares_at m y) left.masks)))

  computed-columns : (C : Circuit) (d x y : ℕ) (kind : Kind)
      → tabled (λ i. set (column m i) d (kept_as kind (C.finish i (ends C.gates (begun (evaluation_of C d x y kind) (column m)) left.masks i))))
      ≡ column (computed C d x y kind m left c).machine
  unfolding computed
  computed-columns C d x y kind =
      tabled_is (λ i. set (column m i) d (kept_as kind (C.finish i (ends C.gates (begun (evaluation_of C d x y kind) (column m)) left.masks i))))
      ∙ fun_ext (λ i.
      ap (λ (n : ℕ). set (column m i) d (kept_as kind n)) (ends_at C d x y kind i)
      ∙ sym (column-with (moved m (gates_of C) (gates_of C) 0) d kind (sharing (result C (shares_at m x) (shares_at m y) left.masks)) i))

  columns_are : (w : works.Work) → shares_after (work_for (public_of m) w) (column m) left ≡ column (performed w m left c).machine
  unfolding shares_after dealt opened
  columns_are (works.deals d e v) =
      let kind : Kind = number_kind (ring_of e) in
      let z : Sharing = dealt_shares (modulus e) v (get_or left.dealer 0 0) (get_or left.dealer 1 0) in
      tabled_is (λ i. set (column m i) d (kept_as kind (parts z i)))
      ∙ fun_ext (λ i. sym (column-with (moved m 0 0 2) d kind z i))
  columns_are (works.adjusts C d x y kind) = computed-columns C d x y kind
  columns_are (works.computes C d x y kind) = computed-columns C d x y kind
  columns_are (works.opens x) = refl

  computed-channels : (C : Circuit) (d x y : ℕ) (kind : Kind)
      → tabled (λ i. written m.channels_at (sent C.gates (begun (evaluation_of C d x y kind) (column m)) left.masks i) (c i))
      ≡ (computed C d x y kind m left c).channels
  unfolding computed channelled
  computed-channels C d x y kind =
      ap (λ (s : Place → C.State). tabled (λ i. written m.channels_at (sent C.gates s left.masks i) (c i))) (starts-at C d x y kind m)

  channels_are : (w : works.Work)
      → tabled (λ i. written m.channels_at (words_from (work_for (public_of m) w) (column m) left i) (c i)) ≡ (performed w m left c).channels
  unfolding words_from dealt opened
  channels_are (works.deals d e v) = tabled_is (λ i. written m.channels_at [] (c i)) ∙ fun_ext (λ i. nothing_written m.channels_at (c i))
  channels_are (works.adjusts C d x y kind) = computed-channels C d x y kind
  channels_are (works.computes C d x y kind) = computed-channels C d x y kind
  channels_are (works.opens x) =
      ap tabled (fun_ext (λ i. ap (λ (n : ℕ). written m.channels_at (n ∷ []) (c i)) (column-at m x (next i))))

  public_is : (w : works.Work) → public_after (work_for (public_of m) w) (public_for (public_of m)) ≡ public_for (public_of (performed w m left c).machine)
  public_is (works.deals d e v) = ap public_for (sym (public_after_lem m left c (works.deals d e v)))
  public_is (works.adjusts C d x y kind) = ap public_for (sym (public_after_lem m left c (works.adjusts C d x y kind)))
  public_is (works.computes C d x y kind) = ap public_for (sym (public_after_lem m left c (works.computes C d x y kind)))
  public_is (works.opens x) = ap public_for (sym (public_after_lem m left c (works.opens x)))

  value_same : (w : works.Work) → value_from (work_for (public_of m) w) (column m) ≡ (performed w m left c).value
  unfolding dealt computed opened
  value_same (works.deals d e v) = refl
  value_same (works.adjusts C d x y kind) = refl
  value_same (works.computes C d x y kind) = refl
  value_same (works.opens x) = sym (value_is m x)

  gates_is : (w : works.Work) → acting.gates_in (work_for (public_of m) w) ≡ (performed w m left c).gates
  unfolding dealt computed opened
  gates_is (works.deals d e v) = refl
  gates_is (works.adjusts C d x y kind) = refl
  gates_is (works.computes C d x y kind) = refl
  gates_is (works.opens x) = refl

outcome_equal : {p p' : Public Kinds} {a a' : Place → List ℕ} {r r' v v' g g' : ℕ} {c c' : Place → List ℕ}
    → p ≡ p' → a ≡ a' → r ≡ r' → v ≡ v' → g ≡ g' → c ≡ c'
    → ◌≡◌ {A = Outcome (Shared Kinds Column)}
    (record { state = record { public = p; share = a }; refusal = r; value = v; gates = g; channels = c })
    (record { state = record { public = p'; share = a' }; refusal = r'; value = v'; gates = g'; channels = c' })
outcome_equal a b c d e f = rw (a, b, c, d, e, f)

-- any work on a record is the act's work on its columns
pub performed_is : (w : works.Work) (m : Machine) (left : Tapes) (c : Place → List ℕ)
    → acts.performed (work_for (public_of m) w) (shared_of m) left c ≡ outcome_by shared_of (returned (performed w m left c))
performed_is w m left c =
    outcome_equal
    (public_is m left c w) (columns_are m left c w) (sym (performed_refusal w m left c))
    (value_same m left c w) (gates_is m left c w) (channels_are m left c w)

-- the tests of items are the same: work done place by place has none
none_bad : (T : Place → List ℕ) → any_bad [] T ≡ false
unfolding any_bad any_outside
none_bad T = refl

items_are : (p : registers.Public) (w : works.Work) (left : Tapes) → Light w → acting.bad_item (work_for p w) left ≡ bad_item w left
items_are p (works.deals d e v) left l = refl
items_are p (works.adjusts C d x y kind) left l = ap (λ G. any_bad (moduli G) left.masks) (empty_of C.gates l) ∙ none_bad left.masks
items_are p (works.computes C d x y kind) left l = refl
items_are p (works.opens x) left l = refl

-- the last of checks that all have numbers is that of an item
first-with : (cs : List Check) (b : Bool) → numbered cs ≡ true → first_met (cs ++ (check b 10 ∷ [])) ≡ refusal_by (first_met cs) b
unfolding first_met
first-with [] b n = refl
first-with (c ∷ cs) b n = go c.met c.refusal n (first-with cs b)
  where
    by : (r : ℕ) → ltb 0 r ≡ true → r ≡ refusal_by r b
    by zero h = absurd (false≢true h)
    by (suc r) h = refl

    go : (met : Bool) (r : ℕ) → ltb 0 r && numbered cs ≡ true
        → (numbered cs ≡ true → first_met (cs ++ (check b 10 ∷ [])) ≡ refusal_by (first_met cs) b)
        → cond met r (first_met (cs ++ (check b 10 ∷ []))) ≡ refusal_by (cond met r (first_met cs)) b
    go true r h ih = by r ((and-eq-true_iff (ltb 0 r) (numbered cs)).0 h).0
    go false r h ih = ih ((and-eq-true_iff (ltb 0 r) (numbered cs)).0 h).1

-- the refusal of an order at a sound record
refusal_sound : (o : Order) (m : Machine) (T : Tapes) (c : Place → List ℕ) → sound m ≡ true
    → (step o m T c).refusal
    ≡ refusal_by (first_met (public_checks o (public_of m) (lengths_of T c))) (bad_item (work_of o (public_of m)) (left_of (public_of m) T))
unfolding checks first_met
refusal_sound o m T c h =
    let p = public_of m in
    let bad = bad_item (work_of o p) (left_of p T) in
    refusal_is o m T c
    ∙ ap (λ (b : Bool). cond (not b) 1 (first_met (public_checks o p (lengths_of T c) ++ (check bad 10 ∷ [])))) h
    ∙ first-with (public_checks o p (lengths_of T c)) bad (numbered_public o p (lengths_of T c))

-- the refusal of the act is that of the order
pub refusal_same : (o : Order) (m : Machine) (T : Tapes) (c : Place → List ℕ) → sound m ≡ true
    → (acts.step (act_of o) (shared_of m) T c).refusal ≡ (step o m T c).refusal
refusal_same o m T c s =
    let p = public_of m in
    tests.refusal_is (act_of o) (shared_of m) T c
    ∙ ap (refusal_by (first_met (public_checks o p (lengths_of T c)))) (items_are p (work_of o p) (left_of p T) (light o p))
    ∙ sym (refusal_sound o m T c s)

-- and so is all that it does
pub step_is : (o : Order) (m : Machine) (T : Tapes) (c : Place → List ℕ) → sound m ≡ true
    → acts.step (act_of o) (shared_of m) T c ≡ outcome_by shared_of (returned (step o m T c))
step_is o m T c s = go (step o m T c).refusal refl
  where
    go : (n : ℕ) → (step o m T c).refusal ≡ n → acts.step (act_of o) (shared_of m) T c ≡ outcome_by shared_of (returned (step o m T c))
    go zero e =
        tests.done_is (act_of o) (shared_of m) T c (refusal_same o m T c s ∙ e)
        ∙ performed_is (work_of o (public_of m)) m (left_of (public_of m) T) c
        ∙ sym (ap (λ (x : steps.Outcome). outcome_by shared_of (returned x)) (accepted o m T c e).done)
    go (suc n) e =
        let same = refusal_same o m T c s in
        tests.refused_is (act_of o) (shared_of m) T c (λ z. omega (arith, sym same ∙ z))
        ∙ ap (λ (k : ℕ). refused k (shared_of m) c) same
        ∙ sym (ap (λ (x : steps.Outcome). outcome_by shared_of (returned x)) (refused_is o m T c (λ z. omega arith)))
