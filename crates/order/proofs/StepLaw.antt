-- A step in two parts: what the record alone decides, then lengths, items and gates.
use Rattle.std.specs.Prelude.{Ok, Err, Result}
use Rattle.std.specs.Result.{IsErrAnd}
use Rattle.std.proofs.lemmas.Result.{err_from_is_err_and}
use Prim.Native.Nat.{ℕ}
use mathlib.Core.Bool.{Bool, cond, false, true}
use mathlib.Core.List.{List, [], ◌∷◌, ◌++◌, append_assoc}
use mathlib.Core.Path.{◌≡◌, refl, ap, ap₂, fun_ext, sym, ◌∙◌}
use native.Mathlib.Nat.{add-zero}
use lib.Dec.{eqb}
use lib.ListN.{length, take-append-drop}
use Rattle.gate.specs.Places.{Place, parts, sharing, tabled}
use Rattle.gate.proofs.PlaceLaw.{tabled_is}
use Rattle.circuit.specs.Circuits.{Circuit, Gate, channelled, gates_of, result, sent, starts}
use Rattle.machine.specs.Checks.{Check, Tapes, bad_item, check, first_met, gate_checks, kind_checks, left_of, length_checks, named, public_checks}
use Rattle.machine.specs.Registers.{Kind, public_of, register_at, register_of, shares_of, sound}
use Rattle.machine.specs.Step.{Outcome, checks, computed, lengths_of, performed, refused, step, stored, written}
use Rattle.machine.specs.Work.{Work, adjusts, computes, work_of}
use Rattle.machine.specs.declared.answers.Refusal.{Refusal}
use Rattle.machine.specs.declared.orders.Order.{Order}
use Rattle.machine.specs.declared.registers.Machine.{Machine}
use Rattle.machine.specs.declared.registers.Register.{Register}
use Rattle.machine.specs.Answers.{number_of}
use Rattle.order.specs.Answers.{first_nonzero}
use Rattle.order.specs.Attempts.{Prepares, attempted, begin_checks, record_refusal, length_verdict, masks_left, ran, tried}
use Rattle.order.specs.Tasks.{Fit, Seated, circuit_of, kind_left, other_of, source_of}
use Rattle.order.specs.Changes.{Changes}
use Rattle.order.specs.declared.changes.Change.{Change}
use Rattle.order.specs.declared.tasks.Prepared.{Prepared}
use Rattle.order.specs.declared.tasks.Prepared.TheVariants.{Gates, Local}
use Rattle.order.specs.declared.tasks.Task.{Task}
use Rattle.order.proofs.CheckLaw.{joined, record_then}
use Rattle.order.proofs.VerdictLaw.{first_refusal, numbered}

-- a verdict that is none leaves the last check to decide
settled : (A : Type 0) (v : ℕ) (bad : Bool) (good : A) (because : ℕ → A)
    → cond (eqb (first_nonzero v (cond bad 10 0)) 0) good (because (first_nonzero v (cond bad 10 0)))
    ≡ cond (eqb v 0) (cond bad (because 10) good) (because v)
settled A v bad good because = go (eqb v 0) refl
  where
    last : (b : Bool) → cond (eqb (cond b 10 0) 0) good (because (cond b 10 0)) ≡ cond b (because 10) good
    last true = refl
    last false = refl

    go : (z : Bool) → eqb v 0 ≡ z
        → cond (eqb (cond z (cond bad 10 0) v) 0) good (because (cond z (cond bad 10 0) v))
        ≡ cond z (cond bad (because 10) good) (because v)
    go true e = last bad
    go false e = rw e

-- the checks after those of kinds, and what they leave
abbrev later_checks : Work → Machine → Tapes → (Place → List ℕ) → List Check
later_checks W m T c =
    length_checks W (public_of m) (lengths_of T c) ++ (check (bad_item W (left_of (public_of m) T)) 10 ∷ [])

abbrev later : Work → Machine → Tapes → (Place → List ℕ) → Outcome
later W m T c =
    cond (eqb (first_met (later_checks W m T c)) 0) (performed W m (left_of (public_of m) T) c)
    (refused (first_met (later_checks W m T c)) m c)

abbrev tapes : List ℕ → (Place → List ℕ) → Tapes
tapes D T = record { masks = T; dealer = D }

-- no words leave a channel as it is
none_written : (at : ℕ) (l : List ℕ) → written at [] l ≡ l
none_written at l = rw (add-zero at) (take-append-drop at l)

module _ (m : Machine) (d x y : ℕ) where
  local_is : (C : Circuit) (kind : Kind) (r : Register) (D : List ℕ) (T c : Place → List ℕ)
      → C.gates ≡ []
      → register_of kind (sharing (result C (parts (shares_of (register_at m x))) (parts (shares_of (register_at m y))) (masks_left m T))) ≡ r
      → later (adjusts C d x y kind) m (tapes D T) c ≡ stored d r 0 0 m c
  unfolding first_met computed channelled sent
  local_is C kind r D T c none is =
      let X = parts (shares_of (register_at m x)) in
      let Y = parts (shares_of (register_at m y)) in
      let words : (i : Place) → channelled C X Y (masks_left m T) i ≡ []
      = λ i. ap (λ (G : List (Gate C.State)). sent G (starts C X Y) (masks_left m T) i) none in
      let same : tabled (λ i. written m.channels_at (channelled C X Y (masks_left m T) i) (c i)) ≡ c
      = ap tabled (fun_ext (λ i. ap (λ (ws : List ℕ). written m.channels_at ws (c i)) (words i) ∙ none_written m.channels_at (c i)))
      ∙ tabled_is c in
      let count : gates_of C ≡ 0 = ap length none in
      ap₂ (λ (n : ℕ) (l : Place → List ℕ). stored d (register_of kind (sharing (result C X Y (masks_left m T)))) n 0 m l) count same
      ∙ ap (λ (a : Register). stored d a 0 0 m c) is

  ran_is : (t : Task) (T : Tapes) (c : Place → List ℕ) → shares_of (register_at m x) ≡ source_of t → shares_of (register_at m y) ≡ other_of t
      → computed (circuit_of t) d x y (kind_left t) m T c ≡ ran t d m T.masks c
  unfolding computed ran
  ran_is t T c left right = rw (left, right)

  gates_are : (t : Task) (D : List ℕ) (T c : Place → List ℕ) → shares_of (register_at m x) ≡ source_of t → shares_of (register_at m y) ≡ other_of t
      → later (computes (circuit_of t) d x y (kind_left t)) m (tapes D T) c ≡ attempted (Ok (Gates t)) d m T c
  unfolding attempted tried first_met
  gates_are t D T c left right =
      let C = circuit_of t in
      let p = public_of m in
      let bad = bad_item (computes C d x y (kind_left t)) (left_of p (tapes D T)) in
      let first = length_verdict t m T c in
      let good = computed C d x y (kind_left t) m (left_of p (tapes D T)) c in
      ap (λ (n : ℕ). cond (eqb n 0) good (refused n m c)) (joined (gate_checks (gates_of C) p (lengths_of (tapes D T) c)) (check bad 10 ∷ []) tt)
      ∙ settled Outcome first bad good (λ n. refused n m c)
      ∙ ap (λ (q : Outcome). cond (eqb first 0) (cond bad (refused 10 m c) q) (refused first m c)) (ran_is t (left_of p (tapes D T)) c left right)

module _ (o : Order) (m : Machine) where
  checks_split : (T : Tapes) (c : Place → List ℕ) → first_met (checks o m T c) ≡ first_nonzero (record_refusal o m) (first_met (later_checks (work_of o (public_of m)) m T c))
  unfolding checks public_checks
  checks_split T c =
      ap (λ (l : List Check). first_met (begin_checks (sound m) (named o) ++ l))
      (append_assoc (kind_checks o (public_of m)) (length_checks (work_of o (public_of m)) (public_of m) (lengths_of T c)) _)
      ∙ record_then m o (later_checks (work_of o (public_of m)) m T c)

  step-refused : (w : Refusal) → record_refusal o m ≡ number_of w → (T : Tapes) (c : Place → List ℕ) → step o m T c ≡ refused (number_of w) m c
  unfolding step
  step-refused w e T c =
      let later = first_met (later_checks (work_of o (public_of m)) m T c) in
      let is : first_met (checks o m T c) ≡ number_of w
      = checks_split T c ∙ ap (λ (n : ℕ). first_nonzero n later) e ∙ sym (first_refusal w later) in
      rw (is, numbered w)

  step-later : record_refusal o m ≡ 0 → (T : Tapes) (c : Place → List ℕ) → step o m T c ≡ later (work_of o (public_of m)) m T c
  unfolding step
  step-later e T c = rw (checks_split T c, e)

  -- refused for its kinds
  pub because : (d : ℕ) {w : Refusal} → record_refusal o m ≡ number_of w → Prepares o m d (Err w)
  unfolding attempted
  because d {w} e = record { is = λ D T c. step-refused w e (record { masks = T; dealer = D }) c; ready = tt }

  pub told : {d : ℕ} (r : Result Prepared Refusal) (w : Refusal) → IsErrAnd r (λ e. e ≡ w) → Prepares o m d (Err w) → Prepares o m d r
  told r w is h = let p = err_from_is_err_and r is in rw (p.1, p.2) h

  -- place by place: a circuit with no gates
  pub locally : (C : Circuit) (d x y : ℕ) (kind : Kind) (r : Register)
      → record_refusal o m ≡ 0
      → work_of o (public_of m) ≡ adjusts C d x y kind
      → C.gates ≡ []
      → ((T : Place → List ℕ) → register_of kind (sharing (result C (parts (shares_of (register_at m x))) (parts (shares_of (register_at m y))) T)) ≡ r)
      → Seated m d
      → Prepares o m d (Ok (Local r))
  unfolding attempted
  locally C d x y kind r fine work none is seat =
      record {
        is = λ D T c.
            step-later fine (tapes D T) c
            ∙ ap (λ W. later W m (tapes D T) c) work
            ∙ local_is m d x y C kind r D T c none (is (masks_left m T));
        ready = seat;
      }

  -- with gates
  pub gated : (d x y : ℕ) (t : Task)
      → record_refusal o m ≡ 0
      → work_of o (public_of m) ≡ computes (circuit_of t) d x y (kind_left t)
      → shares_of (register_at m x) ≡ source_of t
      → shares_of (register_at m y) ≡ other_of t
      → Seated m d
      → Fit t
      → Prepares o m d (Ok (Gates t))
  gated d x y t fine work left right seat fit =
      record {
        is = λ D T c.
            step-later fine (tapes D T) c
            ∙ ap (λ W. later W m (tapes D T) c) work
            ∙ gates_are m d x y t D T c left right;
        ready = (seat, fit);
      }

-- a refusal that is passed on changes nothing either
pub passed_change : (m : Machine) {c : Place → List ℕ} {o : Outcome} (r : Result Change Refusal) (w : Refusal) → IsErrAnd r (λ e. e ≡ w)
    → Changes m (Err w) c o → Changes m r c o
passed_change m r w is h = let p = err_from_is_err_and r is in rw (p.1, p.2) h
