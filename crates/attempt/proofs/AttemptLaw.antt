-- From verdicts, items and lent runs to what 01 says of a task.
use Rattle.std.specs.Prelude.{Result, Ok, Err}
use Prim.Native.Nat.{ℕ, ◌+◌, ◌-◌}
use mathlib.Core.Bool.{Bool, false, not, true}
use mathlib.Core.List.{List, [], ◌++◌, append-nil}
use mathlib.Core.Path.{◌≡◌, refl, ap, ap₂, sym, ◌∙◌}
use native.Mathlib.Nat.{le_refl}
use native.Mathlib.Omega.{arith}
use borrow.Author.Tests.{eqb-true, ltb-false, not-false}
use borrow.Rule.Slice.PartMut.{mid_of, put_mid}
use lib.Dec.{eqb}
use lib.ListN.{drop, drop_of_length-le, length, length-drop, replicate, take}
use lib.Seq.{drop-drop}
use Rattle.gate.specs.Places.{Place, p0, p1, p2, parts, sharing, tabled, three}
use Rattle.gate.specs.declared.sharing.Sharing.{Sharing}
use Rattle.circuit.specs.Circuits.{channelled, gates_of, moduli, result, starts}
use Rattle.circuit.specs.Lent.{Left, Long}
use Rattle.circuit.proofs.LentLaw.{part_is, parts_from, put_back}
use Rattle.circuit.proofs.RunLaw.{length-sent}
use Rattle.machine.specs.Checks.{any_bad, first_met, gate_checks, uneven}
use Rattle.machine.specs.Registers.{register_of}
use Rattle.machine.specs.Step.{written}
use Rattle.machine.specs.declared.answers.Refusal.{Refusal}
use Rattle.machine.specs.declared.answers.Refusal.TheVariants.{BadItem}
use Rattle.machine.specs.declared.registers.Machine.{Machine}
use Rattle.machine.specs.declared.registers.Register.{Register}
use Rattle.machine.specs.Answers.{number_of}
use Rattle.order.specs.Attempts.{attempted, length_verdict, lengths_of, masks_left, ran, tried}
use Rattle.order.specs.Changes.{Changes}
use Rattle.order.specs.Tasks.{Fit, Ready, Seated, circuit_of, kind_left, other_of, source_of}
use Rattle.order.specs.Sources.{GatesAt, public_at}
use Rattle.order.specs.declared.sources.Positions.{Positions}
use Rattle.order.specs.declared.changes.Change.{Change}
use Rattle.order.specs.declared.changes.Change.TheVariants.{Stored}
use Rattle.order.specs.declared.tasks.Cost.{Cost}
use Rattle.order.specs.declared.tasks.Prepared.{Prepared}
use Rattle.order.specs.declared.tasks.Prepared.TheVariants.{Gates, Local}
use Rattle.order.specs.declared.tasks.Task.{Task}
use Rattle.order.proofs.CostLaw.{Costs}
use Rattle.order.proofs.CheckLaw.{unmet, unmet_rest}
use Rattle.machine.proofs.KindLaw.{one_false, other_false}
use Rattle.order.proofs.VerdictLaw.{numbered}
use Rattle.attempt.proofs.SupplyLaw.{gates_cost}

-- what an accepted order has of the record
module _ (m : Machine) (d : ℕ) {t : Result Prepared Refusal} {p : Prepared} (is : t ≡ Ok p) where
  pub ready_local : {r : Register} → p ≡ Local r → Ready m d t → Seated m d
  ready_local e h = rw (is ∙ ap Ok e) at h

  pub ready_gates : {g : Task} → p ≡ Gates g → Ready m d t → Seated m d × Fit g
  ready_gates e h = rw (is ∙ ap Ok e) at h

-- three runs that are even
even : (a b c : ℕ) → uneven (three a b c) ≡ false → (a ≡ b) × (b ≡ c)
even a b c e =
    let rest = other_false (not (eqb a b)) _ e in (
      eqb-true a b (not-false _ (one_false _ _ e)),
      eqb-true b c (not-false _ (one_false _ _ rest)),
    )

-- no check of lengths refuses: enough is left on each run
pub long_enough : (at : Positions) (n : ℕ) (t₀ t₁ t₂ c₀ c₁ c₂ : List ℕ)
    → 0 ≡ first_met (gate_checks n (public_at at) (lengths_of (three t₀ t₁ t₂) (three c₀ c₁ c₂)))
    → Long (at.masks + n) t₀ t₁ t₂ × Long (at.channels + n) c₀ c₁ c₂
long_enough at n t₀ t₁ t₂ c₀ c₁ c₂ verdict =
    let fine = sym verdict in
    let both = unmet _ 8 _ refl fine in
    let later = unmet_rest _ 8 _ refl fine in
    let last = unmet_rest _ 9 _ refl later in
    let masks = even (length t₀) (length t₁) (length t₂) (one_false _ _ both) in
    let channels = even (length c₀) (length c₁) (length c₂) (other_false (uneven (three (length t₀) (length t₁) (length t₂))) _ both) in
    let enough = ltb-false (length t₀) (at.masks + n) (unmet _ 9 _ refl later) in
    let room = ltb-false (length c₀) (at.channels + n) (unmet _ 11 _ refl last) in (
      record { zero = omega arith; one = omega arith; two = omega arith },
      record { zero = omega arith; one = omega arith; two = omega arith },
    )

-- words at the head of what is left of a run
put_written : (k n : ℕ) (u ws h : List ℕ) → length ws ≡ n → h ≡ ws ++ drop n (mid_of k (length u - k) u)
    → put_mid k (length u - k) u h ≡ written k ws u
put_written k n u ws h counted is =
    let none : drop (length u - k) (drop k u) ≡ []
    = drop_of_length-le (drop k u) {i = length u - k} (rw (length-drop k u) (le_refl (length u - k))) in
    ap (λ (l : List ℕ). take k u ++ (h ++ l)) none
    ∙ ap (λ (l : List ℕ). take k u ++ l)
    (append-nil h ∙ is ∙ ap₂ (λ (j : ℕ) (l : List ℕ). ws ++ drop j l) (sym counted) (part_is k u)
    ∙ ap (λ (l : List ℕ). ws ++ l) (drop-drop (length ws) k u))

module _ (t : Task) (d : ℕ) (m : Machine) {at : Positions} {k : Cost} (cost : Costs t k) (of : GatesAt at m) where
  -- checks of lengths that refuse, or do not
  module _ (T c : Place → List ℕ) {n : ℕ} (verdict : n ≡ first_met (gate_checks (k.bits + k.ring) (public_at at) (lengths_of T c))) where
    is_verdict : length_verdict t m T c ≡ n
    is_verdict = rw (gates_cost cost) (sym (rw (of.masks, of.channels) at verdict))

    pub short : (w : Refusal) → n ≡ number_of w → Changes m (Err w) c (attempted (Ok (Gates t)) d m T c)
    unfolding attempted
    short w e = record { fits = tt; is = rw (is_verdict ∙ e, numbered w) }

    pub enough : {r : Result Change Refusal} {l : Place → List ℕ} → n ≡ 0 → Changes m r l (tried t d m T c) → Changes m r l (attempted (Ok (Gates t)) d m T c)
    unfolding attempted
    enough e done = rw (is_verdict ∙ e) done

  module _ (t₀ t₁ t₂ c₀ c₁ c₂ : List ℕ) {bad : Bool}
      (found : bad ≡ any_bad (replicate k.bits 2 ++ replicate k.ring k.modulus) (parts_from at.masks t₀ t₁ t₂)) where
    is_left : parts_from at.masks t₀ t₁ t₂ ≡ masks_left m (three t₀ t₁ t₂)
    is_left = rw (part_is at.masks t₀, part_is at.masks t₁, part_is at.masks t₂, of.masks)

    is_bad : any_bad (moduli (circuit_of t).gates) (masks_left m (three t₀ t₁ t₂)) ≡ bad
    is_bad = ap₂ any_bad cost.moduli (sym is_left) ∙ sym found

    -- an item out of range
    pub bad_tried : bad ≡ true → Changes m (Err BadItem) (three c₀ c₁ c₂) (tried t d m (three t₀ t₁ t₂) (three c₀ c₁ c₂))
    unfolding tried
    bad_tried e = record { fits = tt; is = rw (is_bad ∙ e) }

    -- none, and what the gates leave
    pub gates-tried : {z : Sharing} {h₀ h₁ h₂ : List ℕ} {r : Register} → bad ≡ false → Seated m d
        → Left (circuit_of t) (parts (source_of t)) (parts (other_of t)) (parts_from at.masks t₀ t₁ t₂) (parts_from at.channels c₀ c₁ c₂) z (three h₀ h₁ h₂)
        → r ≡ register_of (kind_left t) z
        → Changes m (Ok (Stored d r (k.bits + k.ring) 0)) (put_back at.channels c₀ c₁ c₂ h₀ h₁ h₂) (tried t d m (three t₀ t₁ t₂) (three c₀ c₁ c₂))
    unfolding tried ran channelled
    gates-tried {z} {h₀} {h₁} {h₂} {r} e seat left kept =
        let C = circuit_of t in
        let X = parts (source_of t) in
        let Y = parts (other_of t) in
        let P = parts_from at.masks t₀ t₁ t₂ in
        let shares : r ≡ register_of (kind_left t) (sharing (result C X Y (masks_left m (three t₀ t₁ t₂))))
        = kept ∙ ap (λ (q : Place → ℕ). register_of (kind_left t) (sharing q)) (left.is ∙ ap (λ (T : Place → List ℕ). result C X Y T) is_left) in
        let put : (i : Place) (u h : List ℕ) → h ≡ channelled C X Y P i ++ drop (gates_of C) (mid_of at.channels (length u - at.channels) u)
        → put_mid at.channels (length u - at.channels) u h ≡ written m.channels_at (channelled C X Y (masks_left m (three t₀ t₁ t₂)) i) u
        = λ i u h head.
        put_written at.channels (gates_of C) u (channelled C X Y P i) h (length-sent C.gates (starts C X Y) P i) head
        ∙ ap₂ (λ (n : ℕ) (T : Place → List ℕ). written n (channelled C X Y T i) u) of.channels is_left in
        let same : put_back at.channels c₀ c₁ c₂ h₀ h₁ h₂
        ≡ tabled (λ i. written m.channels_at (channelled C X Y (masks_left m (three t₀ t₁ t₂)) i) (three c₀ c₁ c₂ i))
        = rw (put p0 c₀ h₀ (left.channels p0), put p1 c₁ h₁ (left.channels p1), put p2 c₂ h₂ (left.channels p2)) in
        record {
          fits = (seat, cost.few, omega arith);
          is = rw (is_bad ∙ e) (rw (shares, sym (gates_cost cost), same));
        }
