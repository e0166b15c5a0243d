-- Checks one at a time, and a step by the first that is met.
use Rattle.std.specs.Prelude.{Err}
use Prim.Native.Nat.{ℕ}
use mathlib.Core.Bool.{Bool, not, true}
use mathlib.Core.List.{List, [], ◌∷◌, ◌++◌}
use mathlib.Core.Path.{◌≡◌, refl, sym, ◌∙◌}
use borrow.Author.Tests.{not-false}
use Rattle.gate.specs.Places.{Place}
use Rattle.machine.specs.Checks.{Check, Tapes, any_above15, first_met, left_of}
use Rattle.machine.specs.Registers.{public_of, sound}
use Rattle.machine.specs.Step.{checks, performed, step}
use Rattle.machine.specs.Work.{work_of}
use Rattle.machine.specs.declared.answers.Refusal.{Refusal}
use Rattle.machine.specs.declared.orders.Order.{Order}
use Rattle.machine.specs.declared.registers.Machine.{Machine}
use Rattle.machine.specs.Answers.{number_of}
use Rattle.order.specs.Attempts.{begin_checks}
use Rattle.order.specs.Changes.{Changes}
use Rattle.order.specs.Tasks.{Seated}
use Rattle.order.proofs.CheckLaw.{unmet, unmet_rest}
use Rattle.order.proofs.SoundLaw.{seated}
use Rattle.order.proofs.VerdictLaw.{numbered}

-- what checks 1 and 2 of an order that names register k leave
module _ (s : Bool) (k : ℕ) (cs : List Check) where
  module _ (fine : first_met (begin_checks s (k ∷ []) ++ cs) ≡ 0) where
    pub good : s ≡ true
    good = not-false s (unmet (not s) 1 _ refl fine)

    pub there : (m : Machine) → s ≡ sound m → Seated m k
    there m is = seated m (sym is ∙ good) k [] (unmet (any_above15 (k ∷ [])) 2 cs refl (unmet_rest (not s) 1 _ refl fine))

    pub others : first_met cs ≡ 0
    others = unmet_rest (any_above15 (k ∷ [])) 2 cs refl (unmet_rest (not s) 1 _ refl fine)

module _ (o : Order) (m : Machine) (T : Tapes) (c : Place → List ℕ) where
  -- the record as it was
  pub step-refused : (w : Refusal) → number_of w ≡ first_met (checks o m T c) → Changes m (Err w) c (step o m T c)
  unfolding step
  step-refused w e = record { fits = tt; is = rw (sym e, numbered w) }

  pub step-performed : 0 ≡ first_met (checks o m T c) → performed (work_of o (public_of m)) m (left_of (public_of m) T) c ≡ step o m T c
  unfolding step
  step-performed e = rw (← e)
