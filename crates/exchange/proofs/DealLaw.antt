-- Order 1: its checks as the code makes them, and its step.
use Rattle.std.specs.Prelude.{Some, Option, Ok, Err}
use Prim.Native.Nat.{ℕ}
use mathlib.Core.Bool.{Bool}
use mathlib.Core.List.{List, [], ◌∷◌, ◌++◌}
use mathlib.Core.Path.{◌≡◌, ap, sym, ◌∙◌}
use native.Mathlib.Omega.{arith}
use lib.ListN.{drop, get_or, length}
use Rattle.ring.specs.Rings.{modulus, modulus_of, ring_of}
use Rattle.ring.specs.declared.rings.Ring.{Ring}
use Rattle.ring.proofs.RangeLaw.{width_named}
use Rattle.gate.specs.Places.{Place}
use Rattle.machine.specs.Checks.{Tapes, first_met, no_ring, public_checks}
use Rattle.machine.specs.Registers.{register_of}
use Rattle.machine.specs.Step.{checks, dealt, dealt_shares, step, stored}
use Rattle.machine.specs.Work.{number_kind}
use Rattle.machine.specs.Answers.{number_of}
use Rattle.machine.specs.declared.answers.Refusal.{Refusal}
use Rattle.machine.specs.declared.orders.Order.TheVariants.{Deal}
use Rattle.machine.specs.declared.registers.Machine.{Machine}
use Rattle.machine.specs.declared.registers.Register.{Register}
use Rattle.machine.specs.declared.registers.Register.TheVariants.{Number}
use Rattle.order.specs.Changes.{Changes}
use Rattle.order.specs.declared.changes.Change.TheVariants as change
use Rattle.order.specs.Attempts.{begin_checks}
use Rattle.order.proofs.CheckLaw.{passed}
use Rattle.exchange.specs.Exchanges.{Dealing, dealt_register, number_checks, own_checks}
use Rattle.exchange.proofs.CheckLaw.{step-performed, step-refused, there}

-- numbers are checked in the ring of a width
pub in_ring : (at e v n : ℕ) (left : List ℕ) {r : Ring} {p u : ℕ} → ring_of e ≡ Some r → p ≡ modulus_of r
    → u ≡ first_met (number_checks p v n at (get_or left 0 0) (get_or left 1 0)) → u ≡ first_met (own_checks at e v n left)
in_ring at e v n left ring modular rest =
    let same = modular ∙ ap modulus (sym (width_named e ring)) in
    passed 5 _ (ap no_ring ring) (rest ∙ ap (λ (p : ℕ). first_met (number_checks p v n at (get_or left 0 0) (get_or left 1 0))) same)

-- the register
pub dealt_number : (e v r₀ r₁ : ℕ) {r : Ring} → ring_of e ≡ Some r → Number r (dealt_shares (modulus_of r) v r₀ r₁) ≡ dealt_register e v r₀ r₁
dealt_number e v r₀ r₁ {r} h =
    ap (λ (q : ℕ). Number r (dealt_shares q v r₀ r₁)) (ap modulus (sym (width_named e h)))
    ∙ sym (ap (λ (w : Option Ring). register_of (number_kind w) (dealt_shares (modulus e) v r₀ r₁)) h)

-- the step
module _ (m : Machine) (d e v : ℕ) (D : List ℕ) {s : Bool} {at : ℕ} (of : Dealing m s at) (M c : Place → List ℕ) where
  abbrev lent : Tapes
  lent = record { masks = M; dealer = D }

  checks_are : {u : ℕ} → u ≡ first_met (begin_checks s (d ∷ []) ++ own_checks at e v (length D) (drop at D)) → u ≡ first_met (checks (Deal d e v) m lent c)
  unfolding checks public_checks
  checks_are h = rw (of.place, of.sound) at h

  pub deal_refused : (w : Refusal) → number_of w ≡ first_met (begin_checks s (d ∷ []) ++ own_checks at e v (length D) (drop at D))
      → Changes m (Err w) c (step (Deal d e v) m lent c)
  deal_refused w h = step-refused (Deal d e v) m lent c w (checks_are h)

  pub deal_done : {a : Register} → 0 ≡ first_met (begin_checks s (d ∷ []) ++ own_checks at e v (length D) (drop at D))
      → a ≡ dealt_register e v (get_or (drop at D) 0 0) (get_or (drop at D) 1 0)
      → Changes m (Ok (change.Stored d a 0 2)) c (step (Deal d e v) m lent c)
  unfolding dealt
  deal_done fine register =
      record {
        fits = (there s d _ (sym fine) m of.sound, omega arith, omega arith);
        is = ap (λ (a : Register). stored d a 0 2 m c) (rw of.place at register)
            ∙ step-performed (Deal d e v) m lent c (checks_are fine);
      }
