-- Demand 3 of the nine orders (specs/Orders.antt): they perform lawful acts.
use Prim.Native.Nat.{ℕ, zero, suc}
use mathlib.Core.Bool.{true}
use mathlib.Core.List.{List}
use mathlib.Core.Path.{◌≡◌, ap, refl, ◌∙◌}
use native.Mathlib.Omega.{arith}
use Rattle.gate.specs.Places.{Place}
use Rattle.machine.specs.Checks.{Tapes}
use Rattle.machine.specs.Registers.{empty_machine, public_of, sound, sound_register, sound_slots}
use Rattle.machine.specs.Registers as registers
use Rattle.machine.specs.Step.{step}
use Rattle.machine.specs.Step as steps
use Rattle.machine.specs.declared.orders.Order.{Order}
use Rattle.machine.specs.declared.registers.Machine.{Machine}
use Rattle.act.specs.Performs.{AtStart, PerformsActs}
use Rattle.act.proofs.Secrecy.{secrecy_of}
use Rattle.outcome.proofs.AcceptLaw.{refused_is}
use Rattle.outcome.proofs.Theorems.{keeps_sound}
use Rattle.protocol.specs.Acts.{Column, Kinds, act_of, public_from, shared_of}
use Rattle.protocol.specs.Orders.{OrdersSecret, orders, seen}
use Rattle.protocol.specs.Same.{Good}
use Rattle.protocol.proofs.Lawful.{SameData, alike_acts, same_public, small_is}
use Rattle.protocol.proofs.OrderLaw.{opening_is}
use Rattle.protocol.proofs.StepLaw.{step_is}

pub sound-after : (o : Order) (m : Machine) (T : Tapes) (c : Place → List ℕ) → sound m ≡ true → sound (step o m T c).machine ≡ true
sound-after o m T c s = go (step o m T c).refusal refl
  where
    go : (n : ℕ) → (step o m T c).refusal ≡ n → sound (step o m T c).machine ≡ true
    go zero e = keeps_sound o m T c e
    go (suc n) e = ap (λ (x : steps.Outcome). sound x.machine) (refused_is o m T c (λ z. omega arith)) ∙ s

pub empty_good : Good empty_machine
unfolding empty_machine sound sound_slots sound_register
empty_good = record { sound = refl; slots = refl }

pub at-start : AtStart (shared_of empty_machine)
unfolding empty_machine
at-start = record { masks = refl; dealer = refl }

-- what U sees is equal where what is public is, and each of its two columns
pub seen_equal : {p p' : registers.Public} {a a' b b' : List ℕ} → p ≡ p' → a ≡ a' → b ≡ b' → seen p a b ≡ seen p' a' b'
seen_equal {p} {p'} {a} {a'} {b} {b'} public own far =
    ap (λ (x : registers.Public). seen x a b) public ∙ ap (λ (x : List ℕ). seen p' x b) own ∙ ap (λ (x : List ℕ). seen p' a' x) far

unfoldable pub orders_perform_acts : PerformsActs orders Kinds Column
orders_perform_acts =
    record {
      shared = shared_of;
      Good = λ m. sound m ≡ true;
      Same = SameData;
      same_public = same_public;
      Plan = Unit {0};
      plan = λ m. tt;
      onward = λ o σ. σ;
      plan_after = λ o m T c g. refl;
      act = λ o σ. act_of o;
      step_is = step_is;
      good_after = sound-after;
      number_is = λ o m r g. refl;
      small_is = λ o m s. small_is o m;
      opening_is = λ o m g. opening_is o (public_of m);
      AlikePlans = λ σ τ. Unit {0};
      alike = λ o o' σ τ a h. alike_acts o o' a;
      alike-onward = λ o o' σ τ a h. tt;
      seen_same = λ U m n g g' plans public own far. seen_equal (ap public_from public) own far;
      start_good = empty_good.sound;
      start-at = at-start;
      start_same = record {
        left = empty_machine;
        right = empty_machine;
        is_left = refl;
        is_right = refl;
        same = record { left = empty_good; right = empty_good; public = refl; values = λ k. refl };
      };
      start-alike = tt;
    }

unfoldable pub secrecy : OrdersSecret
secrecy = secrecy_of orders_perform_acts
