-- Two sources, as they are read one after the other.
use Prim.Native.Nat.{ℕ}
use mathlib.Core.Bool.{Bool, cond, false, true, not, ◌||◌}
use mathlib.Core.Path.{◌≡◌, refl, ap, ap₂, sym, ◌∙◌}
use lib.Dec.{eqb}
use Rattle.gate.specs.declared.sharing.Sharing.{Sharing}
use Rattle.ring.specs.Rings.{width_of}
use denote.Enum.Bare.{sameb}
use Rattle.ring.specs.contracts.rings.Ring.{the_type}
use Rattle.ring.specs.declared.rings.Ring.{Ring}
use Rattle.ring.specs.declared.rings.Ring.TheVariants.{R13, R31, R61}
use Rattle.machine.specs.Checks.{a_number, first_met, is_empty, two_numbers}
use Rattle.machine.specs.Registers.{kind_of}
use Rattle.machine.specs.declared.answers.Refusal.{Refusal}
use Rattle.machine.specs.declared.registers.Register.{Register}
use Rattle.machine.specs.declared.registers.Register.TheVariants.{Bits, Empty, Number}
use Rattle.machine.specs.Answers.{number_of}
use Rattle.order.proofs.CheckLaw.{met, passed_on}
use Rattle.order.proofs.VerdictLaw.{numbered}
use Rattle.order.proofs.verdicts.two_numbers.Goals as goal

-- a test of both sources, as the definition states it
both : {a b x y t : Bool} → a ≡ x → b ≡ y → a || b ≡ t → x || y ≡ t
both f g h = sym (ap₂ ◌||◌ f g) ∙ h

left_refused : (x y : Register) (w : Refusal) → is_empty (kind_of x) || is_empty (kind_of y) ≡ false
    → number_of w ≡ first_met (a_number (kind_of x)) → number_of w ≡ first_met (two_numbers (kind_of x) (kind_of y))
unfolding first_met
left_refused Empty y w f e = cc
left_refused (Number r s) y w f e = let z = sym (ap (λ (n : ℕ). eqb n 0) e) ∙ numbered w in cc
left_refused (Bits l s) Empty w f e = cc
left_refused (Bits l s) (Number q t) w f e = e
left_refused (Bits l s) (Bits k t) w f e = e

right_refused : (x y : Register) (r : Ring) (s : Sharing) (w : Refusal) → x ≡ Number r s → is_empty (kind_of x) || is_empty (kind_of y) ≡ false
    → number_of w ≡ first_met (a_number (kind_of y)) → number_of w ≡ first_met (two_numbers (kind_of x) (kind_of y))
unfolding first_met
right_refused x Empty r s w is f e = let z = sym f ∙ ap (λ (x : Register). is_empty (kind_of x) || true) is in cc
right_refused x (Number q t) r s w is f e = let z = sym (ap (λ (n : ℕ). eqb n 0) e) ∙ numbered w in cc
right_refused x (Bits k t) r s w is f e = rw is e

-- rings are told apart as their widths are
widths : (r q : Ring) → eqb (width_of r) (width_of q) ≡ sameb the_type r q
widths R13 R13 = refl
widths R13 R31 = refl
widths R13 R61 = refl
widths R31 R13 = refl
widths R31 R31 = refl
widths R31 R61 = refl
widths R61 R13 = refl
widths R61 R31 = refl
widths R61 R61 = refl

-- two numbers
ranked : (x y : Register) (r q : Ring) (s t : Sharing) {n b : Bool} → x ≡ Number r s → y ≡ Number q t
    → n ≡ not (sameb the_type r q) → n ≡ b → cond b 6 0 ≡ first_met (two_numbers (kind_of x) (kind_of y))
unfolding first_met
ranked x y r q s t left right is h = rw (left, right, widths r q, sym is, h)

pub returns-then-is_empty-clause-refusal : goal.returns-then-is_empty-clause-refusal
returns-then-is_empty-clause-refusal c = met 3 _ (search both)

pub returns-in_err-r-clause-refusal : goal.returns-in_err-r-clause-refusal
returns-in_err-r-clause-refusal c =
    passed_on _ _ c.from_residual.ensures.1 (left_refused c.args.x c.args.y _ (search both) c.in_err-r.ensures.refusal)

pub returns-in_err-q-clause-refusal : goal.returns-in_err-q-clause-refusal
returns-in_err-q-clause-refusal c =
    passed_on _ _ c.from_residual-in_err-q.ensures.1
    (right_refused c.args.x c.args.y _ _ _ c.in_ok-r.ensures.found (search both) c.in_err-q.ensures.refusal)

pub returns-then-ne-clause-refusal : goal.returns-then-ne-clause-refusal
returns-then-ne-clause-refusal c =
    ranked _ _ _ _ _ _ c.in_ok-r.ensures.found c.in_ok-q.ensures.found c.ne.ensures c.if-ne.true

pub returns-clause-refusal : goal.returns-clause-refusal
returns-clause-refusal c =
    ranked _ _ _ _ _ _ c.in_ok-r.ensures.found c.in_ok-q.ensures.found c.ne.ensures c.if-ne.false
