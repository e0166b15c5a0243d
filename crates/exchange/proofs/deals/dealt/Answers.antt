-- A deal's own checks, one after another.
use Prim.Native.Nat.{ℕ}
use mathlib.Core.Bool.{Bool, ◌||◌}
use mathlib.Core.List.{[]}
use mathlib.Core.Path.{◌≡◌, ap, ap₂, sym, ◌∙◌}
use borrow.Author.Tests.{le-leb, lt-leb}
use lib.Dec.{leb}
use lib.ListN.{drop, length}
use Rattle.machine.specs.Checks.{no_ring}
use Rattle.order.proofs.CheckLaw.{all_passed, fine_first, met, passed, passed_on, refused-first}
use Rattle.order.proofs.PrepareLaw.{parsed, unparsed}
use Rattle.exchange.specs.Exchanges.{tape_checks}
use Rattle.exchange.proofs.DealLaw.{dealt_number, in_ring}
use Rattle.exchange.proofs.deals.dealt.Goals as goal

pub returns-in_err-r-clause-refusal : goal.returns-in_err-r-clause-refusal
returns-in_err-r-clause-refusal c =
    let none = unparsed c.of_width.result _ _ (sym c.ok_or.ensures.value ∙ c.in_err-r.was) in
    passed_on _ _ c.from_residual.ensures.1 (rw none.1 (met 5 _ (ap no_ring (sym c.of_width.ensures ∙ none.0))))

pub returns-then-p-v-clause-refusal : goal.returns-then-p-v-clause-refusal
returns-then-p-v-clause-refusal c =
    let a = c.args in
    let some = sym c.of_width.ensures ∙ parsed c.of_width.result _ (sym c.ok_or.ensures.value ∙ c.in_ok-r.was) in
    in_ring a.at a.e a.v (length a.dealer.now) (drop a.at a.dealer.now) some c.modulus-p.ensures (met 7 _ (le-leb _ a.v c.if-p-v.true))

pub returns-in_err-r0-clause-refusal : goal.returns-in_err-r0-clause-refusal
returns-in_err-r0-clause-refusal c =
    let a = c.args in
    let some = sym c.of_width.ensures ∙ parsed c.of_width.result _ (sym c.ok_or.ensures.value ∙ c.in_ok-r.was) in
    passed_on _ _ c.from_residual-in_err-r0.ensures.1
    (in_ring a.at a.e a.v (length a.dealer.now) (drop a.at a.dealer.now) some c.modulus-p.ensures
    (passed 7 _ (lt-leb _ a.v c.if-p-v.false) (refused-first (tape_checks (length a.dealer.now) a.at) _ tt _ c.in_err-r0.ensures.refusal)))

-- the two items of the tape against p
items_are : (p : ℕ) {r₀ r₁ i j : ℕ} {b : Bool} → r₀ ≡ i → r₁ ≡ j → leb p r₀ || leb p r₁ ≡ b → leb p i || leb p j ≡ b
items_are p e f h = sym (ap₂ (λ (i j : ℕ). leb p i || leb p j) e f) ∙ h

pub returns-then-p-r0-clause-refusal : goal.returns-then-p-r0-clause-refusal
returns-then-p-r0-clause-refusal c =
    let a = c.args in
    let some = sym c.of_width.ensures ∙ parsed c.of_width.result _ (sym c.ok_or.ensures.value ∙ c.in_ok-r.was) in
    in_ring a.at a.e a.v (length a.dealer.now) (drop a.at a.dealer.now) some c.modulus-p.ensures
    (passed 7 _ (lt-leb _ a.v c.if-p-v.false)
    (fine_first (tape_checks (length a.dealer.now) a.at) _ tt c.in_ok-r0.ensures.refusal
    (met 10 [] (items_are c.modulus-p.result c.in_ok-r0.ensures.found.0 c.in_ok-r0.ensures.found.1 c.if-p-r0.true))))

pub returns-clause-refusal : goal.returns-clause-refusal
returns-clause-refusal c =
    let a = c.args in
    let some = sym c.of_width.ensures ∙ parsed c.of_width.result _ (sym c.ok_or.ensures.value ∙ c.in_ok-r.was) in
    in_ring a.at a.e a.v (length a.dealer.now) (drop a.at a.dealer.now) some c.modulus-p.ensures
    (passed 7 _ (lt-leb _ a.v c.if-p-v.false)
    (fine_first (tape_checks (length a.dealer.now) a.at) _ tt c.in_ok-r0.ensures.refusal
    (all_passed 10 (items_are c.modulus-p.result c.in_ok-r0.ensures.found.0 c.in_ok-r0.ensures.found.1 c.if-p-r0.false))))

pub returns-clause-left : goal.returns-clause-left
returns-clause-left c =
    let a = c.args in
    let some = sym c.of_width.ensures ∙ parsed c.of_width.result _ (sym c.ok_or.ensures.value ∙ c.in_ok-r.was) in
    c.shared.ensures ∙ rw (c.in_ok-r0.ensures.found.0, c.in_ok-r0.ensures.found.1) (dealt_number a.e a.v _ _ some)
