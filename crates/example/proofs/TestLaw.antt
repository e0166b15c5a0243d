-- Tests that compute: what a closed job and closed tapes must pass to be a run, and a fair one.
use Prim.Native.Nat.{ℕ, zero, suc, ◌*◌, ◌<◌, ◌^◌}
use mathlib.Core.Bool.{Bool, and-eq-true_iff, not, true, ◌&&◌}
use mathlib.Core.List.{List, [], ◌∷◌}
use mathlib.Core.Path.{◌≡◌, refl}
use native.Mathlib.Omega.{arith}
use borrow.Author.Tests.{eqb-false, ltb-true, not-true}
use lib.Dec.{eqb, ltb}
use lib.ListN.{get_or, length}
use Rattle.ring.specs.Rings.{modulus}
use Rattle.gate.specs.Places.{Place}
use Rattle.machine.specs.Checks.{Tapes}
use Rattle.machine.specs.Registers.{kind_at, public_of, register_at, width_at}
use Rattle.machine.specs.Step.{value_of}
use Rattle.machine.specs.declared.orders.Order.{Order}
use Rattle.machine.specs.declared.orders.Order.TheVariants.{Add, Compose, Convert, Deal, Decompose, Multiply, Open, Scale, Shift}
use Rattle.machine.specs.declared.registers.Machine.{Machine}
use Rattle.act.specs.Jobs.{Entry, FairFrom, Words, outcome}
use Rattle.act.specs.Jobs as jobs
use Rattle.protocol.specs.Orders.{RefusedNumber, TakesSmall, converted, decomposed, orders, seven, shifted}

-- words of 64 bits
unfoldable pub all_words : List ℕ → Bool
all_words [] = true
all_words (w ∷ ws) = ltb w (2 ^ 64) && all_words ws

below : (l : List ℕ) → all_words l ≡ true → (k : ℕ) → k < length l → get_or l k 0 < 2 ^ 64
unfolding all_words
below [] t k h = absurd (omega arith)
below (w ∷ ws) t zero h = ltb-true w (2 ^ 64) ((and-eq-true_iff _ _).0 t).0
below (w ∷ ws) t (suc k) h = below ws ((and-eq-true_iff (ltb w (2 ^ 64)) (all_words ws)).0 t).1 k (omega arith)

pub words_of : (l : List ℕ) → all_words l ≡ true → Words (length l) l
words_of l t = record { long = refl; below = below l t }

-- the number that an order decomposes, converts or shifts is small
abbrev small : ℕ → Machine → Bool
small x m = ltb (4 * value_of (register_at m x)) (modulus (width_at (kind_at (public_of m) x)))

abbrev takes_small : Order → Machine → Bool
takes_small (Deal d e v) m = true
takes_small (Add d x y) m = true
takes_small (Scale d x c) m = true
takes_small (Multiply d x y) m = true
takes_small (Decompose d x l) m = small x m
takes_small (Convert d x f) m = small x m
takes_small (Shift d x s) m = small x m
takes_small (Compose d x f) m = true
takes_small (Open x) m = true

small_of : (o : Order) (m : Machine) → takes_small o m ≡ true → TakesSmall o m
small_of (Deal d e v) m t y lifts = elim lifts [ ]
small_of (Add d x y) m t z lifts = elim lifts [ ]
small_of (Scale d x c) m t y lifts = elim lifts [ ]
small_of (Multiply d x y) m t z lifts = elim lifts [ ]
small_of (Compose d x f) m t y lifts = elim lifts [ ]
small_of (Open x) m t y lifts = elim lifts [ ]
small_of (Decompose d x l) m t y decomposed = ltb-true _ _ t
small_of (Convert d x f) m t y converted = ltb-true _ _ t
small_of (Shift d x s) m t y shifted = ltb-true _ _ t

not_number : {o : Order} {r : ℕ} → (r ≡ 7 → ⊥) → RefusedNumber o r → ⊥
not_number h seven = h refl

unlike : (r n : ℕ) → not (eqb r n) ≡ true → r ≡ n → ⊥
unlike r n t = eqb-false r n (not-true (eqb r n) t)

-- no order is refused with 7 or 10, and the numbers are small, also where an order is refused
unfoldable pub fairly : List (Entry orders) → Machine → (Place → List ℕ) → Tapes → Bool
fairly [] m c first_tapes = true
fairly (e ∷ es) m c first_tapes =
    let o = outcome e m first_tapes c in
    not (eqb o.refusal 7)
    && (not (eqb o.refusal 10) && (takes_small e.act m && fairly es o.state o.channels first_tapes))

pub fair_of : (es : List (Entry orders)) (m : Machine) (c : Place → List ℕ) (first_tapes : Tapes) → fairly es m c first_tapes ≡ true → FairFrom es m c first_tapes
unfolding fairly
fair_of [] m c first_tapes t = jobs.FairFrom.done
fair_of (e ∷ es) m c first_tapes t =
    let o = outcome e m first_tapes c in
    let not-seven = (and-eq-true_iff (not (eqb o.refusal 7)) _).0 t in
    let ten = (and-eq-true_iff (not (eqb o.refusal 10)) _).0 not-seven.1 in
    let rest = (and-eq-true_iff (takes_small e.act m) _).0 ten.1 in
    jobs.FairFrom.fair
    (record {
      number = not_number (unlike o.refusal 7 not-seven.0);
      item = unlike o.refusal 10 ten.0;
      small = λ z. small_of e.act m rest.0;
    })
    (fair_of es o.state o.channels first_tapes rest.1)
