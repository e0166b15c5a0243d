-- Laws of places: what holds at one holds at each, by one statement; what the test of a sharing says.
use Prim.Native.Nat.{ℕ}
use mathlib.Core.Bool.{and-eq-true_iff, true}
use mathlib.Core.Path.{◌≡◌, fun_ext, refl}
use borrow.Author.Tests.{ltb-true}
use Rattle.gate.specs.Gates.{gated, word}
use Rattle.gate.specs.Places.{InRange, Place, held, p0, p1, p2, parts, shares_below, sharing, tabled}
use Rattle.gate.specs.declared.sharing.Sharing.{Sharing}

-- what holds at the three places holds at every place
pub each {ℓ} : (P : Place → Type ℓ) → P p0 → P p1 → P p2 → (i : Place) → P i
each P a b c p0 = a
each P a b c p1 = b
each P a b c p2 = c

pub tabled-at {ℓ} : {A : Type ℓ} (f : Place → A) (i : Place) → tabled f i ≡ f i
tabled-at f p0 = refl
tabled-at f p1 = refl
tabled-at f p2 = refl

pub tabled_is {ℓ} : {A : Type ℓ} (f : Place → A) → tabled f ≡ f
tabled_is f = fun_ext (tabled-at f)

pub gated-at : (m : ℕ) (x y t : Place → ℕ) (i : Place) → gated m x y t i ≡ word m (held x i) (held y i) (held t i)
unfolding gated
gated-at m x y t i = tabled-at (λ j. word m (held x j) (held y j) (held t j)) i

-- what the test of a sharing says
pub in_range : {m : ℕ} {x : Sharing} → shares_below m x ≡ true → InRange m x
in_range h =
    let first = (and-eq-true_iff _ _).0 h in
    let rest = (and-eq-true_iff _ _).0 first.1 in
    record { zero = ltb-true _ _ first.0; one = ltb-true _ _ rest.0; two = ltb-true _ _ rest.1 }

-- a sharing and its sub-shares by place
pub parts-sharing : (x : Place → ℕ) → parts (sharing x) ≡ x
parts-sharing x = tabled_is x
