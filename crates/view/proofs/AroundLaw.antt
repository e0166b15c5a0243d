-- Places seen from one party.
use mathlib.Core.Path.{◌≡◌, refl}
use Rattle.gate.specs.Places.{Place, next, p0, p1, p2}
use Rattle.gate.proofs.PlaceLaw.{each}
use Rattle.view.specs.Views.{around, lacked_by}

-- what holds at U, after U and where U lacks holds at every place
pub each_around {ℓ} : (U : Place) (P : Place → Type ℓ) → P U → P (next U) → P (lacked_by U) → (i : Place) → P i
each_around p0 P a b c = each P a b c
each_around p1 P a b c = each P c a b
each_around p2 P a b c = each P b c a

-- what stands at U, after U and where U lacks
pub around-own {ℓ} : {A : Type ℓ} (U : Place) (a b c : A) → around U a b c U ≡ a
around-own p0 a b c = refl
around-own p1 a b c = refl
around-own p2 a b c = refl

pub around-far {ℓ} : {A : Type ℓ} (U : Place) (a b c : A) → around U a b c (next U) ≡ b
around-far p0 a b c = refl
around-far p1 a b c = refl
around-far p2 a b c = refl

pub around_lacked {ℓ} : {A : Type ℓ} (U : Place) (a b c : A) → around U a b c (lacked_by U) ≡ c
around_lacked p0 a b c = refl
around_lacked p1 a b c = refl
around_lacked p2 a b c = refl
