-- Data on a level: the same in all that is public. Alike acts keep it so.
use Prim.Native.Nat.{ℕ, suc}
use mathlib.Core.List.{List, [], ◌∷◌}
use mathlib.Core.Path.{◌≡◌, ap, refl}
use lib.ListN.{drop, length}
use Rattle.gate.specs.Places.{Place}
use Rattle.circuit.specs.Circuits.{Gate}
use Rattle.view.specs.Views.{decode}
use Rattle.act.specs.Acts.{Act}
use Rattle.act.specs.Lawful.{AlikeActs, AlikeWork, Sameness}
use Rattle.act.specs.Lawful as lawful
use Rattle.act.specs.Works.{Public, Shared, Work, public_after}

-- with channels of the same lengths
pub record Level {E D : Type 0} (m n : Shared E D) (c d : Place → List ℕ) : Type 0 where
  pub public : m.public ≡ n.public
  pub lengths : (i : Place) → length (c i) ≡ length (d i)

module _ {E D : Type 0} where
  -- alike acts do alike work
  pub works_alike : {Same : Sameness E D} {a b : Act E D} {p q : Public E} → AlikeActs Same a b → p ≡ q → AlikeWork (a.work p) (b.work q)
  works_alike {Same} {a} {b} {p} {q} alike e = rw e (alike.works q)

  -- what is public afterwards does not go by a number dealt
  pub after-alike : {w w' : Work E D} (p : Public E) → AlikeWork w w' → public_after w p ≡ public_after w' p
  after-alike p lawful.same = refl
  after-alike p lawful.number = refl

-- as many items are decoded as are taken
pub length-decode : {S : Type 0} (U : Place) (G : List (Gate S)) (s : Place → S) (t t' W : List ℕ)
    → length (decode U G s t t' W) ≡ length G
unfolding decode
length-decode U [] s t t' W = refl
length-decode U (g ∷ G) s t t' W = ap suc (length-decode U G _ (drop 1 t) (drop 1 t') (drop 1 W))
