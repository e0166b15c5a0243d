-- How lists of gates run: one after another, in range, and as images of each other.
use Prim.Native.Nat.{ℕ, zero, suc, ◌<◌}
use mathlib.Core.List.{List, [], ◌∷◌, ◌++◌}
use mathlib.Core.Path.{◌≡◌, ap, ap₂, fun_ext, refl, sym, ◌∙◌}
use native.Mathlib.Numerals.{one-add}
use native.Mathlib.Omega.{arith}
use lib.ListN.{drop, length, length-append}
use lib.Seq.{drop-drop}
use Rattle.gate.specs.Places.{Below, Place, tabled}
use Rattle.gate.proofs.PlaceLaw.{tabled-at}
use Rattle.gate.proofs.Theorems.{words_fit}
pub use Rattle.circuit.specs.Loans.{drops}
use Rattle.circuit.specs.Circuits.{Gate, after, ends, heads, sent, tails, upto, words}

drops-tails : (n : ℕ) (T : Place → List ℕ) → drops n (tails T) ≡ drops (suc n) T
drops-tails n T = fun_ext (λ i. ap (drop n) (tabled-at (λ j. drop 1 (T j)) i) ∙ drop-drop n 1 (T i) ∙ ap (λ (k : ℕ). drop k (T i)) (one-add n))

-- one gate, with its items
unfoldable pub step : {S : Type 0} → Gate S → (Place → S) → (Place → ℕ) → Place → S
step g s t = after g s (words g s t)

module _ {S : Type 0} where
  -- two lists of gates, one after the other
  pub ends-append : (G H : List (Gate S)) (s : Place → S) (T : Place → List ℕ)
      → ends (G ++ H) s T ≡ ends H (ends G s T) (drops (length G) T)
  unfolding ends
  ends-append [] H s T = refl
  ends-append (g ∷ G) H s T =
      ends-append G H (after g s (words g s (heads T))) (tails T)
      ∙ ap (λ U. ends H (ends G (after g s (words g s (heads T))) (tails T)) U) (drops-tails (length G) T)

  pub sent-append : (G H : List (Gate S)) (s : Place → S) (T : Place → List ℕ) (i : Place)
      → sent (G ++ H) s T i ≡ sent G s T i ++ sent H (ends G s T) (drops (length G) T) i
  unfolding sent ends
  sent-append [] H s T i = refl
  sent-append (g ∷ G) H s T i =
      let s' = after g s (words g s (heads T)) in
      ap (λ ws. words g s (heads T) i ∷ ws)
      (sent-append G H s' (tails T) i
      ∙ ap (λ U. sent G s' (tails T) i ++ sent H (ends G s' (tails T)) U i) (drops-tails (length G) T))

  -- as many words as gates
  pub length-sent : (G : List (Gate S)) (s : Place → S) (T : Place → List ℕ) (i : Place) → length (sent G s T i) ≡ length G
  unfolding sent
  length-sent [] s T i = refl
  length-sent (g ∷ G) s T i = ap suc (length-sent G (after g s (words g s (heads T))) (tails T) i)

  pub length-upto : (g : ℕ → Gate S) (k : ℕ) → length (upto g k) ≡ k
  unfolding upto
  length-upto g zero = refl
  length-upto g (suc k) = length-append (upto g k) (g k ∷ []) ∙ omega (arith, length-upto g k)

  -- what each gate keeps, whatever its items, the list keeps
  pub upto_keeps : (P : ℕ → (Place → S) → Type 0) (g : ℕ → Gate S) (m : ℕ)
      → ((k : ℕ) (s : Place → S) (t : Place → ℕ) → k < m → P k s → P (suc k) (step (g k) s t))
      → (s : Place → S) (T : Place → List ℕ) → P 0 s → P m (ends (upto g m) s T)
  unfolding upto ends step
  upto_keeps P g zero keep s T base = base
  upto_keeps P g (suc m) keep s T base =
      rw (ends-append (upto g m) (g m ∷ []) s T)
      (keep m (ends (upto g m) s T) (heads (drops (length (upto g m)) T)) (omega arith)
      (upto_keeps P g m (λ k s' t h. keep k s' t (omega arith)) s T base))

  -- every word is below its gate's modulus
  pub words_below : (g : Gate S) → 0 < g.modulus → (s : Place → S) (t : Place → ℕ) → Below g.modulus (words g s t)
  unfolding words
  words_below g h s t = words_fit g.modulus h (tabled (λ i. g.left i (s i))) (tabled (λ i. g.right i (s i))) t

-- an image of a gate over other states: it sends the same words, by what f keeps of each state
pub record Image {S R : Type 0} (f : Place → S → R) (g : Gate S) (h : Gate R) : Type 0 where
  pub modulus : g.modulus ≡ h.modulus
  pub left : (i : Place) (s : S) → g.left i s ≡ h.left i (f i s)
  pub right : (i : Place) (s : S) → g.right i s ≡ h.right i (f i s)
  pub absorb : (i : Place) (s : S) (z : ℕ) → f i (g.absorb i s z) ≡ h.absorb i (f i s) z

pub data Images {S R : Type 0} (f : Place → S → R) : List (Gate S) → List (Gate R) → Type 0 where
  none : Images f [] []
  more : {g : Gate S} {h : Gate R} {G : List (Gate S)} {H : List (Gate R)} → Image f g h → Images f G H → Images f (g ∷ G) (h ∷ H)

module _ {S R : Type 0} (f : Place → S → R) where
  abbrev pub mapped : (Place → S) → Place → R
  mapped s i = f i (s i)

  pub images_append : {G G' : List (Gate S)} {H H' : List (Gate R)} → Images f G H → Images f G' H' → Images f (G ++ G') (H ++ H')
  images_append none js = js
  images_append (more e is) js = more e (images_append is js)

  words-image : {g : Gate S} {h : Gate R} → Image f g h → (s : Place → S) (t : Place → ℕ) → words g s t ≡ words h (mapped s) t
  unfolding words
  words-image {g} {h} e s t =
      let lefts : tabled (λ i. g.left i (s i)) ≡ tabled (λ i. h.left i (f i (s i)))
      = ap tabled (fun_ext (λ i. e.left i (s i))) in
      let rights : tabled (λ i. g.right i (s i)) ≡ tabled (λ i. h.right i (f i (s i)))
      = ap tabled (fun_ext (λ i. e.right i (s i))) in
      rw (e.modulus, lefts, rights)

  after-image : {g : Gate S} {h : Gate R} → Image f g h → (s : Place → S) (z : Place → ℕ)
      → mapped (after g s z) ≡ after h (mapped s) z
  unfolding after
  after-image {g} {h} e s z =
      fun_ext (λ i.
      ap (f i) (tabled-at (λ j. g.absorb j (s j) (z j)) i)
      ∙ e.absorb i (s i) (z i)
      ∙ sym (tabled-at (λ j. h.absorb j (f j (s j)) (z j)) i))

  step-image : {g : Gate S} {h : Gate R} → Image f g h → (s : Place → S) (t : Place → ℕ)
      → mapped (after g s (words g s t)) ≡ after h (mapped s) (words h (mapped s) t)
  step-image {g} {h} e s t = after-image e s (words g s t) ∙ ap (after h (mapped s)) (words-image e s t)

  pub ends-image : {G : List (Gate S)} {H : List (Gate R)} → Images f G H → (s : Place → S) (T : Place → List ℕ)
      → mapped (ends G s T) ≡ ends H (mapped s) T
  unfolding ends
  ends-image none s T = refl
  ends-image (more {g = g} {h = h} {G = G} {H = H} e is) s T =
      ends-image is (after g s (words g s (heads T))) (tails T)
      ∙ ap (λ r. ends H r (tails T)) (step-image e s (heads T))

  pub sent-image : {G : List (Gate S)} {H : List (Gate R)} → Images f G H → (s : Place → S) (T : Place → List ℕ) (i : Place)
      → sent G s T i ≡ sent H (mapped s) T i
  unfolding sent
  sent-image none s T i = refl
  sent-image (more {g = g} {h = h} {G = G} {H = H} e is) s T i =
      ap₂ ◌∷◌
      (ap (λ w. w i) (words-image e s (heads T)))
      (sent-image is (after g s (words g s (heads T))) (tails T) i ∙ ap (λ r. sent H r (tails T) i) (step-image e s (heads T)))
