-- Words of 64 bits and their lanes: what the lanes say determines the words.
use Prim.Native.Nat.{ℕ, zero, suc, ◌+◌, ◌<◌, ◌^◌}
use mathlib.Core.List.{List, [], ◌∷◌, ◌++◌, map-append}
use mathlib.Core.Path.{◌≡◌, ap, ap₂, refl, sym, ◌∙◌}
use native.Mathlib.Nat.{mod-eq_of_lt}
use native.Mathlib.Omega.{arith}
use borrow.Author.Count.{below_more}
use lib.ListN.{get_or-append, get_or-map, drop, get_or, length, length-append, length-drop, length-map, take}
use lib.Seq.{ext_get_or, get_or_at, get_or-drop}
use Rattle.ring.specs.Rings.{bit_of}
use Rattle.circuit.specs.Bits.{gather}
use Rattle.circuit.proofs.BitsLaw.{bit_lt, bit_none, gather-at, gather-bits, gather-lt, gather_same}
use Rattle.lanes.specs.Lanes.{count, lane, listed, woven}

pub length-listed : (n : ℕ) (f : ℕ → ℕ) → length (listed n f) ≡ n
unfolding listed
length-listed zero f = refl
length-listed (suc n) f = length-append (listed n f) (f n ∷ []) ∙ omega (arith, length-listed n f)

pub get_or-listed : (n : ℕ) (f : ℕ → ℕ) (k : ℕ) → k < n → get_or (listed n f) k 0 ≡ f k
unfolding listed
get_or-listed zero f k h = absurd (omega arith)
get_or-listed (suc n) f k h =
    below_more (λ (j : ℕ). get_or (listed n f ++ (f n ∷ [])) j 0 ≡ f j) n
    (λ j inside. get_or-append (listed n f) (f n ∷ []) 0 j (omega (arith, length-listed n f)) ∙ get_or-listed n f j inside)
    (get_or_at (listed n f) (f n) [] 0 n (length-listed n f)) k (omega arith)

-- a list is told by its length and its items
pub listed_is : (n : ℕ) (f : ℕ → ℕ) (z : List ℕ) → length z ≡ n → ((k : ℕ) → k < n → get_or z k 0 ≡ f k) → z ≡ listed n f
listed_is n f z long same =
    ext_get_or 0 z (listed n f) (long ∙ sym (length-listed n f))
    (λ k h. let inside : k < n = omega arith in same k inside ∙ sym (get_or-listed n f k inside))

pub listed_same : (n : ℕ) {f g : ℕ → ℕ} → ((k : ℕ) → k < n → f k ≡ g k) → listed n f ≡ listed n g
listed_same n {f} {g} same =
    listed_is n g (listed n f) (length-listed n f) (λ k h. get_or-listed n f k h ∙ same k h)

-- equal bits, equal words
pub words_equal : {v w : ℕ} → v < 2 ^ 64 → w < 2 ^ 64 → ((k : ℕ) → k < 64 → bit_of v k ≡ bit_of w k) → v ≡ w
words_equal {v} {w} hv hw same =
    sym (gather-bits 64 v ∙ mod-eq_of_lt hv) ∙ gather_same 64 same ∙ gather-bits 64 w ∙ mod-eq_of_lt hw

pub get_or-lane : (k : ℕ) (l : List ℕ) (g : ℕ) → get_or (lane k l) g 0 ≡ bit_of (get_or l g 0) k
get_or-lane k l g = ap (get_or (lane k l) g) (sym (bit_none k)) ∙ get_or-map (λ w. bit_of w k) l g 0

pub length-lane : (k : ℕ) (l : List ℕ) → length (lane k l) ≡ length l
length-lane k l = length-map l (λ w. bit_of w k)

pub lane-append : (k : ℕ) (a b : List ℕ) → lane k (a ++ b) ≡ lane k a ++ lane k b
lane-append k a b = map-append (λ w. bit_of w k) a b

pub lane-drop : (k n : ℕ) (l : List ℕ) → lane k (drop n l) ≡ drop n (lane k l)
lane-drop k zero l = refl
lane-drop k (suc n) [] = refl
lane-drop k (suc n) (x ∷ l) = lane-drop k n l

pub lane-take : (k n : ℕ) (l : List ℕ) → lane k (take n l) ≡ take n (lane k l)
lane-take k zero l = refl
lane-take k (suc n) [] = refl
lane-take k (suc n) (x ∷ l) = ap (λ (m : List ℕ). bit_of x k ∷ m) (lane-take k n l)

-- n bits
pub record Bits (n : ℕ) (l : List ℕ) : Type 0 where
  pub long : length l ≡ n
  pub below : (g : ℕ) → get_or l g 0 < 2

pub lane-bits : (k : ℕ) (l : List ℕ) → Bits (length l) (lane k l)
lane-bits k l = record { long = length-lane k l; below = λ g. rw (get_or-lane k l g) (bit_lt (get_or l g 0) k) }

-- words of 64 bits
abbrev pub Small : List ℕ → Type 0
Small l = (k : ℕ) → k < length l → get_or l k 0 < 2 ^ 64

-- the lengths are equal since those of lanes 0 are
pub lanes_determine : (d d' : List ℕ) → Small d → Small d' → ((k : ℕ) → k < count → lane k d ≡ lane k d') → d ≡ d'
lanes_determine d d' small small' same =
    let long : length d ≡ length d' = sym (length-lane 0 d) ∙ ap length (same 0 (omega arith)) ∙ length-lane 0 d' in
    ext_get_or 0 d d' long
    (λ g h.
    words_equal (small g h) (small' g (omega arith))
    (λ k inside. sym (get_or-lane k d g) ∙ ap (λ (l : List ℕ). get_or l g 0) (same k inside) ∙ get_or-lane k d' g))

pub small-append : (a b : List ℕ) → Small a → Small b → Small (a ++ b)
small-append [] b p q k h = q k h
small-append (x ∷ a) b p q zero h = p zero (omega arith)
small-append (x ∷ a) b p q (suc k) h = small-append a b (λ j i. p (suc j) (omega arith)) q k (omega arith)

pub small-drop : (n : ℕ) (l : List ℕ) → Small l → Small (drop n l)
small-drop n l p k h = rw (get_or-drop n l k 0) (p (n + k) (omega (arith, length-drop n l)))

pub length-woven : (n : ℕ) (f : ℕ → List ℕ) → length (woven n f) ≡ n
unfolding woven
length-woven n f = length-listed n (λ g. gather count (λ k. get_or (f k) g 0))

pub woven_same : (n : ℕ) {f f' : ℕ → List ℕ} → ((k : ℕ) → k < count → f k ≡ f' k) → woven n f ≡ woven n f'
unfolding woven
woven_same n same = listed_same n (λ g h. gather_same count (λ k inside. ap (λ (l : List ℕ). get_or l g 0) (same k inside)))

module _ (n : ℕ) (f : ℕ → List ℕ) (bits : (k : ℕ) → Bits n (f k)) where
  get_or-woven : (g : ℕ) → g < n → get_or (woven n f) g 0 ≡ gather count (λ k. get_or (f k) g 0)
  unfolding woven
  get_or-woven g h = get_or-listed n (λ i. gather count (λ k. get_or (f k) i 0)) g h

  pub small-woven : Small (woven n f)
  small-woven g h =
      let inside : g < n = omega (arith, length-woven n f) in
      rw (get_or-woven g inside) (gather-lt count (λ k. get_or (f k) g 0) (λ k. (bits k).below g))

  pub lane-woven : (k : ℕ) → k < count → lane k (woven n f) ≡ f k
  lane-woven k h =
      let long : length (lane k (woven n f)) ≡ n = length-lane k (woven n f) ∙ length-woven n f in
      ext_get_or 0 (lane k (woven n f)) (f k) (long ∙ sym (bits k).long)
      (λ g i.
      let inside : g < n = omega arith in
      get_or-lane k (woven n f) g
      ∙ ap (λ (w : ℕ). bit_of w k) (get_or-woven g inside)
      ∙ gather-at count (λ j. get_or (f j) g 0) (λ j. (bits j).below g) k h)

  pub lane-written : (c : List ℕ) (k : ℕ) → k < count → lane k (woven n f ++ drop n c) ≡ f k ++ drop n (lane k c)
  lane-written c k h = lane-append k (woven n f) (drop n c) ∙ ap₂ ◌++◌ (lane-woven k h) (lane-drop k n c)

  pub small-written : (c : List ℕ) → Small c → Small (woven n f ++ drop n c)
  small-written c small = small-append (woven n f) (drop n c) small-woven (small-drop n c small)

  -- a run that has those bits, and past them those of another, lane by lane
  pub woven_is : (d c : List ℕ) → Small d → Small c → ((k : ℕ) → k < count → lane k d ≡ f k ++ drop n (lane k c))
      → d ≡ woven n f ++ drop n c
  woven_is d c small small' same =
      lanes_determine d (woven n f ++ drop n c) small (small-written c small') (λ k h. same k h ∙ sym (lane-written c k h))
