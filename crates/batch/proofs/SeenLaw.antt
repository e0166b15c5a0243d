-- What U sees of a circuit on 64 figures: the same where it has the same and receives the same.
use Prim.Native.Nat.{ℕ, ◌<◌}
use mathlib.Core.List.{List}
use mathlib.Core.Path.{◌≡◌, ap, ap₂, fun_ext, refl, sym, ◌∙◌}
use native.Mathlib.Nat.{le_refl}
use lib.ListN.{get_or, take}
use lib.Seq.{take-take}
use Rattle.gate.specs.Places.{Place, next, p0, p1, p2}
use Rattle.gate.proofs.PlaceLaw.{each, tabled-at}
use Rattle.circuit.specs.Circuits.{Circuit, channelled, ends, gates_of, result, sent}
use Rattle.view.specs.Views.{Held, around, encode, held_states, own_ends, own_sent}
use Rattle.view.proofs.AroundLaw.{around-far, around-own}
use Rattle.view.proofs.Theorems.{ends-local, sent-local}
use Rattle.act.proofs.PrefixLaw.{sent_prefix}
use Rattle.lanes.specs.Lanes.{count, figure, lane, lanes, results, words_sent}
use Rattle.batch.specs.Secrecy.{Alike}
use Rattle.batch.proofs.ChangeLaw.{begun, received}
use Rattle.lanes.proofs.LaneLaw.{lane-take, listed_same, woven_same}

pub around-map : {A B : Type 0} (f : A → B) (U : Place) (x y z : A) (i : Place) → f (around U x y z i) ≡ around U (f x) (f y) (f z) i
around-map f p0 x y z = each (λ i. f (around p0 x y z i) ≡ around p0 (f x) (f y) (f z) i) refl refl refl
around-map f p1 x y z = each (λ i. f (around p1 x y z i) ≡ around p1 (f x) (f y) (f z) i) refl refl refl
around-map f p2 x y z = each (λ i. f (around p2 x y z i) ≡ around p2 (f x) (f y) (f z) i) refl refl refl

module _ (C : Circuit) (U : Place) (own far : List ℕ) where
  abbrev tapes : List ℕ → ℕ → Place → List ℕ
  tapes M k = lanes k (around U own far M)

  tapes_are : (M : List ℕ) (k : ℕ) → tapes M k ≡ around U (lane k own) (lane k far) (lane k M)
  tapes_are M k = fun_ext (λ i. tabled-at (λ j. lane k (around U own far M j)) i ∙ around-map (lane k) U own far M i)

  received_is : (a : Place → List ℕ) (M : List ℕ) (k : ℕ)
      → sent C.gates (begun C a k) (tapes M k) (next U) ≡ received C U own far a M k
  unfolding encode
  received_is a M k =
      let n = gates_of C in
      let x = lane k own in
      let y = lane k far in
      ap (λ T. sent C.gates (begun C a k) T (next U)) (tapes_are M k)
      ∙ sent_prefix C.gates (begun C a k) (around U x y (lane k M)) (around U x y (lane k (take n M)))
      (λ i.
      around-map (take n) U x y (lane k M) i
      ∙ ap (λ (l : List ℕ). around U (take n x) (take n y) l i)
      (sym (ap (take n) (lane-take k n M) ∙ take-take n n (lane k M) (le_refl n)))
      ∙ sym (around-map (take n) U x y (lane k (take n M)) i))
      (next U)

  begun-at : (a : Place → List ℕ) (k : ℕ) (i : Place) → begun C a k i ≡ C.start (get_or (a i) k 0) (get_or (a i) k 0)
  begun-at a k i =
      tabled-at (λ j. C.start (figure a k j) (figure a k j)) i
      ∙ ap (λ (x : ℕ). C.start x x) (tabled-at (λ j. get_or (a j) k 0) i)

  -- U's states of figure k at the start, from its two runs of sub-shares
  abbrev held_from : (x y : List ℕ) → ℕ → Held C.State
  held_from x y k = record { own = C.start (get_or x k 0) (get_or x k 0); far = C.start (get_or y k 0) (get_or y k 0) }

  held_is : (a : Place → List ℕ) (k : ℕ) → held_states U (begun C a k) ≡ held_from (a U) (a (next U)) k
  held_is a k = ap₂ both (begun-at a k U) (begun-at a k (next U))
    where
      both : C.State → C.State → Held C.State
      both x y = record { own = x; far = y }

  -- what U sends of figure k and its states at the end, from what it has and receives
  abbrev own_words : (x y W : List ℕ) → ℕ → List ℕ
  own_words x y W k = own_sent U C.gates (held_from x y k) (lane k own) (lane k far) W

  abbrev own_states : (x y W : List ℕ) → ℕ → Held C.State
  own_states x y W k = own_ends U C.gates (held_from x y k) (lane k own) (lane k far) W

  module _ (a : Place → List ℕ) (M : List ℕ) (k : ℕ) where
    tape-own : tapes M k U ≡ lane k own
    tape-own = ap (λ T. T U) (tapes_are M k) ∙ around-own U (lane k own) (lane k far) (lane k M)

    tape-far : tapes M k (next U) ≡ lane k far
    tape-far = ap (λ T. T (next U)) (tapes_are M k) ∙ around-far U (lane k own) (lane k far) (lane k M)

    sends_is : sent C.gates (begun C a k) (tapes M k) U ≡ own_words (a U) (a (next U)) (received C U own far a M k) k
    sends_is =
        sent-local C.State U C.gates (begun C a k) (tapes M k)
        ∙ (rw (held_is a k, tape-own, tape-far, received_is a M k))

    ends_are : held_states U (ends C.gates (begun C a k) (tapes M k)) ≡ own_states (a U) (a (next U)) (received C U own far a M k) k
    ends_are =
        ends-local C.State U C.gates (begun C a k) (tapes M k)
        ∙ (rw (held_is a k, tape-own, tape-far, received_is a M k))

    result-at : (i : Place) → result C (figure a k) (figure a k) (tapes M k) i ≡ C.finish i (ends C.gates (begun C a k) (tapes M k) i)
    unfolding result
    result-at i = tabled-at (λ j. C.finish j (ends C.gates (begun C a k) (tapes M k) j)) i

    own-result : result C (figure a k) (figure a k) (tapes M k) U
        ≡ C.finish U (own_states (a U) (a (next U)) (received C U own far a M k) k).own
    own-result = result-at U ∙ ap (λ (h : Held C.State). C.finish U h.own) ends_are

    far-result : result C (figure a k) (figure a k) (tapes M k) (next U)
        ≡ C.finish (next U) (own_states (a U) (a (next U)) (received C U own far a M k) k).far
    far-result = result-at (next U) ∙ ap (λ (h : Held C.State). C.finish (next U) h.far) ends_are

  module _ (a b : Place → List ℕ) (alike : Alike U a b) (M M' : List ℕ)
      (same : (k : ℕ) → k < count → received C U own far b M' k ≡ received C U own far a M k) where
    pub sends_same : words_sent C a (around U own far M) U ≡ words_sent C b (around U own far M') U
    unfolding words_sent channelled
    sends_same = woven_same (gates_of C) (λ k h. rw (sends_is a M k, sends_is b M' k, alike.own, alike.far, same k h))

    pub receives_same : words_sent C a (around U own far M) (next U) ≡ words_sent C b (around U own far M') (next U)
    unfolding words_sent channelled
    receives_same = woven_same (gates_of C) (λ k h. received_is a M k ∙ sym (same k h) ∙ sym (received_is b M' k))

    pub own_same : results C a (around U own far M) U ≡ results C b (around U own far M') U
    unfolding results
    own_same = listed_same count (λ k h. rw (own-result a M k, own-result b M' k, alike.own, alike.far, same k h))

    pub far_same : results C a (around U own far M) (next U) ≡ results C b (around U own far M') (next U)
    unfolding results
    far_same = listed_same count (λ k h. rw (far-result a M k, far-result b M' k, alike.own, alike.far, same k h))
