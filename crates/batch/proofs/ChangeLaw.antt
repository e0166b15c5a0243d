-- The change of the mask tape that U lacks: of each figure the items that bring U the same bits, from other sub-shares; and its inverse.
use Prim.Native.Nat.{ℕ, ◌<◌, ◌≤◌}
use mathlib.Core.Bool.{Bool, cond, false, true}
use mathlib.Core.List.{List, ◌++◌}
use mathlib.Core.Path.{◌≡◌, ap, ap₂, refl, sym, ◌∙◌}
use native.Mathlib.Omega.{arith}
use lib.Dec.{leb}
use lib.ListN.{drop, length, length-append, length-drop, take, take-append-drop}
use lib.Seq.{drop_at, length-take-le, take_at}
use borrow.Author.Tests.{leb-false, leb-true}
use Rattle.gate.specs.Places.{Place}
use Rattle.circuit.specs.Circuits.{Circuit, gates_of, moduli, starts}
use Rattle.view.specs.Views.{Fits, decode, encode}
use Rattle.view.proofs.Theorems.{items_fit_gates, items_of_words, words_fit_gates, words_of_items}
use Rattle.act.specs.Jobs.{Words}
use Rattle.lanes.specs.Lanes.{count, figure, lane, woven}
use Rattle.batch.proofs.GateLaw.{OnBits, bits_fit, fit_bits}
use Rattle.lanes.proofs.LaneLaw.{Bits, Small, lane-append, lane-bits, lane-drop, lane-woven, length-woven, small-written, woven_is}

-- the states of figure k at the start
abbrev pub begun : (C : Circuit) → (Place → List ℕ) → ℕ → Place → C.State
begun C a k = starts C (figure a k) (figure a k)

module _ (C : Circuit) (U : Place) (own far : List ℕ) where
  abbrev n : ℕ
  n = gates_of C

  -- the bits that U receives of figure k
  abbrev pub received : (Place → List ℕ) → List ℕ → ℕ → List ℕ
  received a M k = encode U C.gates (begun C a k) (lane k own) (lane k far) (lane k (take n M))

  -- the items that bring U those bits, with the sub-shares b
  abbrev items : (a b : Place → List ℕ) → List ℕ → ℕ → List ℕ
  items a b M k = decode U C.gates (begun C b k) (lane k own) (lane k far) (received a M k)

  abbrev replaced : (a b : Place → List ℕ) → List ℕ → List ℕ
  replaced a b M = woven n (items a b M) ++ drop n M

  -- a tape that is too short stays: the call is refused
  unfoldable pub changed : (a b : Place → List ℕ) → List ℕ → List ℕ
  changed a b M = cond (leb n (length M)) (replaced a b M) M

  -- what holds of both, each at its lengths, holds of the changed tape
  changed_by : (a b : Place → List ℕ) (M : List ℕ) (P : List ℕ → Type 0) → (n ≤ length M → P (replaced a b M)) → (length M < n → P M)
      → P (changed a b M)
  unfolding changed
  changed_by a b M P enough short = go (leb n (length M)) refl
    where
      go : (t : Bool) → leb n (length M) ≡ t → P (cond t (replaced a b M) M)
      go true h = enough (leb-true n (length M) h)
      go false h = short (leb-false n (length M) h)

  changed_is : (a b : Place → List ℕ) (M : List ℕ) → n ≤ length M → changed a b M ≡ replaced a b M
  changed_is a b M enough = changed_by a b M (λ l. l ≡ replaced a b M) (λ h. refl) (λ h. absurd (omega arith))

  length-replaced : (a b : Place → List ℕ) (M : List ℕ) → n ≤ length M → length (replaced a b M) ≡ length M
  length-replaced a b M enough =
      length-append (woven n (items a b M)) (drop n M) ∙ omega (arith, length-woven n (items a b M), length-drop n M)

  pub length-changed : (a b : Place → List ℕ) (M : List ℕ) → length (changed a b M) ≡ length M
  length-changed a b M = changed_by a b M (λ l. length l ≡ length M) (length-replaced a b M) (λ short. refl)

  module _ (on : OnBits C.gates) (a b : Place → List ℕ) (M : List ℕ) (enough : n ≤ length M) where
    taken_fit : (k : ℕ) → Fits (moduli C.gates) (lane k (take n M))
    taken_fit k = rw on (bits_fit n (lane k (take n M)) (rw (length-take-le n M enough) at (lane-bits k (take n M))))

    received_fit : (k : ℕ) → Fits (moduli C.gates) (received a M k)
    received_fit k =
        words_fit_gates C.State U C.gates (begun C a k) (lane k own) (lane k far) (lane k (take n M)) (taken_fit k)

    items-bits : (k : ℕ) → Bits n (items a b M k)
    items-bits k =
        fit_bits n (items a b M k)
        (rw on at (items_fit_gates C.State U C.gates (begun C b k) (lane k own) (lane k far) (received a M k) (received_fit k)))

    rest_kept : drop n (replaced a b M) ≡ drop n M
    rest_kept = drop_at (woven n (items a b M)) (drop n M) n (length-woven n (items a b M))

    -- U receives the same
    received_same : (k : ℕ) → k < count → received b (replaced a b M) k ≡ received a M k
    received_same k h =
        ap (encode U C.gates (begun C b k) (lane k own) (lane k far))
        (ap (lane k) (take_at (woven n (items a b M)) (drop n M) n (length-woven n (items a b M)))
        ∙ lane-woven n (items a b M) items-bits k h)
        ∙ words_of_items C.State U C.gates (begun C b k) (lane k own) (lane k far) (received a M k) (received_fit k)

    pub received_kept : (k : ℕ) → k < count → received b (changed a b M) k ≡ received a M k
    received_kept k h = ap (λ (l : List ℕ). received b l k) (changed_is a b M enough) ∙ received_same k h

    -- so the first items come back
    items_back : (k : ℕ) → k < count → items b a (replaced a b M) k ≡ lane k (take n M)
    items_back k h =
        ap (decode U C.gates (begun C a k) (lane k own) (lane k far)) (received_same k h)
        ∙ items_of_words C.State U C.gates (begun C a k) (lane k own) (lane k far) (lane k (take n M)) (taken_fit k)

    lane-back : (k : ℕ) → k < count → lane k M ≡ items b a (replaced a b M) k ++ drop n (lane k (replaced a b M))
    lane-back k h =
        ap (lane k) (sym (take-append-drop n M))
        ∙ lane-append k (take n M) (drop n M)
        ∙ ap₂ ◌++◌ (sym (items_back k h)) (ap (lane k) (sym rest_kept) ∙ lane-drop k n (replaced a b M))

  module _ (on : OnBits C.gates) (a b : Place → List ℕ) (m : ℕ) (M : List ℕ) (words : Words m M) where
    small : n ≤ length M → Small (replaced a b M)
    small enough = small-written n (items a b M) (items-bits on a b M enough) M words.below

    pub changed-words : Words m (changed a b M)
    changed-words =
        record { long = length-changed a b M ∙ words.long; below = changed_by a b M Small small (λ short. words.below) }

    pub changed-back : changed b a (changed a b M) ≡ M
    changed-back =
        changed_by a b M (λ l. changed b a l ≡ M)
        (λ enough.
        let M' = replaced a b M in
        let enough' : n ≤ length M' = omega (arith, length-replaced a b M enough) in
        changed_is b a M' enough'
        ∙ sym (woven_is n (items b a M') (items-bits on b a M' enough') M M' words.below (small enough) (lane-back on a b M enough)))
        (λ short. changed_by b a M (λ l. l ≡ M) (λ enough. absurd (omega arith)) (λ h. refl))
