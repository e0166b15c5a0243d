-- One act's tests: its refusal from what is public and its items, and what an accepted one has of its tapes.
use Prim.Native.Nat.{ℕ, zero, suc, ◌+◌, ◌≤◌}
use mathlib.Core.Bool.{Bool, cond, false, true, ◌||◌}
use mathlib.Core.List.{List, [], ◌∷◌}
use mathlib.Core.Logic.{◌⊎◌, inl, inr, ⊎_elim}
use mathlib.Core.Path.{◌≡◌, ap, refl, sym, ◌∙◌}
use native.Mathlib.Nat.{le_of_suc-le-suc, not-suc-le-zero}
use native.Mathlib.Omega.{arith}
use lib.Dec.{eqb, leb}
use lib.ListN.{drop, get_or, length, length-append, length-drop, length-map, length-take, take}
use borrow.Author.Tests.{eqb-true, leb-false, lt-leb, ne_eqb}
use Rattle.gate.specs.Places.{Place, p0, p1, p2}
use Rattle.gate.proofs.PlaceLaw.{each, tabled-at}
use Rattle.circuit.specs.Circuits.{Gate, moduli}
use Rattle.circuit.proofs.RunLaw.{length-sent}
use Rattle.view.specs.Views.{Fits, more, none}
use Rattle.machine.specs.Checks.{Lengths, Tapes, any_bad, any_outside}
use Rattle.machine.specs.Step.{lengths_of, written}
use Rattle.machine.proofs.KindLaw.{neither}
use Rattle.machine.proofs.WrittenLaw.{empty_of, nothing_written}
use Rattle.act.specs.Acts.{Act, performed, refusal_by, refusal_of, step}
use Rattle.act.specs.Jobs.{Outcome, refused}
use Rattle.act.specs.Lawful.{Lends}
use Rattle.act.specs.Works.{Public, Shared, Work, bad_item, begun, deals, evaluates, gates_in, left_of, opens, words_from, words_in}
use Rattle.act.proofs.WorkLaw.{Inside}

-- an act that is not refused is not refused for what is public, nor for an item
public_zero : (r : ℕ) (b : Bool) → refusal_by r b ≡ 0 → (r ≡ 0) × (b ≡ false)
public_zero zero true e = absurd (omega arith)
public_zero zero false e = (refl, refl)
public_zero (suc r) b e = absurd (omega arith)

public_aside : (r : ℕ) (b : Bool) → (refusal_by r b ≡ 10 → ⊥) → refusal_by r b ≡ r
public_aside zero true h = absurd (h refl)
public_aside zero false h = refl
public_aside (suc r) b h = refl

module _ {E D : Type 0} (a : Act E D) (m : Shared E D) (T : Tapes) (c : Place → List ℕ) where
  abbrev first : ℕ
  first = refusal_of a m.public T c

  -- the refusal answered
  pub refusal_is : (step a m T c).refusal ≡ first
  unfolding step
  refusal_is = go (eqb first 0) refl
    where
      go : (b : Bool) → eqb first 0 ≡ b
          → (cond b (performed (a.work m.public) m (left_of m.public T) c) (refused first m c)).refusal ≡ first
      go true e = sym (eqb-true first 0 e)
      go false e = refl

  -- what holds of the accepted act and of every refused one holds of the step
  pub step_by : (P : Outcome (Shared E D) → Type 0)
      → P (performed (a.work m.public) m (left_of m.public T) c) → ((n : ℕ) → P (refused (suc n) m c)) → P (step a m T c)
  unfolding step
  step_by P accepted declined = go first
    where
      go : (n : ℕ) → P (cond (eqb n 0) (performed (a.work m.public) m (left_of m.public T) c) (refused n m c))
      go zero = accepted
      go (suc n) = rw (ne_eqb (suc n) 0 (λ z. omega arith)) (declined n)

  pub done_is : (step a m T c).refusal ≡ 0 → step a m T c ≡ performed (a.work m.public) m (left_of m.public T) c
  unfolding step
  done_is h = let none : first ≡ 0 = sym refusal_is ∙ h in rw none

  pub passed : (step a m T c).refusal ≡ 0
      → (a.refusal m.public (lengths_of T c) ≡ 0) × (bad_item (a.work m.public) (left_of m.public T) ≡ false)
  passed h = public_zero _ _ (sym refusal_is ∙ h)

  stays : (first ≡ 0 → ⊥) → step a m T c ≡ refused first m c
  unfolding step
  stays h = rw (ne_eqb first 0 h)

  pub refused_is : ((step a m T c).refusal ≡ 0 → ⊥) → step a m T c ≡ refused (step a m T c).refusal m c
  refused_is h = stays (λ e. h (refusal_is ∙ e)) ∙ ap (λ (n : ℕ). refused n m c) (sym refusal_is)

  -- 10 apart, the refusal is public
  pub public_refusal : ((step a m T c).refusal ≡ 10 → ⊥) → (step a m T c).refusal ≡ a.refusal m.public (lengths_of T c)
  public_refusal h =
      let q = m.public in
      refusal_is ∙ public_aside (a.refusal q (lengths_of T c)) (bad_item (a.work q) (left_of q T)) (λ e. h (refusal_is ∙ e))

-- items that no test meets are in range
in_range : (ms items : List ℕ) → length ms ≤ length items → any_outside ms items ≡ false → Fits ms (take (length ms) items)
unfolding any_outside
in_range [] items h e = none
in_range (m ∷ ms) [] h e = absurd (not-suc-le-zero h)
in_range (m ∷ ms) (x ∷ items) h e =
    let both = neither (leb m x) (any_outside ms items) e in
    more (leb-false m x both.0) (in_range ms items (le_of_suc-le-suc h) both.1)

-- two tests that fail, fail together
both_false : {a b : Bool} → a ≡ false → b ≡ false → a || b ≡ false
both_false p q = rw (p, q)

-- and items in range meet no test
none_outside : (ms items : List ℕ) → Fits ms (take (length ms) items) → any_outside ms items ≡ false
unfolding any_outside
none_outside [] items f = refl
none_outside (m ∷ ms) [] f = elim f [ ]
none_outside (m ∷ ms) (x ∷ items) (more h f) = both_false (lt-leb m x h) (none_outside ms items f)

-- the same of a list of gates
length-moduli : {S : Type 0} (G : List (Gate S)) → length (moduli G) ≡ length G
length-moduli G = length-map G (λ g. g.modulus)

gates_in_range : {S : Type 0} (G : List (Gate S)) (items : List ℕ) → length G ≤ length items → any_outside (moduli G) items ≡ false
    → Fits (moduli G) (take (length G) items)
gates_in_range G items h e =
    rw (← (length-moduli G)) (in_range (moduli G) items (rw (length-moduli G) h) e)

gates_inside : {S : Type 0} (G : List (Gate S)) (items : List ℕ) → Fits (moduli G) (take (length G) items)
    → any_outside (moduli G) items ≡ false
gates_inside G items f = none_outside (moduli G) items (rw (length-moduli G) f)

-- what is left after a position holds what is lent beyond it
left_long : (a g : ℕ) (l : List ℕ) → a + g ≤ length l → g ≤ length (drop a l)
left_long a g l h = rw (length-drop a l) (omega arith)

-- so it does where none is taken
left_enough : {S : Type 0} (G : List (Gate S)) (a : ℕ) (l : List ℕ) → (G ≡ []) ⊎ (a + length G ≤ length l) → length G ≤ length (drop a l)
left_enough G a l h =
    ⊎_elim (λ (z : G ≡ []). let none : length G ≡ 0 = ap length z in omega (arith, none)) (λ (r : a + length G ≤ length l). left_long a (length G) l r) h

module _ {E D : Type 0} where
  -- nothing is taken, or it is lent
  pub masks-lent : (w : Work E D) (q : Public E) (len : Lengths) (i : Place) → Lends w q len
      → (gates_in w ≡ 0) ⊎ (q.masks_at + gates_in w ≤ len.masks i)
  masks-lent (deals rest p v put) q len i lend = inl refl
  masks-lent (evaluates rest R) q len i lend = ⊎_elim (λ z. inl (ap length z)) (λ r. inr (r i).0) lend
  masks-lent (opens rest read value) q len i lend = inl refl

  -- an accepted act's items are in range
  pub inside_by : (w : Work E D) (q : Public E) (T : Tapes) (c : Place → List ℕ) → Lends w q (lengths_of T c) → bad_item w (left_of q T) ≡ false
      → Inside w (left_of q T)
  unfolding any_bad
  inside_by (deals rest p v put) q T c lend e₀ =
      let left = drop q.dealer_at T.dealer in
      let both = neither (leb p (get_or left 0 0)) (leb p (get_or left 1 0)) e₀ in
      (leb-false _ _ both.0, leb-false _ _ both.1, left_long q.dealer_at 2 T.dealer lend)
  inside_by (evaluates rest R) q T c lend e₀ =
      let G = R.gates in
      let out : Place → Bool = λ i. any_outside (moduli G) ((left_of q T).masks i) in
      let one = neither (out p0) (out p1 || out p2) e₀ in
      let two = neither (out p1) (out p2) one.1 in
      let enough : (i : Place) → (G ≡ []) ⊎ (q.masks_at + length G ≤ length (T.masks i))
      = λ i. ⊎_elim (λ z. inl z) (λ r. inr (rw (← (tabled-at (λ j. length (T.masks j)) i)) (r i).0)) lend in
      each (λ i. Fits (moduli G) (take (length G) ((left_of q T).masks i)))
      (gates_in_range G (drop q.masks_at (T.masks p0)) (left_enough G q.masks_at (T.masks p0) (enough p0)) one.0)
      (gates_in_range G (drop q.masks_at (T.masks p1)) (left_enough G q.masks_at (T.masks p1) (enough p1)) two.0)
      (gates_in_range G (drop q.masks_at (T.masks p2)) (left_enough G q.masks_at (T.masks p2) (enough p2)) two.1)
  inside_by (opens rest read value) q T c lend e₀ = tt

  -- items in range pass the test
  pub inside_passes : (w : Work E D) (left : Tapes) → Inside w left → bad_item w left ≡ false
  unfolding any_bad
  inside_passes (deals rest p v put) left inside = both_false (lt-leb _ _ inside.0) (lt-leb _ _ inside.1)
  inside_passes (evaluates rest R) left inside =
      both_false (gates_inside R.gates (left.masks p0) (inside p0))
      (both_false (gates_inside R.gates (left.masks p1) (inside p1)) (gates_inside R.gates (left.masks p2) (inside p2)))
  inside_passes (opens rest read value) left inside = refl

-- words written where there is room keep a channel's length
length-written : (at : ℕ) (ws c : List ℕ) → (length ws ≡ 0) ⊎ (at + length ws ≤ length c) → length (written at ws c) ≡ length c
length-written at ws c h =
    ⊎_elim
    (λ (z : length ws ≡ 0).
    ap (λ (l : List ℕ). length (written at l c)) (empty_of ws z) ∙ ap length (nothing_written at c))
    (λ (r : at + length ws ≤ length c). simp (length-append, length-drop, length-take) (omega arith))
    h

module _ {E D : Type 0} where
  words_many : (w : Work E D) (s : Place → D) (left : Tapes) (i : Place) → length (words_from w s left i) ≡ words_in w
  unfolding words_from
  words_many (deals rest p v put) s left i = refl
  words_many (evaluates rest R) s left i = length-sent R.gates (begun R s) left.masks i
  words_many (opens rest read value) s left i = refl

  words-lent : (w : Work E D) (q : Public E) (T : Tapes) (c : Place → List ℕ) (i : Place) → Lends w q (lengths_of T c)
      → (words_in w ≡ 0) ⊎ (q.channels_at + words_in w ≤ length (c i))
  words-lent (deals rest p v put) q T c i lend = inl refl
  words-lent (evaluates rest R) q T c i lend =
      ⊎_elim (λ z. inl (ap length z)) (λ r. inr (rw (← (tabled-at (λ j. length (c j)) i)) (r i).1)) lend
  words-lent (opens rest read value) q T c i lend = inr (rw (← (tabled-at (λ j. length (c j)) i)) (lend i))

  -- channels keep their lengths
  pub channels_long : (w : Work E D) (m : Shared E D) (T left : Tapes) (c : Place → List ℕ) → Lends w m.public (lengths_of T c)
      → (i : Place) → length ((performed w m left c).channels i) ≡ length (c i)
  channels_long w m T left c lend i =
      let ws = words_from w m.share left i in
      let many = words_many w m.share left i in
      ap length (tabled-at (λ j. written m.public.channels_at (words_from w m.share left j) (c j)) i)
      ∙ length-written m.public.channels_at ws (c i)
      (⊎_elim (λ (z : words_in w ≡ 0). inl (many ∙ z))
      (λ (r : m.public.channels_at + words_in w ≤ length (c i)). inr (rw many r))
      (words-lent w m.public T c i lend))
