-- One accepted act of each job, on tapes of which K's are changed: K's is accepted too, and changing back gives J's items.
use Prim.Native.Nat.{ℕ, ◌+◌, ◌≤◌}
use mathlib.Core.Bool.{false}
use mathlib.Core.List.{List, ◌++◌}
use mathlib.Core.Logic.{◌⊎◌, inl, inr, ⊎_elim}
use mathlib.Core.Path.{◌≡◌, ap, ap₂, refl, subst, sym, ◌∙◌}
use native.Mathlib.Nat.{add-zero}
use lib.ListN.{drop, length, take, take-append-drop}
use lib.Seq.{drop_at, drop-drop, take_at}
use Rattle.gate.specs.Places.{Pair, Place, next, p0, p1, p2, tabled}
use Rattle.view.specs.Views.{around, lacked_by}
use Rattle.machine.specs.Checks.{Lengths, Tapes}
use Rattle.machine.specs.Step.{lengths_of}
use Rattle.machine.proofs.WrittenLaw.{empty_of}
use Rattle.act.specs.Acts.{Act, performed, refusal_by, step}
use Rattle.act.specs.Changes.{before, decoded, items_k, left_j, left_k, next_k, outcome_j, outcome_k, rest_of, work_j, work_k}
use Rattle.act.specs.Jobs.{AlikeEntries, Entry, Outcome, Protocol, lent, outcome}
use Rattle.act.specs.Lawful.{AlikeWork, Lawful, Lends, Sameness, acting}
use Rattle.act.specs.Lawful as lawful
use Rattle.act.specs.Own.{handed_of}
use Rattle.act.specs.Secrecy.{Hidden, tapes_with}
use Rattle.act.specs.Works.{Public, Shared, Work, bad_item, deals, evaluates, gates_in, items_in, left_of, opens, public_after, words_from}
use Rattle.act.proofs.ActLaw.{done_is, inside_by, inside_passes, masks-lent, passed, refusal_is}
use Rattle.act.proofs.LeftLaw.{SameLengths, left_far, left-first, left_lacked, left-own, lengths_beside}
use Rattle.act.proofs.LevelLaw.{Level, after-alike, length-decode, works_alike}
use Rattle.act.proofs.PrefixLaw.{Agree}
use Rattle.act.proofs.WorkLaw.{AgreeOn, Inside, Partner, agree_around, alike-back, decoded-back, handed_same, partner_inside, performed_agree, received_same, segment, take_twice}

module _ {E D : Type 0} where
  -- as many items are decoded as are taken
  pub decoded_dealer : (U : Place) (w : Work E D) (n : Place → D) (t t' W : List ℕ) (h : Pair)
      → length (decoded U w n t t' W h).dealer ≡ items_in w
  unfolding decoded
  decoded_dealer U (deals rest p v put) n t t' W h = refl
  decoded_dealer U (evaluates rest R) n t t' W h = refl
  decoded_dealer U (opens rest read value) n t t' W h = refl

  pub decoded_lacked : (U : Place) (w : Work E D) (n : Place → D) (t t' W : List ℕ) (h : Pair)
      → length (decoded U w n t t' W h).lacked ≡ gates_in w
  unfolding decoded
  decoded_lacked U (deals rest p v put) n t t' W h = refl
  decoded_lacked U (evaluates rest R) n t t' W h = length-decode U R.gates _ t t' W
  decoded_lacked U (opens rest read value) n t t' W h = refl

  -- ranges do not go by the number dealt
  pub inside_alike : {w w' : Work E D} (left : Tapes) → AlikeWork w w' → Inside w left → Inside w' left
  inside_alike left lawful.same inside = inside
  inside_alike left lawful.number inside = inside

  -- nothing is taken, or it is lent
  dealer_lent_lem : (w : Work E D) (q : Public E) (len : Lengths) → Lends w q len
      → (items_in w ≡ 0) ⊎ (q.dealer_at + items_in w ≤ len.dealer)
  dealer_lent_lem (deals rest p v put) q len lend = inr lend
  dealer_lent_lem (evaluates rest R) q len lend = inl refl
  dealer_lent_lem (opens rest read value) q len lend = inl refl

-- the items taken from a lent tape are the first that are left
taken_are : (g a n : ℕ) (l items rest : List ℕ) → (g ≡ 0) ⊎ (a + g ≤ length (take n l))
    → drop a l ≡ items ++ rest → length items ≡ g
    → take g (drop a (take n l)) ≡ items
taken_are g a n l items rest lend e long =
    ⊎_elim
    (λ (z : g ≡ 0). ap (λ (k : ℕ). take k (drop a (take n l))) z ∙ sym (empty_of items (long ∙ z)))
    (λ (s : a + g ≤ length (take n l)). left-first a g n l s ∙ ap (take g) e ∙ take_at items rest g long)
    lend

-- beyond the items taken stands the rest
beyond : (g a : ℕ) (l items rest : List ℕ) {b : ℕ} → b ≡ a + g → drop a l ≡ items ++ rest → length items ≡ g → drop b l ≡ rest
beyond g a l items rest at e long =
    ap (λ (n : ℕ). drop n l) at ∙ sym (drop-drop g a l) ∙ ap (drop g) e ∙ drop_at items rest g long

-- the items taken and what is left after them are what was left before
joined_at : (g a n : ℕ) (l : List ℕ) {b : ℕ} → b ≡ a + g → (g ≡ 0) ⊎ (a + g ≤ length (take n l))
    → take g (drop a (take n l)) ++ drop b l ≡ drop a l
joined_at g a n l at lend =
    ap (λ (k : ℕ). take g (drop a (take n l)) ++ drop k l) at
    ∙ ⊎_elim
    (λ (z : g ≡ 0).
    ap (λ (t : List ℕ). t ++ drop (a + g) l) (ap (λ (k : ℕ). take k (drop a (take n l))) z)
    ∙ ap (λ (k : ℕ). drop k l) (ap (λ (k : ℕ). a + k) z ∙ add-zero a))
    (λ (s : a + g ≤ length (take n l)).
    ap₂ (λ (x y : List ℕ). x ++ y) (left-first a g n l s) (sym (drop-drop g a l)) ∙ take-append-drop g (drop a l))
    lend

-- hidden tapes are equal where both tapes are
hidden_equal : {a a' b b' : List ℕ} → a ≡ a' → b ≡ b'
    → ◌≡◌ {A = Hidden} (record { dealer = a; lacked = b }) (record { dealer = a'; lacked = b' })
hidden_equal p q = rw (p, q)

module _ {E D : Type 0} where
  -- an act accepted on some tapes is accepted on others of the same lengths whose items pass
  refusal_zero : (a : Act E D) (m : Shared E D) (T T' : Tapes) (c : Place → List ℕ) → lengths_of T c ≡ lengths_of T' c
      → (step a m T c).refusal ≡ 0
      → bad_item (a.work m.public) (left_of m.public T') ≡ false
      → (step a m T' c).refusal ≡ 0
  refusal_zero a m T T' c len done pass =
      refusal_is a m T' c
      ∙ ap₂ refusal_by (ap (a.refusal m.public) (sym len) ∙ (passed a m T c done).0) pass

  -- tapes that hold an act's items agree with those items
  agrees : (U : Place) (w : Work E D) (left' : Tapes) (t t' : List ℕ) (items : Hidden)
      → left'.masks U ≡ t → left'.masks (next U) ≡ t' → segment U w left' ≡ items
      → AgreeOn w left' (tapes_with U t t' items)
  agrees U w left' t t' items own far seg =
      record {
        masks = subst (λ (a : List ℕ). Agree (gates_in w) left'.masks (around U a t' items.lacked)) own
            (subst (λ (b : List ℕ). Agree (gates_in w) left'.masks (around U (left'.masks U) b items.lacked)) far
            (agree_around (gates_in w) U left'.masks items.lacked
            (take_twice (gates_in w) (left'.masks (lacked_by U)) ∙ ap (λ (s : Hidden). take (gates_in w) s.lacked) seg)));
        dealer = take_twice (items_in w) left'.dealer ∙ ap (λ (s : Hidden). take (items_in w) s.dealer) seg;
      }

  -- what K's act brings U gives back J's hidden items
  back_by : (U : Place) (w w' : Work E D) (m n : Shared E D) (left left' : Tapes)
      → AlikeWork w w' → Inside w left → Partner U w w' m n left left'
      → decoded U w m.share (left'.masks U) (left'.masks (next U)) (words_from w' n.share left' (next U)) (handed_of U w' left')
      ≡ segment U w left
  unfolding decoded
  back_by U (deals rest p v put) w' m n left left' alike inside partner =
      rw (handed_same U (deals rest p v put) w' m n left left' alike inside partner) (decoded-back U (deals rest p v put) m.share left inside)
  back_by U (evaluates rest R) w' m n left left' alike inside partner =
      rw (partner.own, partner.far, received_same U (evaluates rest R) w' m n left left' alike inside tt partner)
      (decoded-back U (evaluates rest R) m.share left inside)
  back_by U (opens rest read value) w' m n left left' alike inside partner = refl

-- how much is lent of the tape that U lacks
lacked_length {ℓ} : {P : Protocol {ℓ}} (U : Place) (own far : List ℕ) (f : Entry P) (k : Hidden) (d : Place → List ℕ)
    → (lengths_of (lent f (tapes_with U own far k)) d).masks (lacked_by U) ≡ length (take (f.masks_lent (lacked_by U)) k.lacked)
lacked_length p0 own far f k d = refl
lacked_length p1 own far f k d = refl
lacked_length p2 own far f k d = refl

module _ {E : Type 0} where
  -- as much lent, from the same positions, leaves the same
  pub left_by : {p q : Public E} {a b : Place → ℕ} {x y : ℕ} → p ≡ q → a ≡ b → x ≡ y → (T : Tapes)
      → left_of p (record { masks = tabled (λ i. take (a i) (T.masks i)); dealer = take x T.dealer })
      ≡ left_of q (record { masks = tabled (λ i. take (b i) (T.masks i)); dealer = take y T.dealer })
  left_by {p} {q} {a} {b} {x} {y} u v w T =
      ap (λ (r : Public E). left_of r (lent_as a x)) u
      ∙ ap (λ (r : Place → ℕ). left_of q (lent_as r x)) v
      ∙ ap (λ (r : ℕ). left_of q (lent_as b r)) w
    where
      lent_as : (Place → ℕ) → ℕ → Tapes
      lent_as r z = record { masks = tabled (λ i. take (r i) (T.masks i)); dealer = take z T.dealer }

-- an accepted act of J at m, on J's hidden tapes h
module _ {E D : Type 0} {Same : Sameness E D} {s : Shared E D} (U : Place) (own far : List ℕ) (h : Hidden)
    (e : Entry (acting Same s)) (law : Lawful Same e.act) (m : Shared E D) (c : Place → List ℕ)
    (doneJ : (outcome e m (tapes_with U own far h) c).refusal ≡ 0) where
  abbrev work_at : Work E D
  work_at = e.act.work m.public

  abbrev left_at : Tapes
  left_at = left_of m.public (lent e (tapes_with U own far h))

  -- it is lent enough, and its items are in range
  lend_at : Lends work_at m.public (lengths_of (lent e (tapes_with U own far h)) c)
  lend_at = law.lends m.public _ (passed e.act m (lent e (tapes_with U own far h)) c doneJ).0

  pub accepted_items : Inside work_at left_at
  accepted_items =
      let T = lent e (tapes_with U own far h) in
      inside_by work_at m.public T c lend_at (passed e.act m T c doneJ).1

  -- and this is what it does
  done_j_is : outcome e m (tapes_with U own far h) c ≡ performed work_at m left_at c
  done_j_is = done_is e.act m (lent e (tapes_with U own far h)) c doneJ

  -- the hidden items that it takes and what is left after them are what was left before
  pub rest-before : before (segment U work_at left_at) (rest_of (outcome e m (tapes_with U own far h) c).state h) ≡ rest_of m h
  rest-before =
      let lend = lend_at in
      let p = m.public in
      hidden_equal
      (joined_at (items_in work_at) m.public.dealer_at e.dealer_lent h.dealer
      (ap (λ (o : Outcome (Shared E D)). o.state.public.dealer_at) done_j_is)
      (dealer_lent_lem work_at p _ lend))
      (ap (λ (l : List ℕ). take (gates_in work_at) l ++ drop (outcome e m (tapes_with U own far h) c).state.public.masks_at h.lacked)
      (left_lacked U own far p e h)
      ∙ joined_at (gates_in work_at) m.public.masks_at (e.masks_lent (lacked_by U)) h.lacked
      (ap (λ (o : Outcome (Shared E D)). o.state.public.masks_at) done_j_is)
      (rw (lacked_length U own far e h c) at (masks-lent work_at p _ (lacked_by U) lend)))

-- what is public after it is public after K's
pub public_kept : {E D : Type 0} {Same : Sameness E D} {s : Shared E D} (U : Place) (own far : List ℕ) (h : Hidden)
    → (e f : Entry (acting Same s)) → AlikeEntries e f
    → (m n : Shared E D) (c d : Place → List ℕ) → m.public ≡ n.public
    → (outcome_j U own far h e f m n c d).refusal ≡ 0
    → (outcome_j U own far h e f m n c d).state.public ≡ (next_k U own far h e f m n c d).state.public
public_kept {E = E} {D = D} U own far h e f alike m n c d public doneJ =
    ap (λ (o : Outcome (Shared E D)). o.state.public) (done_j_is U own far h e alike.act.left m c doneJ)
    ∙ after-alike m.public (works_alike alike.act public)
    ∙ ap (public_after (f.act.work n.public)) public

-- an accepted act of J at m and its partner of K at n: h are J's hidden tapes, k are K's, which hold the items decoded
module _ {E D : Type 0} {Same : Sameness E D} {s : Shared E D} (U : Place) (own far : List ℕ) (h k : Hidden) (lens : SameLengths h k)
    (e f : Entry (acting Same s)) (alike : AlikeEntries e f)
    (m n : Shared E D) (c d : Place → List ℕ) (level : Level m n c d)
    (doneJ : (outcome_j U own far h e f m n c d).refusal ≡ 0) (doneK : (outcome_k U own far h e f m n c d).refusal ≡ 0)
    (out : Hidden) (rest : rest_of n k ≡ before (items_k U own far h e f m n c d) out) where
  abbrev J : Work E D
  J = work_j U own far h e f m n c d

  abbrev K : Work E D
  K = work_k U own far h e f m n c d

  abbrev left : Tapes
  left = left_j U own far h e f m n c d

  abbrev items : Hidden
  items = items_k U own far h e f m n c d

  abbrev left' : Tapes
  left' = left_of n.public (lent f (tapes_with U own far k))

  alike_works : AlikeWork J K
  alike_works = works_alike alike.act level.public

  pub inside : Inside J left
  inside = accepted_items U own far h e alike.act.left m c doneJ

  -- K's act is lent as much of its own tapes
  lengths : lengths_of (lent f (tapes_with U own far h)) d ≡ lengths_of (lent f (tapes_with U own far k)) d
  lengths = lengths_beside U own far f h k lens d

  lend : Lends K n.public (lengths_of (lent f (tapes_with U own far k)) d)
  lend = subst (Lends K n.public) lengths (alike.act.right.lends n.public _ (passed f.act n (lent f (tapes_with U own far h)) d doneK).0)

  -- as many items are decoded as K takes
  dealer_many : length items.dealer ≡ items_in K
  dealer_many = decoded_dealer U K n.share (left.masks U) (left.masks (next U)) (words_from J m.share left (next U)) (handed_of U J left)

  lacked_many : length items.lacked ≡ gates_in K
  lacked_many = decoded_lacked U K n.share (left.masks U) (left.masks (next U)) (words_from J m.share left (next U)) (handed_of U J left)

  -- K takes the items decoded
  segment_is : segment U K left' ≡ items
  segment_is =
      hidden_equal
      (taken_are (items_in K) n.public.dealer_at f.dealer_lent k.dealer items.dealer out.dealer
      (dealer_lent_lem K n.public _ lend) (ap (λ (s : Hidden). s.dealer) rest) dealer_many)
      (ap (take (gates_in K)) (left_lacked U own far n.public f k)
      ∙ taken_are (gates_in K) n.public.masks_at (f.masks_lent (lacked_by U)) k.lacked items.lacked out.lacked
      (rw (lacked_length U own far f k d) at (masks-lent K n.public _ (lacked_by U) lend))
      (ap (λ (s : Hidden). s.lacked) rest)
      lacked_many)

  -- the same counts are lent from the same positions
  left_level : (x : Hidden)
      → left_of n.public (lent f (tapes_with U own far x)) ≡ left_of m.public (lent e (tapes_with U own far x))
  left_level x = left_by (sym level.public) (sym alike.masks_lent) (sym alike.dealer_lent) (tapes_with U own far x)

  -- so K's tapes are the partner of J's, and in range
  pub partner : Partner U J K m n left left'
  partner =
      record {
        own = left-own U own far n.public f k h ∙ ap (λ (T : Tapes). T.masks U) (left_level h);
        far = left_far U own far n.public f k h ∙ ap (λ (T : Tapes). T.masks (next U)) (left_level h);
        items = segment_is;
      }

  inside_k : Inside K left'
  inside_k = partner_inside U J K m n left left' alike_works inside partner

  -- K's act is accepted on its own tapes, and J's would be
  pub done_k' : (outcome f n (tapes_with U own far k) d).refusal ≡ 0
  done_k' =
      refusal_zero f.act n (lent f (tapes_with U own far h)) (lent f (tapes_with U own far k)) d lengths doneK
      (inside_passes K left' inside_k)

  pub done_j' : (outcome e m (tapes_with U own far k) c).refusal ≡ 0
  done_j' =
      refusal_zero e.act m (lent e (tapes_with U own far h)) (lent e (tapes_with U own far k)) c
      (lengths_beside U own far e h k lens c)
      doneJ
      (inside_passes J (left_of m.public (lent e (tapes_with U own far k)))
      (subst (Inside J) (left_level k) (inside_alike left' (alike-back alike_works) inside_k)))

  -- and leaves what was reckoned with
  pub next_k_is : outcome f n (tapes_with U own far k) d ≡ next_k U own far h e f m n c d
  next_k_is =
      done_is f.act n (lent f (tapes_with U own far k)) d done_k'
      ∙ performed_agree K n left' (left_k U own far h e f m n c d) d
      (agrees U K left' (left.masks U) (left.masks (next U)) items partner.own partner.far segment_is)

  -- changing back gives J's items
  pub items_back : items_k U own far k f e n m d c ≡ segment U J left
  items_back = back_by U J K m n left left' alike_works inside partner

  -- and what J's act left
  pub next_j_is : next_k U own far k f e n m d c ≡ outcome_j U own far h e f m n c d
  next_j_is =
      sym
      (done_j_is U own far h e alike.act.left m c doneJ
      ∙ performed_agree J m left (left_k U own far k f e n m d c) c
      (agrees U J left (left'.masks U) (left'.masks (next U)) (items_k U own far k f e n m d c)
      (sym partner.own) (sym partner.far) (sym items_back)))

  -- what is left after the act
  pub rest-after : rest_of (next_k U own far h e f m n c d).state k ≡ out
  rest-after =
      hidden_equal
      (beyond (items_in K) n.public.dealer_at k.dealer items.dealer out.dealer refl
      (ap (λ (s : Hidden). s.dealer) rest) dealer_many)
      (beyond (gates_in K) n.public.masks_at k.lacked items.lacked out.lacked refl
      (ap (λ (s : Hidden). s.lacked) rest) lacked_many)
