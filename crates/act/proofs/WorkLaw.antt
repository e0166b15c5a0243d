-- What an act takes of its tapes, and that the hidden items and what they bring a party determine each other.
use Prim.Native.Nat.{ℕ, ◌≤◌, ◌<◌}
use mathlib.Core.List.{List, [], ◌∷◌}
use mathlib.Core.Path.{◌≡◌, ap, ap₂, fun_ext, refl, sym, ◌∙◌}
use native.Mathlib.Nat.{le_of_suc-le-suc, le_refl, not-suc-le-zero}
use native.Mathlib.Omega.{arith}
use lib.ListN.{get_or, length, take}
use lib.Seq.{take-take}
use Rattle.gate.specs.Places.{Pair, Place, next, p0, p1, p2, tabled}
use Rattle.gate.proofs.PlaceLaw.{each}
use Rattle.circuit.specs.Circuits.{Gate, moduli, sent}
use Rattle.view.specs.Views.{Fits, around, decode, encode, lacked_by}
use Rattle.view.proofs.AroundLaw.{each_around}
use Rattle.view.proofs.Theorems.{items_fit_gates, items_of_words, words_fit_gates, words_of_items}
use Rattle.machine.specs.Checks.{Tapes}
use Rattle.machine.specs.Step.{written}
use Rattle.act.specs.Acts.{performed}
use Rattle.act.specs.Changes.{dealt_around, decoded}
use Rattle.act.specs.Jobs.{Outcome}
use Rattle.act.specs.Lawful.{AlikeWork}
use Rattle.act.specs.Lawful as lawful
use Rattle.act.specs.Own.{handed_of}
use Rattle.act.specs.Secrecy.{Hidden}
use Rattle.act.specs.Works.{Evaluation, Shared, Work, begun, deals, evaluates, gates_in, items_in, opens, public_after, shares_after, value_from, words_from}
use Rattle.act.proofs.DealLaw.{items_back, items_below, pair-back, pair_below}
use Rattle.act.proofs.PrefixLaw.{Agree, ends_prefix, sent_prefix}

first_two : (t v : List ℕ) → take 2 t ≡ take 2 v → (get_or t 0 0 ≡ get_or v 0 0) × (get_or t 1 0 ≡ get_or v 1 0)
first_two t v e = (
  sym (zeroth t) ∙ ap (λ (l : List ℕ). get_or l 0 0) e ∙ zeroth v,
  sym (oneth t) ∙ ap (λ (l : List ℕ). get_or l 1 0) e ∙ oneth v,
)
  where
    zeroth : (l : List ℕ) → get_or (take 2 l) 0 0 ≡ get_or l 0 0
    zeroth [] = refl
    zeroth (x ∷ l) = refl

    oneth : (l : List ℕ) → get_or (take 2 l) 1 0 ≡ get_or l 1 0
    oneth [] = refl
    oneth (x ∷ []) = refl
    oneth (x ∷ y ∷ l) = refl

-- tapes that differ in the lacked one alone, beyond the items taken
pub agree_around : (n : ℕ) (U : Place) (T : Place → List ℕ) (M : List ℕ) → take n (T (lacked_by U)) ≡ take n M
    → Agree n T (around U (T U) (T (next U)) M)
agree_around n p0 T M e = each (λ i. take n (T i) ≡ take n (around p0 (T p0) (T p1) M i)) refl refl e
agree_around n p1 T M e = each (λ i. take n (T i) ≡ take n (around p1 (T p1) (T p2) M i)) e refl refl
agree_around n p2 T M e = each (λ i. take n (T i) ≡ take n (around p2 (T p2) (T p0) M i)) refl e refl

pub take_twice : (n : ℕ) (l : List ℕ) → take n l ≡ take n (take n l)
take_twice n l = sym (take-take n n l (le_refl n))

take-two : (l : List ℕ) → 2 ≤ length l → get_or l 0 0 ∷ get_or l 1 0 ∷ [] ≡ take 2 l
take-two [] h = absurd (not-suc-le-zero h)
take-two (x ∷ []) h = absurd (not-suc-le-zero (le_of_suc-le-suc h))
take-two (x ∷ y ∷ l) h = refl

abbrev record_of : List ℕ → List ℕ → Hidden
record_of a b = record { dealer = a; lacked = b }

two_of : (l : List ℕ) (a b : ℕ) → take 2 l ≡ a ∷ b ∷ [] → (get_or l 0 0 ≡ a) × (get_or l 1 0 ≡ b) × (2 ≤ length l)
two_of [] a b e = (ap (λ (l : List ℕ). get_or l 0 0) e, ap (λ (l : List ℕ). get_or l 1 0) e, omega (arith, ap length e))
two_of (x ∷ []) a b e = (ap (λ (l : List ℕ). get_or l 0 0) e, ap (λ (l : List ℕ). get_or l 1 0) e, omega (arith, ap length e))
two_of (x ∷ y ∷ l) a b e = (ap (λ (k : List ℕ). get_or k 0 0) e, ap (λ (k : List ℕ). get_or k 1 0) e, omega arith)

-- the words that U receives are those of the items taken
received_encodes : {S : Type 0} (U : Place) (G : List (Gate S)) (s : Place → S) (T : Place → List ℕ) (M : List ℕ)
    → take (length G) (T (lacked_by U)) ≡ take (length G) M
    → sent G s T (next U) ≡ encode U G s (T U) (T (next U)) M
unfolding encode
received_encodes U G s T M e =
    sent_prefix G s T (around U (T U) (T (next U)) M) (agree_around (length G) U T M e) (next U)

module _ {E D : Type 0} where
  -- two sets of tapes that agree in what an act takes
  pub record AgreeOn (w : Work E D) (left left' : Tapes) : Type 0 where
    pub masks : Agree (gates_in w) left.masks left'.masks
    pub dealer : take (items_in w) left.dealer ≡ take (items_in w) left'.dealer

  shares_agree : (w : Work E D) (s : Place → D) (left left' : Tapes) → AgreeOn w left left'
      → shares_after w s left ≡ shares_after w s left'
  unfolding shares_after
  shares_agree (deals rest p v put) s left left' a =
      let both = first_two left.dealer left'.dealer a.dealer in
      rw (both.0, both.1)
  shares_agree (evaluates rest R) s left left' a =
      ap (λ (z : Place → R.State). tabled (λ i. R.finish i (s i) (z i))) (ends_prefix R.gates (begun R s) left.masks left'.masks a.masks)
  shares_agree (opens rest read value) s left left' a = refl

  words_agree : (w : Work E D) (s : Place → D) (left left' : Tapes) → AgreeOn w left left'
      → (i : Place) → words_from w s left i ≡ words_from w s left' i
  unfolding words_from
  words_agree (deals rest p v put) s left left' a i = refl
  words_agree (evaluates rest R) s left left' a i = sent_prefix R.gates (begun R s) left.masks left'.masks a.masks i
  words_agree (opens rest read value) s left left' a i = refl

  -- an act does the same with them
  pub performed_agree : (w : Work E D) (m : Shared E D) (left left' : Tapes) (c : Place → List ℕ) → AgreeOn w left left'
      → performed w m left c ≡ performed w m left' c
  performed_agree w m left left' c a =
      ap₂ (λ z ws. left_by z ws) (shares_agree w m.share left left' a) (fun_ext (words_agree w m.share left left' a))
    where
      left_by : (Place → D) → (Place → List ℕ) → Outcome (Shared E D)
      left_by z ws =
          record {
            state = record { public = public_after w m.public; share = z };
            refusal = 0;
            value = value_from w m.share;
            gates = gates_in w;
            channels = tabled (λ i. written m.public.channels_at (ws i) (c i));
          }

  -- items in the ranges that an act tests, and enough of them
  abbrev pub Inside : Work E D → Tapes → Type 0
  Inside (deals rest p v put) left = (get_or left.dealer 0 0 < p) × (get_or left.dealer 1 0 < p) × (2 ≤ length left.dealer)
  Inside (evaluates rest R) left = (i : Place) → Fits (moduli R.gates) (take (length R.gates) (left.masks i))
  Inside (opens rest read value) left = Unit {0}

  -- what U does not see of the items that an act takes
  abbrev pub segment : Place → Work E D → Tapes → Hidden
  segment U w left =
      record { dealer = take (items_in w) left.dealer; lacked = take (gates_in w) (left.masks (lacked_by U)) }

  -- what an act brings U gives back the hidden items
  pub decoded-back : (U : Place) (w : Work E D) (s : Place → D) (left : Tapes) → Inside w left
      → decoded U w s (left.masks U) (left.masks (next U)) (words_from w s left (next U)) (handed_of U w left) ≡ segment U w left
  unfolding decoded words_from
  decoded-back U (deals rest p v put) s left inside =
      let r₀ = get_or left.dealer 0 0 in
      let r₁ = get_or left.dealer 1 0 in
      let back = items_back U p v r₀ r₁ inside.0 inside.1 in
      ap (λ (l : List ℕ). record_of l []) (ap₂ (λ (a b : ℕ). a ∷ b ∷ []) back.0 back.1 ∙ take-two left.dealer inside.2)
  decoded-back U (evaluates rest R) s left inside =
      let t = left.masks U in
      let t' = left.masks (next U) in
      let M = take (length R.gates) (left.masks (lacked_by U)) in
      ap (λ (l : List ℕ). record_of [] l)
      (ap (decode U R.gates (begun R s) t t')
      (received_encodes U R.gates (begun R s) left.masks M (take_twice (length R.gates) (left.masks (lacked_by U))))
      ∙ items_of_words R.State U R.gates (begun R s) t t' M (inside (lacked_by U)))
  decoded-back U (opens rest read value) s left inside = refl

  -- what is brought in the ranges of the act
  abbrev pub Fitting : Work E D → List ℕ → Pair → Type 0
  Fitting (deals rest p v put) W h = (h.own < p) × (h.far < p)
  Fitting (evaluates rest R) W h = Fits (moduli R.gates) W
  Fitting (opens rest read value) W h = Unit {0}

  pub brought-fits : (U : Place) (w : Work E D) (s : Place → D) (left : Tapes) → Inside w left
      → Fitting w (words_from w s left (next U)) (handed_of U w left)
  unfolding words_from
  brought-fits U (deals rest p v put) s left inside =
      pair_below U p v (get_or left.dealer 0 0) (get_or left.dealer 1 0) inside.0 inside.1
  brought-fits U (evaluates rest R) s left inside =
      let M = take (length R.gates) (left.masks (lacked_by U)) in
      rw (received_encodes U R.gates (begun R s) left.masks M (take_twice (length R.gates) (left.masks (lacked_by U))))
      (words_fit_gates R.State U R.gates (begun R s) (left.masks U) (left.masks (next U)) M (inside (lacked_by U)))
  brought-fits U (opens rest read value) s left inside = tt

  pub alike-back : {w w' : Work E D} → AlikeWork w w' → AlikeWork w' w
  alike-back lawful.same = lawful.same
  alike-back lawful.number = lawful.number

  -- what an act takes does not go by the number dealt
  pub gates-alike : {w w' : Work E D} → AlikeWork w w' → gates_in w ≡ gates_in w'
  gates-alike lawful.same = refl
  gates-alike lawful.number = refl

  pub items_alike : {w w' : Work E D} → AlikeWork w w' → items_in w ≡ items_in w'
  items_alike lawful.same = refl
  items_alike lawful.number = refl

  -- nor does what is brought
  pub fitting-alike : {w w' : Work E D} (W : List ℕ) (h : Pair) → AlikeWork w w' → Fitting w W h → Fitting w' W h
  fitting-alike W h lawful.same fits = fits
  fitting-alike W h lawful.number fits = fits

  -- K's tapes at an act: U's own as J's, and the hidden items that were decoded
  pub record Partner (U : Place) (w w' : Work E D) (m n : Shared E D) (left left' : Tapes) : Type 0 where
    pub own : left'.masks U ≡ left.masks U
    pub far : left'.masks (next U) ≡ left.masks (next U)
    pub items : segment U w' left'
        ≡ decoded U w' n.share (left.masks U) (left.masks (next U)) (words_from w m.share left (next U)) (handed_of U w left)

  -- a deal: the same pair, and items in range
  deal_partner : (U : Place) (rest : E) (p v v' : ℕ) (put : D → ℕ → D) (m n : Shared E D) (left left' : Tapes)
      → Inside (deals rest p v put) left
      → Partner U (deals rest p v put) (deals rest p v' put) m n left left'
      → (handed_of U (deals rest p v' put) left' ≡ handed_of U (deals rest p v put) left) × Inside (deals rest p v' put) left'
  unfolding decoded
  deal_partner U rest p v v' put m n left left' inside partner =
      let h = handed_of U (deals rest p v put) left in
      let fits = brought-fits U (deals rest p v put) m.share left inside in
      let items : take 2 left'.dealer ≡ dealt_around U p v' h p0 ∷ dealt_around U p v' h p1 ∷ []
      = ap (λ (s : Hidden). s.dealer) partner.items in
      let both = two_of left'.dealer (dealt_around U p v' h p0) (dealt_around U p v' h p1) items in
      let range = items_below U p v' h fits.0 fits.1 in (
        rw (both.0, both.1) (pair-back U p v' h fits.0 fits.1),
        (rw both.0 range.0, rw both.1 range.1, both.2),
      )

  run_partner : (U : Place) (rest : E) (R : Evaluation D) (m n : Shared E D) (left left' : Tapes)
      → Inside (evaluates rest R) left
      → Partner U (evaluates rest R) (evaluates rest R) m n left left'
      → (words_from (evaluates rest R) n.share left' (next U) ≡ words_from (evaluates rest R) m.share left (next U))
      × Inside (evaluates rest R) left'
  unfolding decoded words_from
  run_partner U rest R m n left left' inside partner =
      let t = left.masks U in
      let t' = left.masks (next U) in
      let g = length R.gates in
      let W = sent R.gates (begun R m.share) left.masks (next U) in
      let fits = brought-fits U (evaluates rest R) m.share left inside in
      let M = decode U R.gates (begun R n.share) t t' W in
      let items : take g (left'.masks (lacked_by U)) ≡ M = ap (λ (s : Hidden). s.lacked) partner.items in
      let lacked : take g (left'.masks (lacked_by U)) ≡ take g M
      = take_twice g (left'.masks (lacked_by U)) ∙ ap (take g) items in (
        received_encodes U R.gates (begun R n.share) left'.masks M lacked
            ∙ rw (partner.own, partner.far) (words_of_items R.State U R.gates (begun R n.share) t t' W fits),
        each_around U (λ i. Fits (moduli R.gates) (take g (left'.masks i)))
            (rw partner.own (inside U))
            (rw partner.far (inside (next U)))
            (rw items (items_fit_gates R.State U R.gates (begun R n.share) t t' W fits)),
      )

  -- K's act brings U the same pair and, unless it opens, the same words; and its items are in range
  pub handed_same : (U : Place) (w w' : Work E D) (m n : Shared E D) (left left' : Tapes) → AlikeWork w w' → Inside w left
      → Partner U w w' m n left left' → handed_of U w' left' ≡ handed_of U w left
  handed_same U (deals rest p v put) w' m n left left' lawful.same inside partner = (deal_partner U rest p v v put m n left left' inside partner).0
  handed_same U (deals rest p v put) w' m n left left' (lawful.number {v' = v'}) inside partner =
      (deal_partner U rest p v v' put m n left left' inside partner).0
  handed_same U (evaluates rest R) w' m n left left' lawful.same inside partner = refl
  handed_same U (opens rest read value) w' m n left left' lawful.same inside partner = refl

  pub partner_inside : (U : Place) (w w' : Work E D) (m n : Shared E D) (left left' : Tapes) → AlikeWork w w' → Inside w left
      → Partner U w w' m n left left' → Inside w' left'
  partner_inside U (deals rest p v put) w' m n left left' lawful.same inside partner = (deal_partner U rest p v v put m n left left' inside partner).1
  partner_inside U (deals rest p v put) w' m n left left' (lawful.number {v' = v'}) inside partner =
      (deal_partner U rest p v v' put m n left left' inside partner).1
  partner_inside U (evaluates rest R) w' m n left left' lawful.same inside partner = (run_partner U rest R m n left left' inside partner).1
  partner_inside U (opens rest read value) w' m n left left' lawful.same inside partner = tt

  -- an opening's word is the cell's, and no item's
  abbrev pub NoOpening : Work E D → Type 0
  NoOpening (deals rest p v put) = Unit {0}
  NoOpening (evaluates rest R) = Unit {0}
  NoOpening (opens rest read value) = ⊥

  pub received_same : (U : Place) (w w' : Work E D) (m n : Shared E D) (left left' : Tapes) → AlikeWork w w' → Inside w left → NoOpening w
      → Partner U w w' m n left left'
      → words_from w' n.share left' (next U) ≡ words_from w m.share left (next U)
  unfolding words_from
  received_same U (deals rest p v put) w' m n left left' lawful.same inside plain partner = refl
  received_same U (deals rest p v put) w' m n left left' lawful.number inside plain partner = refl
  received_same U (evaluates rest R) w' m n left left' lawful.same inside plain partner = (run_partner U rest R m n left left' inside partner).0
  received_same U (opens rest read value) w' m n left left' lawful.same inside plain partner = absurd plain
