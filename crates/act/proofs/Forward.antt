-- A fair run of J goes to a fair run of K with the same views, act by act, beside one fair run of each.
use Prim.Native.Nat.{ℕ}
use mathlib.Core.Bool.{Bool, true}
use mathlib.Core.List.{List, ◌∷◌, map}
use mathlib.Core.Path.{◌≡◌, ap, ap₂, refl, subst, subst₂, sym, ◌∙◌}
use native.Mathlib.Omega.{arith}
use lib.ListN.{length}
use Rattle.gate.specs.Places.{Place}
use Rattle.view.specs.Views.{lacked_by}
use Rattle.machine.specs.Checks.{Tapes}
use Rattle.machine.specs.Step.{lengths_of}
use Rattle.act.specs.Acts.{is_opening, performed, refusal_by}
use Rattle.act.specs.Changes.{Changed, before, differ, end, go, item, items_k, next_k, outcome_j, rest_of, skip}
use Rattle.act.specs.Jobs.{
  AlikeEntries,
  AlikeLists,
  Entry,
  FairAct,
  FairFrom,
  Outcome,
  View,
  course_from,
  lent,
  opened_from,
  outcome,
  refused,
  view,
  view_of,
}
use Rattle.act.specs.Jobs as jobs
use Rattle.act.specs.Lawful.{AlikeWork, Holding, Sameness, acting, told_at}
use Rattle.act.specs.Lawful as lawful
use Rattle.act.specs.Own.{Own, own_of}
use Rattle.act.specs.Performs.{KeepsPublic}
use Rattle.act.specs.Secrecy.{Hidden, tapes_with}
use Rattle.act.specs.Works.{Shared, Work, bad_item, left_of, value_from}
use Rattle.act.proofs.ActLaw.{done_is, public_refusal, refusal_is, refused_is}
use Rattle.act.proofs.GoLaw.{done_k', inside, left_by, next_k_is, partner, rest-after}
use Rattle.act.proofs.InverseLaw.{kept_refusal, outcome_long}
use Rattle.act.proofs.LeftLaw.{EvenTapes, SameLengths, even_lengths, lengths_beside}
use Rattle.act.proofs.LevelLaw.{Level, works_alike}
use Rattle.act.proofs.OpenedLaw.{opened_accepted, opened-refused, opens_with}
use Rattle.act.proofs.OwnLaw.{opening_alike, own-after, value-alike, values_equal, view_same}
use Rattle.act.proofs.WorkLaw.{gates-alike}

items_same : {E D : Type 0} {w w' : Work E D} → AlikeWork w w' → (left : Tapes) → bad_item w left ≡ bad_item w' left
items_same lawful.same left = refl
items_same lawful.number left = refl

-- four runs at one act: J's and K's reference runs at mT and nT, and the runs at m and n that U compares
pub record Four {E D : Type 0} (Same : Sameness E D) (U : Place) (mT nT m n : Shared E D) (cT dT c d : Place → List ℕ) : Type 0 where
  pub follows_j : Same mT m
  pub follows_k : Same nT n
  pub own : own_of U m c ≡ own_of U n d
  pub lengths_j : (i : Place) → length (cT i) ≡ length (c i)
  pub lengths_k : (i : Place) → length (dT i) ≡ length (d i)
  pub lengths : (i : Place) → length (c i) ≡ length (d i)

on_level : {E D : Type 0} {Same : Sameness E D} {U : Place} {mT nT m n : Shared E D} {cT dT c d : Place → List ℕ}
    → Four Same U mT nT m n cT dT c d → Level m n c d
on_level {E = E} {D = D} f = record { public = ap (λ (o : Own E D). o.public) f.own; lengths = f.lengths }

-- the views of the acts from here on
abbrev pub views_from : {E D : Type 0} {Same : Sameness E D} {s : Shared E D}
    → Place → List (Entry (acting Same s)) → Shared E D → (Place → List ℕ) → Tapes → List (View (Holding E D))
views_from {Same = Same} {s = s} U es m c T = map (view_of (acting Same s) U) (course_from es m c T)

openings_alike : {E D : Type 0} {Same : Sameness E D} {s : Shared E D} → KeepsPublic Same → {e f : Entry (acting Same s)} → AlikeEntries e f
    → {U : Place} {mT nT m n : Shared E D} {cT dT c d : Place → List ℕ} → Four Same U mT nT m n cT dT c d
    → is_opening (e.act.work mT.public) ≡ is_opening (f.act.work nT.public)
openings_alike same_public alike {mT = mT} {nT = nT} {m = m} {n = n} four =
    opening_alike (works_alike alike.act
    (same_public mT m four.follows_j ∙ (on_level four).public ∙ sym (same_public nT n four.follows_k)))

module _ {E D : Type 0} {Same : Sameness E D} (same_public : KeepsPublic Same)
    (U : Place) (own far : List ℕ) (h k : Hidden) (lens : SameLengths h k) (T T' : Tapes)
    (evenJ : EvenTapes T (tapes_with U own far h)) (evenK : EvenTapes T' (tapes_with U own far k)) where
  abbrev TJ : Tapes
  TJ = tapes_with U own far h

  abbrev TK : Tapes
  TK = tapes_with U own far k

  -- at one act that is fair in both reference runs and in J's run
  module _ {s : Shared E D} (e f : Entry (acting Same s)) (alike : AlikeEntries e f) (mT nT m n : Shared E D) (cT dT c d : Place → List ℕ)
      (four : Four Same U mT nT m n cT dT c d)
      (fairT : FairAct e mT (outcome e mT T cT).refusal)
      (fairT' : FairAct f nT (outcome f nT T' dT).refusal)
      (fair_j : FairAct e m (outcome e m TJ c).refusal) where
    level : Level m n c d
    level = on_level four

    -- J's refusal is that of its reference run, and it is public
    abbrev public_j : ℕ
    public_j = e.act.refusal m.public (lengths_of (lent e TJ) c)

    is_public_j : (outcome e m TJ c).refusal ≡ public_j
    is_public_j = public_refusal e.act m (lent e TJ) c fair_j.item

    refusal_t : (outcome e mT T cT).refusal ≡ (outcome e m TJ c).refusal
    refusal_t =
        public_refusal e.act mT (lent e T) cT fairT.item
        ∙ ap₂ e.act.refusal (same_public mT m four.follows_j) (even_lengths e e refl refl T TJ evenJ cT c four.lengths_j)
        ∙ sym is_public_j

    -- K's public refusal is the same
    abbrev public_at : ℕ
    public_at = f.act.refusal m.public (lengths_of (lent e TJ) c)

    lengths_k' : lengths_of (lent e TJ) c ≡ lengths_of (lent f TJ) d
    lengths_k' = even_lengths e f alike.masks_lent alike.dealer_lent TJ TJ (record { masks = λ i. refl; dealer = refl }) c d four.lengths

    is_public_t' : (outcome f nT T' dT).refusal ≡ public_at
    is_public_t' =
        public_refusal f.act nT (lent f T') dT fairT'.item
        ∙ ap₂ f.act.refusal
        (same_public nT n four.follows_k ∙ sym level.public)
        (even_lengths f f refl refl T' TK evenK dT d four.lengths_k
        ∙ sym (lengths_beside U own far f h k lens d)
        ∙ sym lengths_k')

    public_same : public_j ≡ public_at
    public_same =
        alike.act.refusals m.public (lengths_of (lent e TJ) c)
        (λ r. fair_j.number (subst e.act.NumberRefused (sym is_public_j) r))
        (λ r. fairT'.number (subst f.act.NumberRefused (sym is_public_t') r))

    -- all four refusals are one
    refusal_t' : (outcome f nT T' dT).refusal ≡ (outcome e m TJ c).refusal
    refusal_t' = is_public_t' ∙ sym public_same ∙ sym is_public_j

    left_level : left_of n.public (lent f TJ) ≡ left_of m.public (lent e TJ)
    left_level = left_by (sym level.public) (sym alike.masks_lent) (sym alike.dealer_lent) TJ

    tested_k : (outcome e m TJ c).refusal ≡ (outcome f n TJ d).refusal
    tested_k =
        refusal_is e.act m (lent e TJ) c
        ∙ ap₂ refusal_by
        (public_same ∙ ap₂ f.act.refusal level.public lengths_k')
        (items_same (works_alike alike.act level.public) (left_of m.public (lent e TJ))
        ∙ ap (bad_item (f.act.work n.public)) (sym left_level))
        ∙ sym (refusal_is f.act n (lent f TJ) d)

    -- J's and K's acts after the ones before
    abbrev Goal : List (Entry (acting Same s)) → List (Entry (acting Same s)) → Shared E D → Shared E D → (Place → List ℕ) → (Place → List ℕ) → Type 1
    Goal es fs m' n' c' d' =
        FairFrom fs n' d' TK × (views_from U es m' c' TJ ≡ views_from U fs n' d' TK)

    -- one act more: its views are the same, and K's is fair
    more_by : (es fs : List (Entry (acting Same s))) (o o' : Outcome (Shared E D)) → outcome e m TJ c ≡ o → outcome f n TK d ≡ o'
        → FairAct f n (outcome f n TK d).refusal
        → view_of (acting Same s) U o ≡ view_of (acting Same s) U o'
        → Goal es fs o.state o'.state o.channels o'.channels
        → Goal (e ∷ es) (f ∷ fs) m n c d
    unfolding course_from
    more_by es fs o o' isJ isK fair_k view (fairs, views) = (
      jobs.fair fair_k (subst (λ (x : Outcome (Shared E D)). FairFrom fs x.state x.channels TK) (sym isK) fairs),
      ap₂ ◌∷◌
          (ap (view_of (acting Same s) U) isJ ∙ view ∙ sym (ap (view_of (acting Same s) U) isK))
          (ap (λ (x : Outcome (Shared E D)). views_from U es x.state x.channels TJ) isJ
          ∙ views
          ∙ sym (ap (λ (x : Outcome (Shared E D)). views_from U fs x.state x.channels TK) isK)),
    )

    -- both refused
    module _ (z : (outcome e m TJ c).refusal ≡ 0 → ⊥) where
      refused_k : (outcome e m TJ c).refusal ≡ (outcome f n TK d).refusal
      refused_k =
          tested_k
          ∙ kept_refusal U own far h k lens f n d (λ q. z (tested_k ∙ q)) (λ q. fair_j.item (tested_k ∙ q))

      stay : (es fs : List (Entry (acting Same s))) → Goal es fs m n c d → Goal (e ∷ es) (f ∷ fs) m n c d
      stay es fs goal =
          more_by es fs (refused (outcome e m TJ c).refusal m c) (refused (outcome f n TK d).refusal n d)
          (refused_is e.act m (lent e TJ) c z)
          (refused_is f.act n (lent f TK) d (λ q. z (refused_k ∙ q)))
          (record {
            number = λ r. fairT'.number (subst f.act.NumberRefused (sym (refusal_t' ∙ refused_k)) r);
            item = λ q. fair_j.item (refused_k ∙ q);
            small = λ q. absurd (z (refused_k ∙ q));
          })
          (view_same Same s U (refused (outcome e m TJ c).refusal m c) (refused (outcome f n TK d).refusal n d) four.own refused_k refl refl)
          goal

    -- both accepted
    module _ (doneJ : (outcome e m TJ c).refusal ≡ 0) (doneK : (outcome f n TJ d).refusal ≡ 0)
        (out : Hidden) (rest : rest_of n k ≡ before (items_k U own far h e f m n c d) out)
        (openings : is_opening (e.act.work mT.public) ≡ true → (outcome e mT T cT).value ≡ (outcome f nT T' dT).value) where
      K-done : (outcome f n TK d).refusal ≡ 0
      K-done = done_k' U own far h k lens e f alike m n c d level doneJ doneK out rest

      T-done : (outcome e mT T cT).refusal ≡ 0
      T-done = refusal_t ∙ doneJ

      T'-done : (outcome f nT T' dT).refusal ≡ 0
      T'-done = refusal_t' ∙ doneJ

      abbrev work_j : Work E D
      work_j = e.act.work m.public

      abbrev work_k : Work E D
      work_k = f.act.work n.public

      abbrev left_j : Tapes
      left_j = left_of m.public (lent e TJ)

      abbrev left_k : Tapes
      left_k = left_of n.public (lent f TK)

      J-is : outcome e m TJ c ≡ performed work_j m left_j c
      J-is = done_is e.act m (lent e TJ) c doneJ

      K-is : outcome f n TK d ≡ performed work_k n left_k d
      K-is = done_is f.act n (lent f TK) d K-done

      same_works : AlikeWork work_j work_k
      same_works = works_alike alike.act level.public

      -- what is opened is the same, and so is what it tells
      same_values : value_from work_j m.share ≡ value_from work_k n.share
      same_values =
          let w_t : Work E D = e.act.work mT.public in
          let w_t' : Work E D = f.act.work nT.public in
          let publics : mT.public ≡ nT.public
          = same_public mT m four.follows_j ∙ level.public ∙ sym (same_public nT n four.follows_k) in
          let is_t : (outcome e mT T cT).value ≡ value_from w_t mT.share
          = ap (λ (o : Outcome (Shared E D)). o.value) (done_is e.act mT (lent e T) cT T-done) in
          let is_t' : (outcome f nT T' dT).value ≡ value_from w_t' nT.share
          = ap (λ (o : Outcome (Shared E D)). o.value) (done_is f.act nT (lent f T') dT T'-done) in
          sym (alike.act.left.value mT m four.follows_j)
          ∙ values_equal w_t w_t' (works_alike alike.act publics) mT.share nT.share (λ q. sym is_t ∙ openings q ∙ is_t')
          ∙ alike.act.right.value nT n four.follows_k

      told : told_at work_j m.share (lacked_by U) ≡ told_at work_j n.share (lacked_by U)
      told =
          alike.act.left.third U mT m nT n (lengths_of (lent e TJ) c) four.follows_j four.follows_k level.public
          (sym is_public_j ∙ doneJ)
          (ap (λ (o : Own E D). o.own) four.own)
          (ap (λ (o : Own E D). o.far) four.own)
          (same_values ∙ sym (value-alike same_works n.share))

      own-next : own_of U (performed work_j m left_j c).state (performed work_j m left_j c).channels
          ≡ own_of U (performed work_k n left_k d).state (performed work_k n left_k d).channels
      own-next =
          own-after U m n c d left_j left_k four.own work_j work_k same_works
          (inside U own far h k lens e f alike m n c d level doneJ doneK out rest)
          told
          (partner U own far h k lens e f alike m n c d level doneJ doneK out rest)

      pass : (es fs : List (Entry (acting Same s)))
          → Goal es fs (outcome_j U own far h e f m n c d).state (next_k U own far h e f m n c d).state
          (outcome_j U own far h e f m n c d).channels (next_k U own far h e f m n c d).channels
          → Goal (e ∷ es) (f ∷ fs) m n c d
      pass es fs goal =
          more_by es fs (performed work_j m left_j c) (performed work_k n left_k d) J-is K-is
          (record {
            number = λ r. fairT'.number (subst f.act.NumberRefused (K-done ∙ sym T'-done) r);
            item = λ q. absurd (omega (arith, sym K-done ∙ q));
            small = λ q. alike.act.right.small nT n four.follows_k (fairT'.small T'-done);
          })
          (view_same Same s U (performed work_j m left_j c) (performed work_k n left_k d) own-next refl same_values (gates-alike same_works))
          (subst₂ (λ (o o' : Outcome (Shared E D)). Goal es fs o.state o'.state o.channels o'.channels)
          J-is
          (sym (next_k_is U own far h k lens e f alike m n c d level doneJ doneK out rest) ∙ K-is)
          goal)

      next_four : Four Same U (outcome e mT T cT).state (outcome f nT T' dT).state
          (outcome_j U own far h e f m n c d).state (next_k U own far h e f m n c d).state
          (outcome e mT T cT).channels (outcome f nT T' dT).channels
          (outcome_j U own far h e f m n c d).channels (next_k U own far h e f m n c d).channels
      next_four =
          let is = next_k_is U own far h k lens e f alike m n c d level doneJ doneK out rest in
          subst (λ (o : Outcome (Shared E D)). Four Same U (outcome e mT T cT).state (outcome f nT T' dT).state (outcome e m TJ c).state o.state
          (outcome e mT T cT).channels (outcome f nT T' dT).channels (outcome e m TJ c).channels o.channels) is
          (record {
            follows_j = alike.act.left.keeps mT m (lent e T) (lent e TJ) cT c four.follows_j T-done doneJ (fairT.small T-done);
            follows_k = alike.act.right.keeps nT n (lent f T') (lent f TK) dT d four.follows_k T'-done K-done (fairT'.small T'-done);
            own =
                ap (λ (o : Outcome (Shared E D)). own_of U o.state o.channels) J-is
                ∙ own-next
                ∙ sym (ap (λ (o : Outcome (Shared E D)). own_of U o.state o.channels) K-is);
            lengths_j = λ i. outcome_long e alike.act.left mT T cT T-done i ∙ four.lengths_j i ∙ sym (outcome_long e alike.act.left m TJ c doneJ i);
            lengths_k = λ i. outcome_long f alike.act.right nT T' dT T'-done i ∙ four.lengths_k i ∙ sym (outcome_long f alike.act.right n TK d K-done i);
            lengths = λ i. outcome_long e alike.act.left m TJ c doneJ i ∙ four.lengths i ∙ sym (outcome_long f alike.act.right n TK d K-done i);
          })

module _ {E D : Type 0} {Same : Sameness E D} {s : Shared E D} (same_public : KeepsPublic Same)
    (U : Place) (own far : List ℕ) (h k : Hidden) (lens : SameLengths h k) (T T' : Tapes)
    (evenJ : EvenTapes T (tapes_with U own far h)) (evenK : EvenTapes T' (tapes_with U own far k)) where
  pub forward : {es fs : List (Entry (acting Same s))} {m n mT nT : Shared E D} {c d cT dT : Place → List ℕ} {out : Hidden}
      → Changed U own far h es fs m n c d out → AlikeLists es fs → Four Same U mT nT m n cT dT c d → rest_of n k ≡ out
      → FairFrom es mT cT T → FairFrom fs nT dT T' → opened_from es mT cT T ≡ opened_from fs nT dT T'
      → FairFrom es m c (tapes_with U own far h)
      → FairFrom fs n d (tapes_with U own far k)
      × (views_from U es m c (tapes_with U own far h) ≡ views_from U fs n d (tapes_with U own far k))
  unfolding course_from opened_from
  forward end jobs.done four rest jobs.done jobs.done opened jobs.done = (jobs.done, refl)
  forward {mT = mT} {nT = nT} {cT = cT} {dT = dT} (differ {e = e} {f = f} {m = m} {n = n} {c = c} {d = d} ne)
      (jobs.more a tail) four rest (jobs.fair fT restT) (jobs.fair fT' restT') opened (jobs.fair fJ rest_j) =
      absurd (ne (tested_k same_public U own far h k lens T T' evenJ evenK e f a mT nT m n cT dT c d four fT fT' fJ))
  forward (item ten) (jobs.more a tail) four rest (jobs.fair fT restT) (jobs.fair fT' restT') opened (jobs.fair fJ rest_j) = absurd (fJ.item ten)
  forward {mT = mT} {nT = nT} {cT = cT} {dT = dT} (skip {e = e} {f = f} {es = es} {fs = fs} {m = m} {n = n} {c = c} {d = d} eq t z sub)
      (jobs.more a tail) four rest (jobs.fair fT restT) (jobs.fair fT' restT') opened (jobs.fair fJ rest_j) =
      let is_t = refusal_t same_public U own far h k lens T T' evenJ evenK e f a mT nT m n cT dT c d four fT fT' fJ in
      let is_t' = refusal_t' same_public U own far h k lens T T' evenJ evenK e f a mT nT m n cT dT c d four fT fT' fJ in
      let stayT = refused_is e.act mT (lent e T) cT (λ q. z (sym is_t ∙ q)) in
      let stayT' = refused_is f.act nT (lent f T') dT (λ q. z (sym is_t' ∙ q)) in
      let stayJ = refused_is e.act m (lent e (tapes_with U own far h)) c z in
      let rests = opened-refused (is_opening (e.act.work mT.public)) (outcome e mT T cT).refusal (outcome f nT T' dT).refusal
      (outcome e mT T cT).value (outcome f nT T' dT).value
      (opened_from es (outcome e mT T cT).state (outcome e mT T cT).channels T)
      (opened_from fs (outcome f nT T' dT).state (outcome f nT T' dT).channels T')
      (λ q. z (sym is_t ∙ q)) (λ q. z (sym is_t' ∙ q))
      (opened ∙ ap (λ (b : Bool). opens_with b (outcome f nT T' dT).refusal (outcome f nT T' dT).value
      (opened_from fs (outcome f nT T' dT).state (outcome f nT T' dT).channels T')) (sym (openings_alike same_public a four))) in
      stay same_public U own far h k lens T T' evenJ evenK e f a mT nT m n cT dT c d four fT fT' fJ z es fs
      (forward sub tail four rest
      (subst (λ (o : Outcome (Shared E D)). FairFrom es o.state o.channels T) stayT restT)
      (subst (λ (o : Outcome (Shared E D)). FairFrom fs o.state o.channels T') stayT' restT')
      (sym (ap (λ (o : Outcome (Shared E D)). opened_from es o.state o.channels T) stayT)
      ∙ rests
      ∙ ap (λ (o : Outcome (Shared E D)). opened_from fs o.state o.channels T') stayT')
      (subst (λ (o : Outcome (Shared E D)). FairFrom es o.state o.channels (tapes_with U own far h)) stayJ rest_j))
  forward {mT = mT} {nT = nT} {cT = cT} {dT = dT} (go {e = e} {f = f} {es = es} {fs = fs} {m = m} {n = n} {c = c} {d = d} {out = out} doneJ doneK sub)
      (jobs.more a tail) four rest (jobs.fair fT restT) (jobs.fair fT' restT') opened (jobs.fair fJ rest_j) =
      let is_t = refusal_t same_public U own far h k lens T T' evenJ evenK e f a mT nT m n cT dT c d four fT fT' fJ in
      let is_t' = refusal_t' same_public U own far h k lens T T' evenJ evenK e f a mT nT m n cT dT c d four fT fT' fJ in
      let both = opened_accepted (is_opening (e.act.work mT.public)) (outcome e mT T cT).refusal (outcome f nT T' dT).refusal
      (outcome e mT T cT).value (outcome f nT T' dT).value
      (opened_from es (outcome e mT T cT).state (outcome e mT T cT).channels T)
      (opened_from fs (outcome f nT T' dT).state (outcome f nT T' dT).channels T')
      (is_t ∙ doneJ) (is_t' ∙ doneJ)
      (opened ∙ ap (λ (b : Bool). opens_with b (outcome f nT T' dT).refusal (outcome f nT T' dT).value
      (opened_from fs (outcome f nT T' dT).state (outcome f nT T' dT).channels T')) (sym (openings_alike same_public a four))) in
      pass same_public U own far h k lens T T' evenJ evenK e f a mT nT m n cT dT c d four fT fT' fJ doneJ doneK out rest both.1 es fs
      (forward sub tail
      (next_four same_public U own far h k lens T T' evenJ evenK e f a mT nT m n cT dT c d four fT fT' fJ doneJ doneK out rest both.1)
      (rest-after U own far h k lens e f a m n c d (on_level four) doneJ doneK out rest)
      restT restT' both.0 rest_j)
