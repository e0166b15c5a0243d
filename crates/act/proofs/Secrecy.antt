-- Demand 3 of every protocol that performs lawful acts: its jobs are jobs of acts, fair, opened and seen alike.
use Prim.Native.Nat.{ℕ}
use mathlib.Core.Bool.{Bool, cond, ◌&&◌}
use mathlib.Core.List.{List, [], ◌∷◌, head-eq_of_cons-eq, map, tail-eq_of_cons-eq}
use mathlib.Core.Path.{◌≡◌, ap, ap₂, refl, subst, subst₂, sym, transport, ◌∙◌}
use lib.Dec.{eqb}
use Rattle.gate.specs.Places.{Place, next}
use Rattle.machine.specs.Checks.{Tapes}
use Rattle.act.specs.Acts.{step}
use Rattle.act.specs.Jobs.{Alike, AlikeLists, Entry, FairFrom, Job, Outcome, Protocol, View, Words, course_from, lent, opened_from, outcome, view_of}
use Rattle.act.specs.Jobs as jobs
use Rattle.act.specs.Lawful.{Holding, acting}
use Rattle.act.specs.Performs.{PerformsActs, outcome_by}
use Rattle.act.specs.Secrecy.{Hidden, Hides, Meet, Secrecy, tapes_with}
use Rattle.act.specs.Works.{Shared}
use Rattle.act.proofs.Acting.{acting-secrecy}
use Rattle.act.proofs.Acting as acts
use Rattle.act.proofs.InverseLaw.{change}
use Rattle.act.proofs.OwnLaw.{view_equal}

opening_equal : {b b' : Bool} {r r' v v' : ℕ} {l l' : List ℕ} → b ≡ b' → r ≡ r' → v ≡ v' → l ≡ l'
    → cond (b && eqb r 0) (v ∷ l) l ≡ cond (b' && eqb r' 0) (v' ∷ l') l'
opening_equal p q s t = rw (p, q, s, t)

module _ {P : Protocol {0}} {E D : Type 0} (S : PerformsActs P E D) where
  -- the same job, of acts
  abbrev Acts : Protocol {1}
  Acts = acting S.Same (S.shared P.start)

  unfoldable pub act_entries : S.Plan → List (Entry P) → List (Entry Acts)
  act_entries σ [] = []
  act_entries σ (e ∷ es) =
      record { act = S.act e.act σ; masks_lent = e.masks_lent; dealer_lent = e.dealer_lent } ∷ act_entries (S.onward e.act σ) es

  abbrev pub job_of : Job P → Job Acts
  job_of J =
      record {
        entries = act_entries (S.plan P.start) J.entries;
        channels = J.channels;
        masks_length = J.masks_length;
        dealer_length = J.dealer_length;
      }

  unfoldable pub lists_alike : {es fs : List (Entry P)} → AlikeLists es fs → (σ τ : S.Plan) → S.AlikePlans σ τ
      → AlikeLists (act_entries σ es) (act_entries τ fs)
  unfolding act_entries
  lists_alike jobs.done σ τ h = jobs.done
  lists_alike (jobs.more {e = e} {f = f} a tail) σ τ h =
      jobs.more
      (record { act = S.alike e.act f.act σ τ a.act h; masks_lent = a.masks_lent; dealer_lent = a.dealer_lent })
      (lists_alike tail (S.onward e.act σ) (S.onward f.act τ) (S.alike-onward e.act f.act σ τ a.act h))

  abbrev pub jobs_alike : {J K : Job P} → Alike J K → Alike (job_of J) (job_of K)
  jobs_alike a =
      record {
        entries = lists_alike a.entries (S.plan P.start) (S.plan P.start) S.start-alike;
        channels = a.channels;
        masks_length = a.masks_length;
        dealer_length = a.dealer_length;
      }

  -- one step of a run, and that of its act
  module _ (T : Tapes) (e : Entry P) (m : P.State) (c : Place → List ℕ) (good : S.Good m) where
    abbrev after : Outcome P.State
    after = outcome e m T c

    abbrev acted : Outcome (Shared E D)
    acted = step (S.act e.act (S.plan m)) (S.shared m) (lent e T) c

    acted_is : acted ≡ outcome_by S.shared after
    acted_is = S.step_is e.act m (lent e T) c good

    refusal_is : acted.refusal ≡ after.refusal
    refusal_is = ap (λ (o : Outcome (Shared E D)). o.refusal) acted_is

    good_next : S.Good after.state
    good_next = S.good_after e.act m (lent e T) c good

    -- what goes by the plan, the data and the channels after it
    next_is {ℓ} : {A : Type ℓ} (f : S.Plan → Shared E D → (Place → List ℕ) → A)
        → f (S.onward e.act (S.plan m)) acted.state acted.channels
        ≡ f (S.plan after.state) (S.shared after.state) after.channels
    next_is f =
        ap (λ (o : Outcome (Shared E D)). f (S.onward e.act (S.plan m)) o.state o.channels) acted_is
        ∙ ap (λ (σ : S.Plan). f σ (S.shared after.state) after.channels) (sym (S.plan_after e.act m (lent e T) c good))

  module _ (T : Tapes) where
    fair_to : {es : List (Entry P)} {m : P.State} {c : Place → List ℕ} → S.Good m
        → FairFrom es m c T → FairFrom (act_entries (S.plan m) es) (S.shared m) c T
    unfolding act_entries
    fair_to good jobs.FairFrom.done = jobs.FairFrom.done
    fair_to good (jobs.FairFrom.fair {e = e} {es = es} {m = m} {c = c} f rest) =
        let same = refusal_is T e m c good in
        jobs.FairFrom.fair
        (record {
          number = λ r. f.number (transport (sym (S.number_is e.act m _ good)) (subst (S.act e.act (S.plan m)).NumberRefused same r));
          item = λ q. f.item (sym same ∙ q);
          small = λ q. transport (S.small_is e.act m good) (f.small (sym same ∙ q));
        })
        (transport (sym (next_is T e m c good (λ σ s d. FairFrom (act_entries σ es) s d T)))
        (fair_to (good_next T e m c good) rest))

    fair_back : (es : List (Entry P)) (m : P.State) (c : Place → List ℕ) → S.Good m
        → FairFrom (act_entries (S.plan m) es) (S.shared m) c T → FairFrom es m c T
    unfolding act_entries
    fair_back [] m c good h = jobs.FairFrom.done
    fair_back (e ∷ es) m c good (jobs.FairFrom.fair f rest) =
        let same = refusal_is T e m c good in
        jobs.FairFrom.fair
        (record {
          number = λ r. f.number (subst (S.act e.act (S.plan m)).NumberRefused (sym same) (transport (S.number_is e.act m _ good) r));
          item = λ q. f.item (same ∙ q);
          small = λ q. transport (sym (S.small_is e.act m good)) (f.small (same ∙ q));
        })
        (fair_back es (outcome e m T c).state (outcome e m T c).channels (good_next T e m c good)
        (transport (next_is T e m c good (λ σ s d. FairFrom (act_entries σ es) s d T)) rest))

    opened_is : (es : List (Entry P)) (m : P.State) (c : Place → List ℕ) → S.Good m
        → opened_from (act_entries (S.plan m) es) (S.shared m) c T ≡ opened_from es m c T
    unfolding act_entries opened_from
    opened_is [] m c good = refl
    opened_is (e ∷ es) m c good =
        opening_equal (sym (S.opening_is e.act m good)) (refusal_is T e m c good)
        (ap (λ (o : Outcome (Shared E D)). o.value) (acted_is T e m c good))
        (next_is T e m c good (λ σ s d. opened_from (act_entries σ es) s d T)
        ∙ opened_is es (outcome e m T c).state (outcome e m T c).channels (good_next T e m c good))

  -- alike jobs whose acts look the same to U look the same to it
  views_same : {es fs : List (Entry P)} → AlikeLists es fs → (U : Place) (T T' : Tapes) (m n : P.State) (c d : Place → List ℕ)
      → S.Good m → S.Good n → S.AlikePlans (S.plan m) (S.plan n)
      → map (view_of Acts U) (course_from (act_entries (S.plan m) es) (S.shared m) c T)
      ≡ map (view_of Acts U) (course_from (act_entries (S.plan n) fs) (S.shared n) d T')
      → map (view_of P U) (course_from es m c T) ≡ map (view_of P U) (course_from fs n d T')
  unfolding act_entries course_from
  views_same jobs.done U T T' m n c d good good' plans same = refl
  views_same (jobs.more {e = e} {f = f} {es = es} {fs = fs} a tail) U T T' m n c d good good' plans same =
      let o = outcome e m T c in
      let o' = outcome f n T' d in
      let first : view_of Acts U (outcome_by S.shared o) ≡ view_of Acts U (outcome_by S.shared o')
      = sym (ap (view_of Acts U) (acted_is T e m c good)) ∙ head-eq_of_cons-eq same ∙ ap (view_of Acts U) (acted_is T' f n d good') in
      let next_plans : S.AlikePlans (S.plan o.state) (S.plan o'.state)
      = subst₂ S.AlikePlans (sym (S.plan_after e.act m (lent e T) c good)) (sym (S.plan_after f.act n (lent f T') d good'))
      (S.alike-onward e.act f.act (S.plan m) (S.plan n) a.act plans) in
      ap₂ ◌∷◌
      (view_equal
      (S.seen_same U o.state o'.state (good_next T e m c good) (good_next T' f n d good') next_plans
      (ap (λ (v : View (Holding E D)). v.seen.public) first)
      (ap (λ (v : View (Holding E D)). v.seen.own) first)
      (ap (λ (v : View (Holding E D)). v.seen.far) first))
      (ap (λ (v : View (Holding E D)). v.sends) first)
      (ap (λ (v : View (Holding E D)). v.receives) first)
      (ap (λ (v : View (Holding E D)). v.refusal) first)
      (ap (λ (v : View (Holding E D)). v.value) first)
      (ap (λ (v : View (Holding E D)). v.gates) first))
      (views_same tail U T T' o.state o'.state o.channels o'.channels (good_next T e m c good) (good_next T' f n d good') next_plans
      (sym (next_is T e m c good (λ σ s x. map (view_of Acts U) (course_from (act_entries σ es) s x T)))
      ∙ tail-eq_of_cons-eq same
      ∙ next_is T' f n d good' (λ σ s x. map (view_of Acts U) (course_from (act_entries σ fs) s x T'))))

  meet_to : {J K : Job P} {T T' : Tapes} → Meet J K T T' → Meet (job_of J) (job_of K) T T'
  meet_to {J} {K} {T} {T'} meet =
      record {
        run_j = record { masks = meet.run_j.masks; dealer = meet.run_j.dealer };
        run_k = record { masks = meet.run_k.masks; dealer = meet.run_k.dealer };
        fair_j = fair_to T S.start_good meet.fair_j;
        fair_k = fair_to T' S.start_good meet.fair_k;
        opened = opened_is T J.entries P.start J.channels S.start_good
            ∙ meet.opened
            ∙ sym (opened_is T' K.entries P.start K.channels S.start_good);
      }

  pub secrecy_of : Secrecy P
  secrecy_of J K alike U own far wo wf =
      let C = acting-secrecy S.same_public S.start-at S.start_same (job_of J) (job_of K) (jobs_alike alike) U own far wo wf in
      let there : Hidden → Tapes = λ h. tapes_with U own far h in
      record {
        to = C.to;
        from = C.from;
        to_hides = λ h x. back K (C.to_hides h (forth J x));
        from_hides = λ h x. back J (C.from_hides h (forth K x));
        from_to = λ h x. C.from_to h (forth J x);
        to_from = λ h x. C.to_from h (forth K x);
        fair = λ T T' meet h x.
            let both = C.fair T T' (meet_to meet) h (forth J x) in (
              (λ f. fair_back (there (C.to h)) K.entries P.start K.channels S.start_good
                  (both.0 (fair_to (there h) S.start_good f))),
              (λ f. fair_back (there h) J.entries P.start J.channels S.start_good
                  (both.1 (fair_to (there (C.to h)) S.start_good f))),
            );
        alike = λ T T' meet h x f.
            views_same alike.entries U (there h) (there (C.to h)) P.start P.start J.channels K.channels
            S.start_good S.start_good S.start-alike
            (C.alike T T' (meet_to meet) h (forth J x) (fair_to (there h) S.start_good f));
      }
    where
      forth : (L : Job P) {h : Hidden} → Hides L U h → Hides (job_of L) U h
      forth L x = record { dealer = x.dealer; lacked = x.lacked }

      back : (L : Job P) {h : Hidden} → Hides (job_of L) U h → Hides L U h
      back L x = record { dealer = x.dealer; lacked = x.lacked }

  -- the change that it gives is that of its acts
  pub to_is : (J K : Job P) (a : Alike J K) (U : Place) (own far : List ℕ)
      (wo : Words (J.masks_length U) own) (wf : Words (J.masks_length (next U)) far) (h : Hidden)
      → (secrecy_of J K a U own far wo wf).to h
      ≡ (change U own far h (job_of J).entries (job_of K).entries (jobs_alike a).entries
      (S.shared P.start) (S.shared P.start) J.channels K.channels).0
  unfolding secrecy_of
  to_is J K a U own far wo wf h = acts.to_is S.same_public S.start-at S.start_same (job_of J) (job_of K) (jobs_alike a) U own far wo wf h
