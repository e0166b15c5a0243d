-- Demand 3 of jobs of lawful acts, from a start: the change is a function with an inverse, which keeps fairness and views.
use Prim.Native.Nat.{ℕ}
use mathlib.Core.List.{List}
use mathlib.Core.Path.{◌≡◌, ap, refl, subst, sym, ◌∙◌}
use lib.ListN.{length}
use Rattle.gate.specs.Places.{Place, next}
use Rattle.view.specs.Views.{around, lacked_by}
use Rattle.view.proofs.AroundLaw.{around-far, around_lacked, around-own, each_around}
use Rattle.machine.specs.Checks.{Tapes}
use Rattle.act.specs.Changes.{Changed}
use Rattle.act.specs.Jobs.{Alike, AlikeLists, Entry, Fair, IsRun, Job, Words, views}
use Rattle.act.specs.Jobs as jobs
use Rattle.act.specs.Lawful.{Sameness, acting}
use Rattle.act.specs.Own.{own_of}
use Rattle.act.specs.Performs.{AtStart, KeepsPublic}
use Rattle.act.specs.Secrecy.{Hidden, Hides, Meet, Secrecy, tapes_with}
use Rattle.act.specs.Works.{Shared}
use Rattle.act.proofs.Forward.{forward}
use Rattle.act.proofs.InverseLaw.{change, inverse, unique}
use Rattle.act.proofs.LeftLaw.{EvenTapes}
use Rattle.act.proofs.SizeLaw.{lengths-whole, rest_empty, words-whole}
use Rattle.act.proofs.WorkLaw.{alike-back}

module _ {E D : Type 0} {Same : Sameness E D} {s : Shared E D} where
  -- being alike goes both ways
  lists_back : {es fs : List (Entry (acting Same s))} → AlikeLists es fs → AlikeLists fs es
  lists_back jobs.done = jobs.done
  lists_back (jobs.more a tail) =
      jobs.more
      (record {
        act = record {
          works = λ q. alike-back (a.act.works q);
          refusals = λ q len u v. sym (a.act.refusals q len v u);
          left = a.act.right;
          right = a.act.left;
        };
        masks_lent = sym a.masks_lent;
        dealer_lent = sym a.dealer_lent;
      })
      (lists_back tail)

  jobs_back : {J K : Job (acting Same s)} → Alike J K → Alike K J
  jobs_back a =
      record {
        entries = lists_back a.entries;
        channels = sym a.channels;
        masks_length = sym a.masks_length;
        dealer_length = sym a.dealer_length;
      }

  meet_back : {J K : Job (acting Same s)} {T T' : Tapes} → Meet J K T T' → Meet K J T' T
  meet_back m = record { run_j = m.run_k; run_k = m.run_j; fair_j = m.fair_k; fair_k = m.fair_j; opened = sym m.opened }

  -- tapes of a job's lengths
  even_tapes : (U : Place) (own far : List ℕ) (J : Job (acting Same s)) (T : Tapes) → IsRun J T
      → Words (J.masks_length U) own → Words (J.masks_length (next U)) far
      → (h : Hidden) → Hides J U h → EvenTapes T (tapes_with U own far h)
  even_tapes U own far J T run wo wf h hides =
      record {
        masks = each_around U (λ i. length (T.masks i) ≡ length (around U own far h.lacked i))
            ((run.masks U).long ∙ sym wo.long ∙ ap length (sym (around-own U own far h.lacked)))
            ((run.masks (next U)).long ∙ sym wf.long ∙ ap length (sym (around-far U own far h.lacked)))
            ((run.masks (lacked_by U)).long ∙ sym hides.lacked.long ∙ ap length (sym (around_lacked U own far h.lacked)));
        dealer = run.dealer.long ∙ sym hides.dealer.long;
      }

  module _ (start : AtStart s) (U : Place) (own far : List ℕ) (J K : Job (acting Same s)) (alike : Alike J K) where
    -- the changed tapes, from the first on
    unfoldable pub image : Hidden → Hidden
    image h = (change U own far h J.entries K.entries alike.entries s s J.channels K.channels).0

    changed : (h : Hidden) → Changed U own far h J.entries K.entries s s J.channels K.channels (image h)
    unfolding image
    changed h = (change U own far h J.entries K.entries alike.entries s s J.channels K.channels).1

    channels_long : (i : Place) → length (J.channels i) ≡ length (K.channels i)
    channels_long i = ap (λ (c : Place → List ℕ). length (c i)) alike.channels

    image_hides : (h : Hidden) → Hides J U h → Hides K U (image h)
    image_hides h hides =
        let both = words-whole U own far h start (changed h) alike.entries hides.dealer hides.lacked in
        record {
          dealer = subst (λ (n : ℕ). Words n (image h).dealer) alike.dealer_length both.0;
          lacked = subst (λ (n : Place → ℕ). Words (n (lacked_by U)) (image h).lacked) alike.masks_length both.1;
        }

    -- a fair run goes to a fair run, and looks the same
    forth : KeepsPublic Same → Same s s → Words (J.masks_length U) own → Words (J.masks_length (next U)) far
        → (T T' : Tapes) → Meet J K T T' → (h : Hidden) → Hides J U h → Fair J (tapes_with U own far h)
        → Fair K (tapes_with U own far (image h)) × (views U J (tapes_with U own far h) ≡ views U K (tapes_with U own far (image h)))
    forth same_public self wo wf T T' meet h hides fair_j =
        let k = image h in
        let wo' = subst (λ (n : Place → ℕ). Words (n U) own) alike.masks_length wo in
        let wf' = subst (λ (n : Place → ℕ). Words (n (next U)) far) alike.masks_length wf in
        forward same_public U own far h k (lengths-whole U own far h start (changed h) alike.entries) T T'
        (even_tapes U own far J T meet.run_j wo wf h hides)
        (even_tapes U own far K T' meet.run_k wo' wf' k (image_hides h hides))
        (changed h) alike.entries
        (record {
          follows_j = self;
          follows_k = self;
          own = ap (own_of U s) alike.channels;
          lengths_j = λ i. refl;
          lengths_k = λ i. refl;
          lengths = channels_long;
        })
        (rest_empty s start k)
        meet.fair_j meet.fair_k meet.opened fair_j

  -- there and back
  home : (start : AtStart s) (U : Place) (own far : List ℕ) (J K : Job (acting Same s)) (a : Alike J K) (b : Alike K J) (h : Hidden)
      → image start U own far K J b (image start U own far J K a h) ≡ h
  home start U own far J K a b h =
      let k = image start U own far J K a h in
      unique U own far (changed start U own far K J b k)
      (inverse U own far (changed start U own far J K a h) a.entries k
      (lengths-whole U own far h start (changed start U own far J K a h) a.entries)
      (record { public = refl; lengths = channels_long start U own far J K a })
      (rest_empty s start k))
      ∙ rest_empty s start h

  pub acting-secrecy : KeepsPublic Same → AtStart s → Same s s → Secrecy (acting Same s)
  acting-secrecy same_public start self J K a U own far wo wf =
      let wo' = subst (λ (n : Place → ℕ). Words (n U) own) a.masks_length wo in
      let wf' = subst (λ (n : Place → ℕ). Words (n (next U)) far) a.masks_length wf in
      let b = jobs_back a in
      let to = image start U own far J K a in
      let to_hides = image_hides start U own far J K a in
      record {
        to = to;
        from = image start U own far K J b;
        to_hides = to_hides;
        from_hides = image_hides start U own far K J b;
        from_to = λ h x. home start U own far J K a b h;
        to_from = λ h x. home start U own far K J b a h;
        fair = λ T T' meet h x. (
          (λ f. (forth start U own far J K a same_public self wo wf T T' meet h x f).0),
          (λ f. subst (λ (y : Hidden). Fair J (tapes_with U own far y)) (home start U own far J K a b h)
              (forth start U own far K J b same_public self wo' wf' T' T (meet_back meet) (to h) (to_hides h x) f).0),
        );
        alike = λ T T' meet h x f. (forth start U own far J K a same_public self wo wf T T' meet h x f).1;
      }

  -- the change that it gives
  pub to_is : (same_public : KeepsPublic Same) (start : AtStart s) (self : Same s s) (J K : Job (acting Same s)) (a : Alike J K)
      (U : Place) (own far : List ℕ) (wo : Words (J.masks_length U) own) (wf : Words (J.masks_length (next U)) far) (h : Hidden)
      → (acting-secrecy same_public start self J K a U own far wo wf).to h
      ≡ (change U own far h J.entries K.entries a.entries s s J.channels K.channels).0
  unfolding acting-secrecy image
  to_is same_public start self J K a U own far wo wf h = refl
