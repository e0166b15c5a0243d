-- The change keeps lengths, and 64-bit words go to 64-bit words: the changed tapes are again those of a run.
use Prim.Native.Nat.{ℕ, zero, suc, ◌+◌, ◌<◌, ◌^◌}
use mathlib.Core.List.{List, [], ◌∷◌, ◌++◌}
use mathlib.Core.Path.{◌≡◌, ap, refl, subst, sym, ◌∙◌}
use native.Mathlib.Omega.{arith}
use lib.ListN.{drop, get_or, length, length-append, length-drop}
use lib.Seq.{get_or-drop}
use Rattle.gate.specs.Places.{Pair, Place, next, p0, p1}
use Rattle.circuit.specs.Circuits.{Gate, moduli}
use Rattle.view.specs.Views.{Fits}
use Rattle.view.specs.Views as views
use Rattle.view.proofs.Theorems.{items_fit_gates}
use Rattle.act.specs.Changes.{Changed, before, dealt_around, decoded, differ, end, go, item, items_k, left_j, outcome_j, outcome_k, rest_of, skip, work_j, work_k}
use Rattle.act.specs.Jobs.{AlikeEntries, AlikeLists, Entry, Words, lent}
use Rattle.act.specs.Jobs as jobs
use Rattle.act.specs.Lawful.{AlikeWork, Narrow, NarrowWork, Sameness, acting}
use Rattle.act.specs.Lawful as lawful
use Rattle.act.specs.Own.{handed_of}
use Rattle.act.specs.Performs.{AtStart}
use Rattle.act.specs.Secrecy.{Hidden, tapes_with}
use Rattle.act.specs.Works.{Shared, Work, deals, evaluates, opens, words_from}
use Rattle.act.proofs.ActLaw.{passed}
use Rattle.act.proofs.DealLaw.{items_below}
use Rattle.act.proofs.GoLaw.{accepted_items, decoded_dealer, decoded_lacked, public_kept, rest-before}
use Rattle.act.proofs.LeftLaw.{SameLengths}
use Rattle.act.proofs.LevelLaw.{works_alike}
use Rattle.act.proofs.WorkLaw.{Fitting, brought-fits, decoded-back, fitting-alike, gates-alike, items_alike, segment}

-- a list of 64-bit words
abbrev Small : List ℕ → Type 0
Small l = (k : ℕ) → k < length l → get_or l k 0 < 2 ^ 64

-- hidden tapes of such words
record SmallHidden (h : Hidden) : Type 0 where
  dealer : Small h.dealer
  lacked : Small h.lacked

small-nil : Small []
small-nil k h = absurd (omega arith)

small-cons : (x : ℕ) (l : List ℕ) → x < 2 ^ 64 → Small l → Small (x ∷ l)
small-cons x l a p zero h = a
small-cons x l a p (suc k) h = p k (omega arith)

small-append : (a b : List ℕ) → Small a → Small b → Small (a ++ b)
small-append [] b p q = q
small-append (x ∷ a) b p q =
    small-cons x (a ++ b) (p zero (omega arith)) (small-append a b (λ k h. p (suc k) (omega arith)) q)

small-drop : (n : ℕ) (l : List ℕ) → Small l → Small (drop n l)
small-drop n l p k h = rw (get_or-drop n l k 0) (p (n + k) (omega (arith, length-drop n l)))

-- numbers below narrow moduli are such words
fits-small : {S : Type 0} {G : List (Gate S)} {xs : List ℕ} → Narrow G → Fits (moduli G) xs → Small xs
fits-small lawful.none views.none = small-nil
fits-small (lawful.more {g = g} b p) (views.more {x = x} {xs = xs} h f) = small-cons x xs (omega arith) (fits-small p f)

-- the items decoded are such words, where what is brought is in range
decoded-small : {E D : Type 0} (U : Place) (w : Work E D) (n : Place → D) (t t' W : List ℕ) (h : Pair) → NarrowWork w → Fitting w W h
    → SmallHidden (decoded U w n t t' W h)
unfolding decoded
decoded-small U (deals rest p v put) n t t' W h b fits =
    let range = items_below U p v h fits.0 fits.1 in
    let r₀ = dealt_around U p v h p0 in
    let r₁ = dealt_around U p v h p1 in
    record {
      dealer = small-cons r₀ (r₁ ∷ []) (omega arith) (small-cons r₁ [] (omega arith) small-nil);
      lacked = small-nil;
    }
decoded-small U (evaluates rest R) n t t' W h b fits =
    record { dealer = small-nil; lacked = fits-small b (items_fit_gates R.State U R.gates _ t t' W fits) }
decoded-small U (opens rest read value) n t t' W h b fits = record { dealer = small-nil; lacked = small-nil }

-- tapes before others
small-before : {a b : Hidden} → SmallHidden a → SmallHidden b → SmallHidden (before a b)
small-before {a} {b} p q =
    record {
      dealer = small-append a.dealer b.dealer p.dealer q.dealer;
      lacked = small-append a.lacked b.lacked p.lacked q.lacked;
    }

same_before : {a b x y : Hidden} → SameLengths a x → SameLengths b y → SameLengths (before a b) (before x y)
same_before {a} {b} {x} {y} p q =
    record {
      dealer = omega (arith, length-append a.dealer b.dealer, length-append x.dealer y.dealer, p.dealer, q.dealer);
      lacked = omega (arith, length-append a.lacked b.lacked, length-append x.lacked y.lacked, p.lacked, q.lacked);
    }

-- at the start everything is left
pub rest_empty : {E D : Type 0} (m : Shared E D) → AtStart m → (h : Hidden) → rest_of m h ≡ h
rest_empty m s h = rw (s.masks, s.dealer)

-- what is left of such tapes
rest-small : {E D : Type 0} {h : Hidden} → SmallHidden h → (m : Shared E D) → SmallHidden (rest_of m h)
rest-small {h = h} s m =
    record {
      dealer = small-drop m.public.dealer_at h.dealer s.dealer;
      lacked = small-drop m.public.masks_at h.lacked s.lacked;
    }

module _ {E D : Type 0} {Same : Sameness E D} {s : Shared E D} (U : Place) (own far : List ℕ) (h : Hidden) where
  -- one act that both accept
  module _ (e f : Entry (acting Same s)) (alike : AlikeEntries e f) (m n : Shared E D) (c d : Place → List ℕ) (public : m.public ≡ n.public)
      (doneJ : (outcome_j U own far h e f m n c d).refusal ≡ 0) where
    abbrev J : Work E D
    J = work_j U own far h e f m n c d

    abbrev K : Work E D
    K = work_k U own far h e f m n c d

    alike-work : AlikeWork J K
    alike-work = works_alike alike.act public

    -- as many items are decoded as J takes
    items_many : SameLengths (items_k U own far h e f m n c d) (segment U J (left_j U own far h e f m n c d))
    items_many =
        let left = left_j U own far h e f m n c d in
        let t = left.masks U in
        let t' = left.masks (next U) in
        let W = words_from J m.share left (next U) in
        let pr = handed_of U J left in
        let inside = accepted_items U own far h e alike.act.left m c doneJ in
        let back = decoded-back U J m.share left inside in
        record {
          dealer = decoded_dealer U K n.share t t' W pr
              ∙ sym (items_alike alike-work)
              ∙ sym (decoded_dealer U J m.share t t' W pr)
              ∙ ap (λ (s : Hidden). length s.dealer) back;
          lacked = decoded_lacked U K n.share t t' W pr
              ∙ sym (gates-alike alike-work)
              ∙ sym (decoded_lacked U J m.share t t' W pr)
              ∙ ap (λ (s : Hidden). length s.lacked) back;
        }

    -- and they are words
    items-small : (outcome_k U own far h e f m n c d).refusal ≡ 0 → SmallHidden (items_k U own far h e f m n c d)
    items-small doneK =
        let left = left_j U own far h e f m n c d in
        let TK = lent f (tapes_with U own far h) in
        decoded-small U K n.share (left.masks U) (left.masks (next U)) (words_from J m.share left (next U)) (handed_of U J left)
        (alike.act.right.narrow n.public _ (passed f.act n TK d doneK).0)
        (fitting-alike (words_from J m.share left (next U)) (handed_of U J left) alike-work
        (brought-fits U J m.share left (accepted_items U own far h e alike.act.left m c doneJ)))

  -- the changed tapes are as long as what was left
  lengths_kept : {es fs : List (Entry (acting Same s))} {m n : Shared E D} {c d : Place → List ℕ} {out : Hidden}
      → Changed U own far h es fs m n c d out → AlikeLists es fs → m.public ≡ n.public → SameLengths out (rest_of m h)
  lengths_kept end jobs.done public = record { dealer = refl; lacked = refl }
  lengths_kept (differ a) (jobs.more b tail) public = record { dealer = refl; lacked = refl }
  lengths_kept (item a) (jobs.more b tail) public = record { dealer = refl; lacked = refl }
  lengths_kept (skip a t z sub) (jobs.more b tail) public = lengths_kept sub tail public
  lengths_kept (go {e = e} {f = f} {m = m} {n = n} {c = c} {d = d} {out = out} doneJ doneK sub) (jobs.more b tail) public =
      let kept = lengths_kept sub tail (public_kept U own far h e f b m n c d public doneJ) in
      let items = items_many e f b m n c d public doneJ in
      subst (SameLengths _) (rest-before U own far h e b.act.left m c doneJ) (same_before items kept)

  -- and of 64-bit words
  words_kept : {es fs : List (Entry (acting Same s))} {m n : Shared E D} {c d : Place → List ℕ} {out : Hidden}
      → Changed U own far h es fs m n c d out → AlikeLists es fs → m.public ≡ n.public → SmallHidden h → SmallHidden out
  words_kept (end {m = m}) jobs.done public s = rest-small s m
  words_kept (differ {m = m} a) (jobs.more b tail) public s = rest-small s m
  words_kept (item {m = m} a) (jobs.more b tail) public s = rest-small s m
  words_kept (skip a t z sub) (jobs.more b tail) public s = words_kept sub tail public s
  words_kept (go {e = e} {f = f} {m = m} {n = n} {c = c} {d = d} {out = out} doneJ doneK sub) (jobs.more b tail) public s =
      let kept = words_kept sub tail (public_kept U own far h e f b m n c d public doneJ) s in
      let items = items-small e f b m n c d public doneJ doneK in
      small-before items kept

  -- from the start on they are as long as the whole tapes
  module _ (start : AtStart s) where
    pub lengths-whole : {es fs : List (Entry (acting Same s))} {c d : Place → List ℕ} {out : Hidden}
        → Changed U own far h es fs s s c d out → AlikeLists es fs → SameLengths h out
    lengths-whole changed alike =
        let kept = lengths_kept changed alike refl in
        let whole = rest_empty s start h in
        record {
          dealer = sym (kept.dealer ∙ ap (λ (s : Hidden). length s.dealer) whole);
          lacked = sym (kept.lacked ∙ ap (λ (s : Hidden). length s.lacked) whole);
        }

    -- so hidden tapes of 64-bit words go to such tapes of the same lengths
    pub words-whole : {es fs : List (Entry (acting Same s))} {c d : Place → List ℕ} {out : Hidden} {x y : ℕ}
        → Changed U own far h es fs s s c d out → AlikeLists es fs → Words x h.dealer → Words y h.lacked
        → Words x out.dealer × Words y out.lacked
    words-whole changed alike dealer lacked =
        let long = lengths-whole changed alike in
        let small = words_kept changed alike refl (record { dealer = dealer.below; lacked = lacked.below }) in (
          record { long = sym long.dealer ∙ dealer.long; below = small.dealer },
          record { long = sym long.lacked ∙ lacked.long; below = small.lacked },
        )
