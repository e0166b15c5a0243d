-- The change is a function, and the change from K to J undoes that from J to K, on all tapes.
use Prim.Native.Nat.{ℕ, zero, suc}
use mathlib.Core.Bool.{Bool, false, true}
use mathlib.Core.List.{List, [], ◌∷◌}
use mathlib.Core.Path.{◌≡◌, ap, ap₂, refl, subst, subst₂, sym, ◌∙◌}
use native.Mathlib.Decide.{ℕ_discrete}
use native.Mathlib.Omega.{arith}
use lib.ListN.{drop, length}
use Rattle.gate.specs.Places.{Place}
use Rattle.machine.specs.Checks.{Lengths, Tapes}
use Rattle.machine.specs.Step.{lengths_of}
use Rattle.act.specs.Acts.{refusal_by}
use Rattle.act.specs.Changes.{Changed, before, differ, end, go, item, items_k, next_k, outcome_j, outcome_k, rest_of, skip}
use Rattle.act.specs.Jobs.{AlikeEntries, AlikeLists, Entry, Outcome, lent, outcome}
use Rattle.act.specs.Jobs as jobs
use Rattle.act.specs.Lawful.{Lawful, Sameness, acting}
use Rattle.act.specs.Secrecy.{Hidden, tapes_with}
use Rattle.act.specs.Works.{Public, Shared, bad_item, left_of}
use Rattle.act.proofs.ActLaw.{channels_long, done_is, passed, refusal_is}
use Rattle.act.proofs.GoLaw.{done_j', done_k', items_back, next_j_is, next_k_is, public_kept, rest-after, rest-before}
use Rattle.act.proofs.LeftLaw.{SameLengths, left_same_rest, lengths_beside}
use Rattle.act.proofs.LevelLaw.{Level}

-- an accepted act keeps the channels' lengths
pub outcome_long : {E D : Type 0} {Same : Sameness E D} {s : Shared E D} (e : Entry (acting Same s)) → Lawful Same e.act
    → (m : Shared E D) (T : Tapes) (c : Place → List ℕ)
    → (outcome e m T c).refusal ≡ 0 → (i : Place) → length ((outcome e m T c).channels i) ≡ length (c i)
outcome_long {E = E} {D = D} e law m T c done i =
    let T' = lent e T in
    ap (λ (o : Outcome (Shared E D)). length (o.channels i)) (done_is e.act m T' c done)
    ∙ channels_long (e.act.work m.public) m T' (left_of m.public T') c (law.lends m.public _ (passed e.act m T' c done).0) i

-- a refusal for something public does not go by the items
public_refused : (r : ℕ) (b b' : Bool) → (refusal_by r b ≡ 0 → ⊥) → (refusal_by r b ≡ 10 → ⊥) → refusal_by r b ≡ refusal_by r b'
public_refused zero true b' z t = absurd (t refl)
public_refused zero false b' z t = absurd (z refl)
public_refused (suc r) b b' z t = refl

-- positions on a level leave the same
rest_level : {E D : Type 0} (m n : Shared E D) (x : Hidden) → m.public ≡ n.public → rest_of m x ≡ rest_of n x
rest_level {E = E} m n x e = ap (λ (q : Public E). rest_at q) e
  where
    rest_at : Public E → Hidden
    rest_at q = record { dealer = drop q.dealer_at x.dealer; lacked = drop q.masks_at x.lacked }

module _ {E D : Type 0} {Same : Sameness E D} {s : Shared E D} (U : Place) (own far : List ℕ) where
  abbrev refusal_on : Hidden → Entry (acting Same s) → Shared E D → (Place → List ℕ) → ℕ
  refusal_on x e m c = (outcome e m (tapes_with U own far x) c).refusal

  -- tapes with the same left are refused the same
  same_refusal : (h k : Hidden) → SameLengths h k → (e : Entry (acting Same s)) (m : Shared E D) (c : Place → List ℕ)
      → rest_of m h ≡ rest_of m k
      → refusal_on h e m c ≡ refusal_on k e m c
  same_refusal h k lens e m c rest =
      let p = m.public in
      refusal_is e.act m (lent e (tapes_with U own far h)) c
      ∙ ap₂ (λ (l : Lengths) (T : Tapes). refusal_by (e.act.refusal p l) (bad_item (e.act.work p) T))
      (lengths_beside U own far e h k lens c)
      (left_same_rest U own far m e h k rest)
      ∙ sym (refusal_is e.act m (lent e (tapes_with U own far k)) c)

  -- so it is the same on all tapes of the same lengths
  pub kept_refusal : (h k : Hidden) → SameLengths h k → (e : Entry (acting Same s)) (m : Shared E D) (c : Place → List ℕ)
      → (refusal_on h e m c ≡ 0 → ⊥) → (refusal_on h e m c ≡ 10 → ⊥) → refusal_on h e m c ≡ refusal_on k e m c
  kept_refusal h k lens e m c z t =
      let p = m.public in
      let T = lent e (tapes_with U own far h) in
      let T' = lent e (tapes_with U own far k) in
      let bad = bad_item (e.act.work p) in
      let by = refusal_is e.act m T c in
      by
      ∙ public_refused (e.act.refusal p (lengths_of T c)) (bad (left_of p T)) (bad (left_of p T'))
      (λ q. z (by ∙ q)) (λ q. t (by ∙ q))
      ∙ ap (λ (l : Lengths). refusal_by (e.act.refusal p l) (bad (left_of p T')))
      (lengths_beside U own far e h k lens c)
      ∙ sym (refusal_is e.act m T' c)

  -- data stays on a level
  level_after : (h k : Hidden) (lens : SameLengths h k) (e f : Entry (acting Same s)) (alike : AlikeEntries e f)
      (m n : Shared E D) (c d : Place → List ℕ)
      (level : Level m n c d)
      (doneJ : (outcome_j U own far h e f m n c d).refusal ≡ 0) (doneK : (outcome_k U own far h e f m n c d).refusal ≡ 0)
      (out : Hidden) (rest : rest_of n k ≡ before (items_k U own far h e f m n c d) out)
      → Level
      (outcome_j U own far h e f m n c d).state (next_k U own far h e f m n c d).state
      (outcome_j U own far h e f m n c d).channels (next_k U own far h e f m n c d).channels
  level_after h k lens e f alike m n c d level doneJ doneK out rest =
      let K-is = next_k_is U own far h k lens e f alike m n c d level doneJ doneK out rest in
      let K-done = done_k' U own far h k lens e f alike m n c d level doneJ doneK out rest in
      record {
        public = public_kept U own far h e f alike m n c d level.public doneJ;
        lengths = λ i.
            outcome_long e alike.act.left m (tapes_with U own far h) c doneJ i
            ∙ level.lengths i
            ∙ sym (outcome_long f alike.act.right n (tapes_with U own far k) d K-done i)
            ∙ ap (λ (o : Outcome (Shared E D)). length (o.channels i)) K-is;
      }

  -- changing the changed tapes back gives the tapes
  pub inverse : {h : Hidden} {es fs : List (Entry (acting Same s))} {m n : Shared E D} {c d : Place → List ℕ} {out : Hidden}
      → Changed U own far h es fs m n c d out → AlikeLists es fs → (k : Hidden) → SameLengths h k → Level m n c d → rest_of n k ≡ out
      → Changed U own far k fs es n m d c (rest_of m h)
  inverse {h = h} (end {m = m} {n = n} {c = c} {d = d}) jobs.done k lens level rest =
      subst (λ (o : Hidden). Changed {Same = Same} {s = s} U own far k [] [] n m d c o) rest end
  inverse {h = h} (differ {e = e} {f = f} {es = es} {fs = fs} {m = m} {n = n} {c = c} {d = d} ne) (jobs.more a tail) k lens level rest =
      let rest_j : rest_of m h ≡ rest_of m k = sym rest ∙ sym (rest_level m n k level.public) in
      let rest_k : rest_of n h ≡ rest_of n k = sym (rest_level m n h level.public) ∙ sym rest in
      let sameJ = same_refusal h k lens e m c rest_j in
      let sameK = same_refusal h k lens f n d rest_k in
      subst (λ (o : Hidden). Changed U own far k (f ∷ fs) (e ∷ es) n m d c o) rest
      (differ (λ q. ne (sameJ ∙ sym q ∙ sym sameK)))
  inverse {h = h} (item {e = e} {f = f} {es = es} {fs = fs} {m = m} {n = n} {c = c} {d = d} ten) (jobs.more a tail) k lens level rest =
      let rest_j : rest_of m h ≡ rest_of m k = sym rest ∙ sym (rest_level m n k level.public) in
      let sameJ = same_refusal h k lens e m c rest_j in
      subst (λ (o : Hidden). Changed U own far k (f ∷ fs) (e ∷ es) n m d c o) rest
      (by_ten (sym sameJ ∙ ten) (ℕ_discrete (refusal_on k f n d) 10))
    where
      by_ten : refusal_on k e m c ≡ 10 → Dec (refusal_on k f n d ≡ 10) → Changed U own far k (f ∷ fs) (e ∷ es) n m d c (rest_of n k)
      by_ten t (yes q) = item q
      by_ten t (no q) = differ (λ r. q (r ∙ t))
  inverse {h = h} (skip {e = e} {f = f} {es = es} {fs = fs} {m = m} {n = n} {c = c} {d = d} eq t z sub) (jobs.more a tail) k lens level rest =
      let sameJ = kept_refusal h k lens e m c z t in
      let sameK = kept_refusal h k lens f n d (λ q. z (eq ∙ q)) (λ q. t (eq ∙ q)) in
      skip (sym sameK ∙ sym eq ∙ sameJ) (λ q. t (eq ∙ sameK ∙ q)) (λ q. z (eq ∙ sameK ∙ q)) (inverse sub tail k lens level rest)
  inverse {h = h} (go {e = e} {f = f} {es = es} {fs = fs} {m = m} {n = n} {c = c} {d = d} {out = out} doneJ doneK sub) (jobs.more a tail) k lens level rest =
      let after = rest-after U own far h k lens e f a m n c d level doneJ doneK out rest in
      let on = level_after h k lens e f a m n c d level doneJ doneK out rest in
      let back = inverse sub tail k lens on after in
      let X = rest_of (outcome_j U own far h e f m n c d).state h in
      let moved = subst₂ (λ (o o' : Outcome (Shared E D)). Changed U own far k fs es o.state o'.state o.channels o'.channels X)
      (sym (next_k_is U own far h k lens e f a m n c d level doneJ doneK out rest))
      (sym (next_j_is U own far h k lens e f a m n c d level doneJ doneK out rest))
      back in
      subst (λ (o : Hidden). Changed U own far k (f ∷ fs) (e ∷ es) n m d c o)
      (ap (λ (i : Hidden). before i X) (items_back U own far h k lens e f a m n c d level doneJ doneK out rest)
      ∙ rest-before U own far h e a.act.left m c doneJ)
      (go (done_k' U own far h k lens e f a m n c d level doneJ doneK out rest)
      (done_j' U own far h k lens e f a m n c d level doneJ doneK out rest)
      moved)

  -- the changed tapes are one
  pub unique : {h : Hidden} {es fs : List (Entry (acting Same s))} {m n : Shared E D} {c d : Place → List ℕ} {out out' : Hidden}
      → Changed U own far h es fs m n c d out → Changed U own far h es fs m n c d out' → out ≡ out'
  unique end end = refl
  unique (differ a) (differ b) = refl
  unique (differ a) (item b) = refl
  unique (differ a) (skip b t z sub) = absurd (a b)
  unique (differ a) (go b b' sub) = absurd (a (b ∙ sym b'))
  unique (item a) (differ b) = refl
  unique (item a) (item b) = refl
  unique (item a) (skip b t z sub) = absurd (t a)
  unique (item a) (go b b' sub) = absurd (omega (arith, sym a ∙ b))
  unique (skip a t z sub) (differ b) = absurd (b a)
  unique (skip a t z sub) (item b) = absurd (t b)
  unique (skip a t z sub) (skip b t' z' sub') = unique sub sub'
  unique (skip a t z sub) (go b b' sub') = absurd (z b)
  unique (go a a' sub) (differ b) = absurd (b (a ∙ sym a'))
  unique (go a a' sub) (item b) = absurd (omega (arith, sym a ∙ b))
  unique (go a a' sub) (skip b t z sub') = absurd (z a)
  unique {h = h} (go {e = e} {f = f} {m = m} {n = n} {c = c} {d = d} a a' sub) (go b b' sub') =
      ap (before (items_k U own far h e f m n c d)) (unique sub sub')

  -- and there always are some
  unfoldable pub change : (h : Hidden) (es fs : List (Entry (acting Same s))) → AlikeLists es fs → (m n : Shared E D) (c d : Place → List ℕ)
      → (out : Hidden) × Changed U own far h es fs m n c d out
  change h [] [] jobs.done m n c d = (rest_of m h, end)
  change h [] (f ∷ fs) alike m n c d = elim alike [ ]
  change h (e ∷ es) [] alike m n c d = elim alike [ ]
  change h (e ∷ es) (f ∷ fs) (jobs.more a tail) m n c d =
      by
      (ℕ_discrete (outcome_j U own far h e f m n c d).refusal (outcome_k U own far h e f m n c d).refusal)
      (ℕ_discrete (outcome_j U own far h e f m n c d).refusal 10)
      (ℕ_discrete (outcome_j U own far h e f m n c d).refusal 0)
      (change h es fs tail)
    where
      J : Outcome (Shared E D)
      J = outcome_j U own far h e f m n c d

      K : Outcome (Shared E D)
      K = outcome_k U own far h e f m n c d

      N : Outcome (Shared E D)
      N = next_k U own far h e f m n c d

      by : Dec (J.refusal ≡ K.refusal) → Dec (J.refusal ≡ 10) → Dec (J.refusal ≡ 0)
          → ((m' n' : Shared E D) (c' d' : Place → List ℕ) → (out : Hidden) × Changed U own far h es fs m' n' c' d' out)
          → (out : Hidden) × Changed U own far h (e ∷ es) (f ∷ fs) m n c d out
      by (no q) t z rec = (rest_of m h, differ q)
      by (yes q) (yes t) z rec = (rest_of m h, item t)
      by (yes q) (no t) (no z) rec = let r = rec m n c d in (r.0, skip q t z r.1)
      by (yes q) (no t) (yes z) rec =
          let r = rec J.state N.state J.channels N.channels in
          (before (items_k U own far h e f m n c d) r.0, go z (sym q ∙ z) r.1)
