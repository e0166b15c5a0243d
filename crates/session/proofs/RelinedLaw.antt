-- Lines with other tapes, and what a party sees of them (specs/Course.antt).
use Prim.Native.Nat.{ℕ, zero, suc}
use mathlib.Core.List.{List, [], ◌∷◌, ◌++◌, flatten, map}
use mathlib.Core.Path.{◌≡◌, ap, ap₂, fun_ext, refl, subst, subst₂, sym, ◌∙◌}
use native.Mathlib.Omega.{arith}
use lib.ListN.{drop, drop_of_length-le, get_or, length, length-drop, length-take, take}
use lib.Seq.{drop-cons}
use Rattle.gate.specs.Places.{Place, next, p0, p1, p2, three}
use Rattle.gate.proofs.PlaceLaw.{tabled-at, tabled_is}
use Rattle.view.specs.Views.{around, lacked_by}
use Rattle.view.proofs.AroundLaw.{around-far, around_lacked, around-own, each_around}
use Rattle.machine.specs.Checks.{Tapes}
use Rattle.act.specs.Jobs.{Entry, Fair, IsRun, Job, Words, views}
use Rattle.act.specs.Secrecy.{Hidden, Hides, tapes_with}
use Rattle.act.proofs.LeftLaw.{tapes_equal}
use Rattle.protocol.specs.Orders.{orders}
use Rattle.protocol.proofs.Secrecy.{secrecy}
use Rattle.line.specs.declared.commands.Command.{Command}
use Rattle.line.specs.declared.commands.Command.TheVariants.{Dealer, Masks, Order, Unreadable}
use Rattle.session.specs.Course.{
  AlikeCommands,
  AlikeSaid,
  Instead,
  entries_from,
  item_of,
  job_of,
  mask_of,
  relined,
  relined_from,
  tapes_of,
}
use Rattle.session.specs.Outputs.{most}
use Rattle.session.specs.Theorems as theorem
use Rattle.session.proofs.AlikeLaw.{alike_read, dealer_long, masks_long, one_more, printed-seen}

-- every line is like itself
alike_self : (ks : List Command) → AlikeSaid ks ks
alike_self [] = AlikeSaid.done
alike_self (Masks t₀ t₁ t₂ ∷ ks) = AlikeSaid.more AlikeCommands.masks (alike_self ks)
alike_self (Dealer item ∷ ks) = AlikeSaid.more AlikeCommands.dealer (alike_self ks)
alike_self (Order o ∷ ks) = AlikeSaid.more (AlikeCommands.order refl) (alike_self ks)
alike_self (Unreadable ∷ ks) = AlikeSaid.more AlikeCommands.unreadable (alike_self ks)

-- an order that is lent as much
entry_same : (o : orders.Act) {m m' : Place → ℕ} {k k' : ℕ} → m ≡ m' → k ≡ k'
    → ◌≡◌ {A = Entry orders} (record { act = o; masks_lent = m; dealer_lent = k }) (record { act = o; masks_lent = m'; dealer_lent = k' })
entry_same o e f = rw (e, f) refl

-- a tape from item n on: no line left
none_taken : (N n : ℕ) (X : List ℕ) → length (drop n X) ≡ length (take {A = ℕ} N []) → take N [] ≡ drop n X
none_taken N n X long = grind (arith, length-drop, length-take, drop_of_length-le)

-- and one more line, behind which the new items are X's
one-taken : (N n : ℕ) (X : List ℕ) (t : ℕ) (old new : List ℕ) → length (drop n X) ≡ length (take N (t ∷ old))
    → ((M : ℕ) → length (drop (suc n) X) ≡ length (take M old) → take M new ≡ drop (suc n) X)
    → take N (get_or X n t ∷ new) ≡ drop n X
one-taken zero n X t old new long onward = sym (drop_of_length-le X {i = n} (omega (arith, length-drop n X)))
one-taken (suc N) n X t old new long onward =
    let cut = drop-cons X n t (omega (arith, length-drop n X)) in
    ap (λ (l : List ℕ). get_or X n t ∷ l) (onward N (omega (arith, length-drop n X, length-drop (suc n) X))) ∙ sym cut

module _ (T : Tapes) where
  -- lines stay alike to others when they get other tapes
  alike-relined : {ks js : List Command} → AlikeSaid ks js → (n d : ℕ) → AlikeSaid ks (relined_from n d T js)
  unfolding relined_from
  alike-relined AlikeSaid.done n d = AlikeSaid.done
  alike-relined (AlikeSaid.more AlikeCommands.masks rest) n d = AlikeSaid.more AlikeCommands.masks (alike-relined rest (suc n) d)
  alike-relined (AlikeSaid.more AlikeCommands.dealer rest) n d = AlikeSaid.more AlikeCommands.dealer (alike-relined rest n (suc d))
  alike-relined (AlikeSaid.more (AlikeCommands.order e) rest) n d = AlikeSaid.more (AlikeCommands.order e) (alike-relined rest n d)
  alike-relined (AlikeSaid.more AlikeCommands.unreadable rest) n d = AlikeSaid.more AlikeCommands.unreadable (alike-relined rest n d)

  -- each order is lent what it was, below lines that are alike
  entries_same : {above above' : List Command} → AlikeSaid above above' → (n d : ℕ) (ks : List Command)
      → entries_from above' (relined_from n d T ks) ≡ entries_from above ks
  unfolding entries_from relined_from
  entries_same over n d [] = refl
  entries_same {above = above} over n d (Masks t₀ t₁ t₂ ∷ ks) =
      entries_same {above = above ++ (Masks t₀ t₁ t₂ ∷ [])} (one_more over AlikeCommands.masks) (suc n) d ks
  entries_same {above = above} over n d (Dealer item ∷ ks) =
      entries_same {above = above ++ (Dealer item ∷ [])} (one_more over AlikeCommands.dealer) n (suc d) ks
  entries_same {above = above} over n d (Order o ∷ ks) =
      ap₂ ◌∷◌ (entry_same o (fun_ext (λ i. sym (masks_long over i))) (sym (dealer_long over)))
      (entries_same {above = above ++ (Order o ∷ [])} (one_more over (AlikeCommands.order refl)) n d ks)
  entries_same {above = above} over n d (Unreadable ∷ ks) =
      entries_same {above = above ++ (Unreadable ∷ [])} (one_more over AlikeCommands.unreadable) n d ks

  -- the item of a mask line, at a place
  mask_at : (i : Place) (n t₀ t₁ t₂ : ℕ)
      → three (get_or (T.masks p0) n t₀) (get_or (T.masks p1) n t₁) (get_or (T.masks p2) n t₂) i ≡ get_or (T.masks i) n (three t₀ t₁ t₂ i)
  mask_at p0 n t₀ t₁ t₂ = refl
  mask_at p1 n t₀ t₁ t₂ = refl
  mask_at p2 n t₀ t₁ t₂ = refl

  -- the tapes are T's from the items on that stand above
  masks_from : (i : Place) (n d : ℕ) (ks : List Command) (N : ℕ)
      → length (drop n (T.masks i)) ≡ length (take N (flatten (map (mask_of i) ks)))
      → take N (flatten (map (mask_of i) (relined_from n d T ks))) ≡ drop n (T.masks i)
  unfolding flatten relined_from
  masks_from i n d [] N long = none_taken N n (T.masks i) long
  masks_from i n d (Masks t₀ t₁ t₂ ∷ ks) N long =
      rw (mask_at i n t₀ t₁ t₂)
      (one-taken N n (T.masks i) (three t₀ t₁ t₂ i) (flatten (map (mask_of i) ks)) _ long (masks_from i (suc n) d ks))
  masks_from i n d (Dealer item ∷ ks) N long = masks_from i n (suc d) ks N long
  masks_from i n d (Order o ∷ ks) N long = masks_from i n d ks N long
  masks_from i n d (Unreadable ∷ ks) N long = masks_from i n d ks N long

  dealer_from : (n d : ℕ) (ks : List Command) (N : ℕ)
      → length (drop d T.dealer) ≡ length (take N (flatten (map item_of ks)))
      → take N (flatten (map item_of (relined_from n d T ks))) ≡ drop d T.dealer
  unfolding flatten relined_from
  dealer_from n d [] N long = none_taken N d T.dealer long
  dealer_from n d (Masks t₀ t₁ t₂ ∷ ks) N long = dealer_from (suc n) d ks N long
  dealer_from n d (Dealer item ∷ ks) N long =
      one-taken N d T.dealer item (flatten (map item_of ks)) _ long (dealer_from n (suc d) ks)
  dealer_from n d (Order o ∷ ks) N long = dealer_from n d ks N long
  dealer_from n d (Unreadable ∷ ks) N long = dealer_from n d ks N long

pub relined-run : theorem.Relined
unfolding tapes_of
relined-run ks T run =
    let strand : List Command → Place → List ℕ = λ js i. take most (flatten (map (mask_of i) js)) in
    let masks : (i : Place) → strand (relined T ks) i ≡ T.masks i =
    λ i. masks_from T i 0 0 ks most ((run.masks i).long ∙ ap length (tabled-at (strand ks) i)) in (
      alike-relined T (alike_self ks) 0 0,
      entries_same T AlikeSaid.done 0 0 ks,
      tapes_equal (tabled_is (strand (relined T ks)) ∙ fun_ext masks) (dealer_from T 0 0 ks most run.dealer.long),
    )

-- the same orders, lent as much, make the same job
job_same : {ks js : List Command} → AlikeSaid ks js → entries_from [] js ≡ entries_from [] ks → job_of ks ≡ job_of js
job_same {ks} {js} a e =
    let alike = alike_read ks js a in
    rw (← e, alike.masks_length, alike.dealer_length) refl

-- a fair run of the job that ks' make, which looks to U like ks, is one of lines
instead : (U : Place) (ks ks' : List Command) → AlikeSaid ks ks' → (T : Tapes) → IsRun (job_of ks') T
    → T.masks U ≡ (tapes_of ks).masks U → T.masks (next U) ≡ (tapes_of ks).masks (next U) → Fair (job_of ks') T
    → views U (job_of ks) (tapes_of ks) ≡ views U (job_of ks') T
    → Instead U ks ks'
instead U ks ks' a T run own far is-fair sees =
    let lines = relined T ks' in
    let made = relined-run ks' T run in
    let job : job_of ks' ≡ job_of lines = job_same made.0 made.1 in
    let tapes : T ≡ tapes_of lines = sym made.2 in
    let alike = alike-relined T a 0 0 in
    let same = subst₂ (λ (J : Job orders) (X : Tapes). views U (job_of ks) (tapes_of ks) ≡ views U J X) job tapes sees in
    record {
      lines = lines;
      alike = alike;
      entries = made.1;
      own = ap (λ (X : Tapes). X.masks U) made.2 ∙ own;
      far = ap (λ (X : Tapes). X.masks (next U)) made.2 ∙ far;
      run = subst₂ (IsRun {P = orders}) job tapes run;
      fair = subst₂ (Fair {P = orders}) job tapes is-fair;
      sees = same;
      prints = printed-seen U ks lines alike _ _ same;
    }

-- four tapes as party U has them
module _ (U : Place) where
  abbrev hidden : Tapes → Hidden
  hidden T = record { dealer = T.dealer; lacked = T.masks (lacked_by U) }

  tapes-whole : (T : Tapes) → tapes_with U (T.masks U) (T.masks (next U)) (hidden T) ≡ T
  tapes-whole T =
      tapes_equal
      (fun_ext
      (each_around U (λ i. around U (T.masks U) (T.masks (next U)) (T.masks (lacked_by U)) i ≡ T.masks i)
      (around-own U _ _ _) (around-far U _ _ _) (around_lacked U _ _ _)))
      refl

  -- and as runs
  run_hides : (J : Job orders) (T : Tapes) → IsRun J T → Hides J U (hidden T)
  run_hides J T run = record { dealer = run.dealer; lacked = run.masks (lacked_by U) }

  hides_run : (J : Job orders) (own far : List ℕ) (h : Hidden) → Words (J.masks_length U) own → Words (J.masks_length (next U)) far
      → Hides J U h → IsRun J (tapes_with U own far h)
  hides_run J own far h x y hides =
      record {
        masks = each_around U (λ i. Words (J.masks_length i) (around U own far h.lacked i))
            (rw (around-own U own far h.lacked) x)
            (rw (around-far U own far h.lacked) y)
            (rw (around_lacked U own far h.lacked) hides.lacked);
        dealer = hides.dealer;
      }

pub lines_hide : theorem.LinesHide
lines_hide ks ks' a T' meet U =
    let J = job_of ks in
    let K = job_of ks' in
    let T = tapes_of ks in
    let own = T.masks U in
    let far = T.masks (next U) in
    let h = hidden U T in
    let alike = alike_read ks ks' a in
    let own-words = meet.run_j.masks U in
    let far-words = meet.run_j.masks (next U) in
    let hides = run_hides U J T meet.run_j in
    let change = secrecy J K alike U own far own-words far-words in
    let whole = tapes-whole U T in
    let is-fair = subst (Fair J) (sym whole) meet.fair_j in
    let image = change.to h in
    instead U ks ks' a (tapes_with U own far image)
    (hides_run U K own far image
    (subst (λ (n : Place → ℕ). Words (n U) own) alike.masks_length own-words)
    (subst (λ (n : Place → ℕ). Words (n (next U)) far) alike.masks_length far-words)
    (change.to_hides h hides))
    (around-own U _ _ _)
    (around-far U _ _ _)
    ((change.fair T T' meet h hides).0 is-fair)
    (ap (views U J) (sym whole) ∙ change.alike T T' meet h hides is-fair)
