-- What a party has after an act is a function of what it had and what the act brings it; so alike acts that bring the same leave the same.
use Prim.Native.Nat.{ℕ}
use mathlib.Core.Bool.{true}
use mathlib.Core.List.{List, [], ◌∷◌}
use mathlib.Core.Path.{◌≡◌, ap, ap₂, refl, sym, ◌∙◌}
use lib.ListN.{get_or}
use Rattle.gate.specs.Places.{Pair, Place, next, parts}
use Rattle.gate.proofs.PlaceLaw.{tabled-at}
use Rattle.circuit.specs.Circuits.{ends, sent}
use Rattle.view.specs.Views.{Held, held_states, lacked_by, own_ends, own_sent}
use Rattle.view.proofs.Theorems.{ends-local, sent-local}
use Rattle.machine.specs.Checks.{Tapes}
use Rattle.machine.specs.Step.{dealt_shares, written}
use Rattle.act.specs.Acts.{is_opening, performed}
use Rattle.act.specs.Jobs.{Outcome, view, view_of}
use Rattle.act.specs.Lawful.{AlikeWork, Holding, Sameness, acting, told_at}
use Rattle.act.specs.Lawful as lawful
use Rattle.act.specs.Local.{WorkLocal}
use Rattle.act.specs.Own.{Brought, Own, brought, own_of, own_performed, own_shares, own_starts, own_value, own_words}
use Rattle.act.specs.Works.{Evaluation, Public, Shared, Work, begun, deals, evaluates, opens, shares_after, value_from, words_from}
use Rattle.act.proofs.WorkLaw.{Inside, Partner, handed_same, received_same}

own_equal : {E D : Type 0} {p q : Public E} {o o' f f' : D} {s s' r r' : List ℕ} → p ≡ q → o ≡ o' → f ≡ f' → s ≡ s' → r ≡ r'
    → ◌≡◌ {A = Own E D}
    (record { public = p; own = o; far = f; sends = s; receives = r })
    (record { public = q; own = o'; far = f'; sends = s'; receives = r' })
own_equal a b c d e = rw (a, b, c, d, e)

starts-own : {D : Type 0} (U : Place) (R : Evaluation D) (s : Place → D) → held_states U (begun R s) ≡ own_starts R (s U) (s (next U))
starts-own U R s = rw (tabled-at (λ i. R.start (s i)) U, tabled-at (λ i. R.start (s i)) (next U))

module _ {E D : Type 0} (U : Place) (s : Place → D) (left : Tapes) where
  module _ (rest : E) (R : Evaluation D) where
    abbrev received : List ℕ
    received = words_from (evaluates rest R) s left (next U)

    held_is : held_states U (ends R.gates (begun R s) left.masks)
        ≡ own_ends U R.gates (own_starts R (s U) (s (next U))) (left.masks U) (left.masks (next U)) received
    unfolding words_from
    held_is =
        ends-local R.State U R.gates (begun R s) left.masks
        ∙ ap (λ h. own_ends U R.gates h (left.masks U) (left.masks (next U)) received) (starts-own U R s)

    run-local : ◌≡◌ {A = Held D} (record { own = shares_after (evaluates rest R) s left U; far = shares_after (evaluates rest R) s left (next U) })
        (own_shares U (evaluates rest R) (s U) (s (next U)) (brought U (evaluates rest R) s left))
    unfolding shares_after own_shares
    run-local =
        let f : Place → D = λ i. R.finish i (s i) (ends R.gates (begun R s) left.masks i) in
        ap₂ (λ (a b : D). pairs a b) (tabled-at f U) (tabled-at f (next U))
        ∙ ap (λ (h : Held R.State). pairs (R.finish U (s U) h.own) (R.finish (next U) (s (next U)) h.far)) held_is
      where
        pairs : D → D → Held D
        pairs a b = record { own = a; far = b }

  shares-local : (w : Work E D)
      → ◌≡◌ {A = Held D} (record { own = shares_after w s left U; far = shares_after w s left (next U) })
      (own_shares U w (s U) (s (next U)) (brought U w s left))
  unfolding shares_after own_shares
  shares-local (deals rest p v put) =
      let z = parts (dealt_shares p v (get_or left.dealer 0 0) (get_or left.dealer 1 0)) in
      rw (tabled-at (λ i. put (s i) (z i)) U, tabled-at (λ i. put (s i) (z i)) (next U))
  shares-local (evaluates rest R) = run-local rest R
  shares-local (opens rest read value) = refl

  pub words-local : (w : Work E D) → words_from w s left U ≡ own_words U w (s U) (s (next U)) (brought U w s left)
  unfolding words_from own_words
  words-local (deals rest p v put) = refl
  words-local (evaluates rest R) =
      sent-local R.State U R.gates (begun R s) left.masks
      ∙ ap (λ h. own_sent U R.gates h (left.masks U) (left.masks (next U)) (sent R.gates (begun R s) left.masks (next U))) (starts-own U R s)
  words-local (opens rest read value) = refl

pub work-local : WorkLocal
work-local E D U w m left c =
    let s = m.share in
    let at : ℕ = m.public.channels_at in
    let shares = shares-local U s left w in
    own_equal refl
    (ap (λ (h : Held D). h.own) shares)
    (ap (λ (h : Held D). h.far) shares)
    (tabled-at (λ i. written at (words_from w s left i) (c i)) U ∙ ap (λ (l : List ℕ). written at l (c U)) (words-local U s left w))
    (tabled-at (λ i. written at (words_from w s left i) (c i)) (next U))

pub own-alike : {E D : Type 0} (U : Place) {w w' : Work E D} → AlikeWork w w' → (P : Own E D) (B : Brought) → own_performed U w P B ≡ own_performed U w' P B
unfolding own_shares own_words
own-alike U lawful.same P B = refl
own-alike U lawful.number P B = refl

-- and works out the same value
pub own-value-alike : {E D : Type 0} (U : Place) {w w' : Work E D} → AlikeWork w w' → (P : Own E D) (B : Brought)
    → own_value U w P B ≡ own_value U w' P B
own-value-alike U lawful.same P B = refl
own-value-alike U lawful.number P B = refl

brought_equal : {t t' t₁ t₁' W W' : List ℕ} {h h' : Pair} → t ≡ t₁ → t' ≡ t₁' → W ≡ W' → h ≡ h'
    → ◌≡◌ {A = Brought} (record { own = t; far = t'; received = W; handed = h }) (record { own = t₁; far = t₁'; received = W'; handed = h' })
brought_equal a b p q = rw (a, b, p, q)

module _ {E D : Type 0} (U : Place) (m n : Shared E D) (c d : Place → List ℕ) (left left' : Tapes) (own : own_of U m c ≡ own_of U n d) where
  received_equal : (w w' : Work E D) → AlikeWork w w' → Inside w left
      → told_at w m.share (lacked_by U) ≡ told_at w n.share (lacked_by U)
      → Partner U w w' m n left left'
      → words_from w' n.share left' (next U) ≡ words_from w m.share left (next U)
  unfolding words_from
  received_equal (deals rest p v put) w' alike inside told partner = received_same U (deals rest p v put) w' m n left left' alike inside tt partner
  received_equal (evaluates rest R) w' alike inside told partner = received_same U (evaluates rest R) w' m n left left' alike inside tt partner
  received_equal (opens rest read value) w' lawful.same inside told partner = ap (λ (v : ℕ). v ∷ []) (sym told)

  pub own-after : (w w' : Work E D) → AlikeWork w w' → Inside w left
      → told_at w m.share (lacked_by U) ≡ told_at w n.share (lacked_by U)
      → Partner U w w' m n left left'
      → own_of U (performed w m left c).state (performed w m left c).channels
      ≡ own_of U (performed w' n left' d).state (performed w' n left' d).channels
  own-after w w' alike inside told partner =
      let same : brought U w m.share left ≡ brought U w' n.share left'
      = brought_equal (sym partner.own) (sym partner.far)
      (sym (received_equal w w' alike inside told partner))
      (sym (handed_same U w w' m n left left' alike inside partner)) in
      work-local E D U w m left c
      ∙ own-alike U alike (own_of U m c) (brought U w m.share left)
      ∙ ap (λ (P : Own E D). own_performed U w' P (brought U w m.share left)) own
      ∙ ap (own_performed U w' (own_of U n d)) same
      ∙ sym (work-local E D U w' n left' d)

-- views are equal where all that they show is, field by field
pub view_equal : {S : Type 0} {a a' : S} {w w' z z' : List ℕ} {r r' v v' g g' : ℕ} → a ≡ a' → w ≡ w' → z ≡ z' → r ≡ r' → v ≡ v' → g ≡ g'
    → view a w z r v g ≡ view a' w' z' r' v' g'
view_equal {S} {a} {a'} {w} {w'} {z} {z'} {r} {r'} {v} {v'} {g} {g'} seen sends receives refusal value gates =
    ap (λ (x : S). view x w z r v g) seen
    ∙ ap (λ (x : List ℕ). view a' x z r v g) sends
    ∙ ap (λ (x : List ℕ). view a' w' x r v g) receives
    ∙ ap (λ (x : ℕ). view a' w' z' x v g) refusal
    ∙ ap (λ (x : ℕ). view a' w' z' r' x g) value
    ∙ ap (λ (x : ℕ). view a' w' z' r' v' x) gates

-- so they are where U has the same and is answered the same
pub view_same : {E D : Type 0} (Same : Sameness E D) (s : Shared E D) (U : Place) (o o' : Outcome (Shared E D))
    → own_of U o.state o.channels ≡ own_of U o'.state o'.channels
    → o.refusal ≡ o'.refusal → o.value ≡ o'.value → o.gates ≡ o'.gates → view_of (acting Same s) U o ≡ view_of (acting Same s) U o'
view_same {E = E} {D = D} Same s U o o' own refusal value gates =
    view_equal
    (ap (λ (P : Own E D). holds P) own)
    (ap (λ (P : Own E D). P.sends) own)
    (ap (λ (P : Own E D). P.receives) own)
    refusal value gates
  where
    holds : Own E D → Holding E D
    holds P = record { public = P.public; own = P.own; far = P.far }

-- values of alike works: of openings by what is opened, of others 0
pub value-alike : {E D : Type 0} {w w' : Work E D} → AlikeWork w w' → (s : Place → D) → value_from w s ≡ value_from w' s
value-alike lawful.same s = refl
value-alike lawful.number s = refl

pub values_equal : {E D : Type 0} (w w' : Work E D) → AlikeWork w w' → (s t : Place → D)
    → (is_opening w ≡ true → value_from w s ≡ value_from w' t) → value_from w s ≡ value_from w' t
values_equal (deals rest p v put) w' lawful.same s t h = refl
values_equal (deals rest p v put) w' lawful.number s t h = refl
values_equal (evaluates rest R) w' lawful.same s t h = refl
values_equal (opens rest read value) w' lawful.same s t h = h refl

pub opening_alike : {E D : Type 0} {w w' : Work E D} → AlikeWork w w' → is_opening w ≡ is_opening w'
opening_alike lawful.same = refl
opening_alike lawful.number = refl
