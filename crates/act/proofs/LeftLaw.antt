-- What is left of tapes of which an act is lent the first n items.
use Prim.Native.Nat.{ℕ, zero, suc, ◌+◌, ◌-◌, ◌≤◌}
use mathlib.Core.List.{List, [], ◌∷◌}
use mathlib.Core.Path.{◌≡◌, ap, fun_ext, refl, sym, ◌∙◌}
use native.Mathlib.Nat.{suc-sub-suc, sub-zero, zero-sub}
use native.Mathlib.Omega.{arith}
use lib.ListN.{drop, length, length-take, take}
use lib.Seq.{take-nil, take-take}
use Rattle.gate.specs.Places.{Place, next, p0, p1, p2, tabled}
use Rattle.gate.proofs.PlaceLaw.{each}
use Rattle.view.specs.Views.{around, lacked_by}
use Rattle.view.proofs.AroundLaw.{each_around}
use Rattle.machine.specs.Checks.{Lengths, Tapes}
use Rattle.machine.specs.Step.{lengths_of}
use Rattle.act.specs.Changes.{rest_of}
use Rattle.act.specs.Jobs.{Entry, Protocol, lent}
use Rattle.act.specs.Lawful.{Sameness, acting}
use Rattle.act.specs.Secrecy.{Hidden, tapes_with}
use Rattle.act.specs.Works.{Public, Shared, left_of}

-- the items from a on of the first n are the first n - a of those from a on
drop-take : (a n : ℕ) (l : List ℕ) → drop a (take n l) ≡ take (n - a) (drop a l)
drop-take zero n l = ap (λ (k : ℕ). take k l) (sym (sub-zero n))
drop-take (suc a) zero l = ap (λ (k : ℕ). take k (drop (suc a) l)) (sym (zero-sub (suc a)))
drop-take (suc a) (suc n) [] = sym (take-nil (suc n - suc a))
drop-take (suc a) (suc n) (x ∷ l) = drop-take a n l ∙ ap (λ (k : ℕ). take k (drop a l)) (sym (suc-sub-suc n a))

-- so they go by what is left
left_same : (a n : ℕ) (l l' : List ℕ) → drop a l ≡ drop a l' → drop a (take n l) ≡ drop a (take n l')
left_same a n l l' e = drop-take a n l ∙ ap (take (n - a)) e ∙ sym (drop-take a n l')

-- and the first g of them, where the act is lent so many, are the first g left
pub left-first : (a g n : ℕ) (l : List ℕ) → a + g ≤ length (take n l) → take g (drop a (take n l)) ≡ take g (drop a l)
left-first a g n l h =
    let lent_many : a + g ≤ n = omega (arith, length-take n l) in
    ap (take g) (drop-take a n l) ∙ take-take g (n - a) (drop a l) (omega arith)

-- hidden tapes of the same lengths
pub record SameLengths (h k : Hidden) : Type 0 where
  pub dealer : length h.dealer ≡ length k.dealer
  pub lacked : length h.lacked ≡ length k.lacked

length_taken : (n : ℕ) (l l' : List ℕ) → length l ≡ length l' → length (take n l) ≡ length (take n l')
length_taken n l l' e = omega (arith, length-take n l, length-take n l', e)

lengths_equal : {a a' b b' : Place → ℕ} {n n' : ℕ} → a ≡ a' → n ≡ n' → b ≡ b'
    → ◌≡◌ {A = Lengths} (record { masks = a; dealer = n; channels = b }) (record { masks = a'; dealer = n'; channels = b' })
lengths_equal p q r = rw (p, q, r)

pub tapes_equal : {a a' : Place → List ℕ} {l l' : List ℕ} → a ≡ a' → l ≡ l'
    → ◌≡◌ {A = Tapes} (record { masks = a; dealer = l }) (record { masks = a'; dealer = l' })
tapes_equal p q = rw (p, q)

-- tapes of the same lengths
pub record EvenTapes (T T' : Tapes) : Type 0 where
  pub masks : (i : Place) → length (T.masks i) ≡ length (T'.masks i)
  pub dealer : length T.dealer ≡ length T'.dealer

-- alike acts are lent as much of them
pub even_lengths {ℓ} : {P : Protocol {ℓ}} (e f : Entry P) → e.masks_lent ≡ f.masks_lent → e.dealer_lent ≡ f.dealer_lent
    → (T T' : Tapes) → EvenTapes T T'
    → (c d : Place → List ℕ) → ((i : Place) → length (c i) ≡ length (d i))
    → lengths_of (lent e T) c ≡ lengths_of (lent f T') d
even_lengths e f masks dealer T T' even c d channels =
    lengths_equal
    (ap tabled (fun_ext (λ i.
    ap (λ (n : Place → ℕ). length (take (n i) (T.masks i))) masks
    ∙ length_taken (f.masks_lent i) (T.masks i) (T'.masks i) (even.masks i))))
    (ap (λ (n : ℕ). length (take n T.dealer)) dealer
    ∙ length_taken f.dealer_lent T.dealer T'.dealer even.dealer)
    (ap tabled (fun_ext channels))

module _ (U : Place) (own far : List ℕ) where
  -- U's own tapes are the same beside any hidden ones
  tape-length : (h k : Hidden) → SameLengths h k → (i : Place)
      → length ((tapes_with U own far h).masks i) ≡ length ((tapes_with U own far k).masks i)
  tape-length h k s = at U
    where
      at : (X i : Place) → length (around X own far h.lacked i) ≡ length (around X own far k.lacked i)
      at p0 = each (λ i. length (around p0 own far h.lacked i) ≡ length (around p0 own far k.lacked i)) refl refl s.lacked
      at p1 = each (λ i. length (around p1 own far h.lacked i) ≡ length (around p1 own far k.lacked i)) s.lacked refl refl
      at p2 = each (λ i. length (around p2 own far h.lacked i) ≡ length (around p2 own far k.lacked i)) refl s.lacked refl

module _ {E D : Type 0} {Same : Sameness E D} {s : Shared E D} (U : Place) (own far : List ℕ) where
  -- so an act is lent as much beside any of the same lengths
  pub lengths_beside : (e : Entry (acting Same s)) (h k : Hidden) → SameLengths h k → (c : Place → List ℕ)
      → lengths_of (lent e (tapes_with U own far h)) c ≡ lengths_of (lent e (tapes_with U own far k)) c
  lengths_beside e h k s c =
      even_lengths e e refl refl (tapes_with U own far h) (tapes_with U own far k) (record { masks = tape-length U own far h k s; dealer = s.dealer })
      c c (λ i. refl)

  -- U's own tapes are left as they are beside any hidden ones
  pub left-own : (p : Public E) (e : Entry (acting Same s)) (h k : Hidden)
      → (left_of p (lent e (tapes_with U own far h))).masks U ≡ (left_of p (lent e (tapes_with U own far k))).masks U
  left-own p e h k = at U
    where
      at : (X : Place) → (left_of p (lent e (tapes_with X own far h))).masks X ≡ (left_of p (lent e (tapes_with X own far k))).masks X
      at p0 = refl
      at p1 = refl
      at p2 = refl

  pub left_far : (p : Public E) (e : Entry (acting Same s)) (h k : Hidden)
      → (left_of p (lent e (tapes_with U own far h))).masks (next U) ≡ (left_of p (lent e (tapes_with U own far k))).masks (next U)
  left_far p e h k = at U
    where
      at : (X : Place)
          → (left_of p (lent e (tapes_with X own far h))).masks (next X) ≡ (left_of p (lent e (tapes_with X own far k))).masks (next X)
      at p0 = refl
      at p1 = refl
      at p2 = refl

  pub left_lacked : (p : Public E) (e : Entry (acting Same s)) (h : Hidden)
      → (left_of p (lent e (tapes_with U own far h))).masks (lacked_by U)
      ≡ drop p.masks_at (take (e.masks_lent (lacked_by U)) h.lacked)
  left_lacked p e h = at U
    where
      at : (X : Place)
          → (left_of p (lent e (tapes_with X own far h))).masks (lacked_by X)
          ≡ drop p.masks_at (take (e.masks_lent (lacked_by X)) h.lacked)
      at p0 = refl
      at p1 = refl
      at p2 = refl

  -- where the hidden tapes have the same left, so have all
  pub left_same_rest : (m : Shared E D) (e : Entry (acting Same s)) (h k : Hidden) → rest_of m h ≡ rest_of m k
      → left_of m.public (lent e (tapes_with U own far h)) ≡ left_of m.public (lent e (tapes_with U own far k))
  left_same_rest m e h k r =
      let p : Public E = m.public in
      let lacked : drop m.public.masks_at h.lacked ≡ drop m.public.masks_at k.lacked = ap (λ (s : Hidden). s.lacked) r in
      let dealer : drop m.public.dealer_at h.dealer ≡ drop m.public.dealer_at k.dealer = ap (λ (s : Hidden). s.dealer) r in
      tapes_equal
      (fun_ext (each_around U
      (λ i. (left_of p (lent e (tapes_with U own far h))).masks i ≡ (left_of p (lent e (tapes_with U own far k))).masks i)
      (left-own p e h k)
      (left_far p e h k)
      (left_lacked p e h
      ∙ left_same m.public.masks_at (e.masks_lent (lacked_by U)) h.lacked k.lacked lacked
      ∙ sym (left_lacked p e k))))
      (left_same m.public.dealer_at e.dealer_lent h.dealer k.dealer dealer)
