-- Planes of three places: loaded, stored, and read as figures' words.
use Prim.Native.Nat.{ℕ, ◌+◌, ◌-◌, ◌<◌, ◌≤◌}
use mathlib.Core.List.{List}
use mathlib.Core.Path.{◌≡◌, ap, refl, sym, ◌∙◌}
use native.Mathlib.Numerals.{add-one}
use native.Mathlib.Omega.{arith}
use lib.ListN.{get_or, get_or-replicate, length-set, replicate, set}
use lib.Seq.{get_or-set_other, get_or-set_same}
use Rattle.ring.specs.Rings.{bit_of}
use Rattle.gate.specs.declared.sharing.Sharing.{Sharing}
use Rattle.circuit.specs.Bits.{gather}
use Rattle.circuit.specs.Sharings.{zeros}
use Rattle.circuit.proofs.BitsLaw.{bit_lt, bit_none, gather-at, gather-ends, gather_same}
use Rattle.decompose.specs.Words.{bits_at, stored}
use Rattle.planes.specs.declared.places.Planes.{Planes}
use Rattle.planes.specs.Planes.{NoPlanes, Whole, columns, planes_at, with_planes}

-- ---- columns: figure k's words

pub column-bits : (n : ℕ) (q : Planes) (k j : ℕ) → j < n → bits_at (columns n q k) j ≡ bits_at (planes_at j q) k
column-bits n q k j below = rw (
  gather-at n (λ i. bit_of (get_or q.p0 i 0) k) (λ i. bit_lt (get_or q.p0 i 0) k) j below,
  gather-at n (λ i. bit_of (get_or q.p1 i 0) k) (λ i. bit_lt (get_or q.p1 i 0) k) j below,
  gather-at n (λ i. bit_of (get_or q.p2 i 0) k) (λ i. bit_lt (get_or q.p2 i 0) k) j below,
)

pub empty_planes : NoPlanes 0 (record { p0 = replicate 64 0; p1 = replicate 64 0; p2 = replicate 64 0 })
empty_planes = record { at = λ j from h. rw (get_or-replicate {A = ℕ} 64 j 0 0 h) refl }

-- with planes stored at n, those at other places stand
module _ (q : Planes) (n : ℕ) (w : Sharing) where
  pub whole_stored : Whole q → Whole (with_planes q n w)
  whole_stored whole = record {
    zero = length-set q.p0 n w.s0 ∙ whole.zero;
    one = length-set q.p1 n w.s1 ∙ whole.one;
    two = length-set q.p2 n w.s2 ∙ whole.two;
  }

  pub stored_planes : n < 64 → Whole q → planes_at n (with_planes q n w) ≡ w
  stored_planes below whole = rw (
    get_or-set_same q.p0 n w.s0 0 (omega (arith, whole.zero)),
    get_or-set_same q.p1 n w.s1 0 (omega (arith, whole.one)),
    get_or-set_same q.p2 n w.s2 0 (omega (arith, whole.two)),
  )

  pub other_planes : (j : ℕ) → (j ≡ n → ⊥) → planes_at j (with_planes q n w) ≡ planes_at j q
  other_planes j apart = rw (
    get_or-set_other q.p0 n j w.s0 0 apart,
    get_or-set_other q.p1 n j w.s1 0 apart,
    get_or-set_other q.p2 n j w.s2 0 apart,
  )

  -- one more plane is one more bit of each figure's words
  pub column_more : n < 64 → Whole q → (k : ℕ) → columns (n + 1) (with_planes q n w) k ≡ stored (columns n q k) (bits_at w k) n
  unfolding gather
  column_more below whole k =
      let low : (p : List ℕ) (v : ℕ) → gather n (λ j. bit_of (get_or (set p n v) j 0) k) ≡ gather n (λ j. bit_of (get_or p j 0) k)
      = λ p v. gather_same n (λ j h. ap (λ (u : ℕ). bit_of u k) (get_or-set_other p n j v 0 (λ e. omega arith))) in
      let first = stored_planes below whole in
      rw (
        add-one n,
        low q.p0 w.s0,
        low q.p1 w.s1,
        low q.p2 w.s2,
        ap (λ (b : Sharing). b.s0) first,
        ap (λ (b : Sharing). b.s1) first,
        ap (λ (b : Sharing). b.s2) first,
      )

-- planes from n on that are 0 make no bits
pub column-ends : (n : ℕ) (o : Planes) (k : ℕ) → n ≤ 64 → NoPlanes n o → columns 64 o k ≡ columns n o k
column-ends n o k small none =
    let whole : n + (64 - n) ≡ 64 = omega arith in
    let ends : (p : List ℕ) → ((j : ℕ) → n ≤ j → j < 64 → get_or p j 0 ≡ 0)
    → gather 64 (λ j. bit_of (get_or p j 0) k) ≡ gather n (λ j. bit_of (get_or p j 0) k)
    = λ p none. ap (λ (m : ℕ). gather m (λ j. bit_of (get_or p j 0) k)) (sym whole)
    ∙ gather-ends n (64 - n) (λ j. bit_of (get_or p j 0) k) (λ j from h.
    ap (λ (v : ℕ). bit_of v k) (none j from (omega arith)) ∙ bit_none k) in
    rw (
      ends o.p0 (λ j from h. ap (λ (w : Sharing). w.s0) (none.at j from h)),
      ends o.p1 (λ j from h. ap (λ (w : Sharing). w.s1) (none.at j from h)),
      ends o.p2 (λ j from h. ap (λ (w : Sharing). w.s2) (none.at j from h)),
    )

-- ---- planes cleared

-- planes stored below e leave none from e on
pub none_kept : {e j : ℕ} {o' : Planes} (o : Planes) (w : Sharing) → j < e → o' ≡ with_planes o j w → NoPlanes e o → NoPlanes e o'
none_kept {j = j} o w below is none = record {
  at = λ i from h. ap (planes_at i) is ∙ other_planes o j w i (λ e. omega arith) ∙ none.at i from h;
}

-- j planes from n on
pub record ClearedTo (n j : ℕ) (before after : Planes) : Type 0 where
  pub stand : (i : ℕ) → i < n → planes_at i after ≡ planes_at i before
  pub none : (i : ℕ) → n ≤ i → i < j → planes_at i after ≡ zeros
