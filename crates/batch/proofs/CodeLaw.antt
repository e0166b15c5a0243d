-- What the code answers is what the definition leaves.
use Rattle.std.specs.Prelude.{Some, None, Option, Result, Ok, Err}
use Rattle.std.specs.Result.{IsErrAnd}
use Rattle.std.proofs.lemmas.Result.{err_from_is_err_and}
use Prim.Native.Nat.{ℕ, ◌+◌, ◌*◌, ◌-◌, ◌<◌, ◌≤◌}
use mathlib.Core.Bool.{Bool, cond, false, not, true, ◌&&◌, ◌||◌}
use mathlib.Core.List.{List, ◌++◌}
use mathlib.Core.Path.{◌≡◌, ap, ap₂, refl, sym, ◌∙◌}
use native.Mathlib.Omega.{arith}
use borrow.Author.Tests.{eqb-true, leb-true, not-false}
use lib.Dec.{eqb, leb}
use lib.ListN.{drop, get_or, length, replicate}
use Rattle.ring.specs.Rings.{modulus_of, ring_of, width_of}
use Rattle.ring.specs.declared.rings.Ring.{Ring}
use Rattle.ring.specs.declared.rings.Ring.TheVariants.{R13, R31, R61}
use Rattle.ring.proofs.RangeLaw.{width_ge}
use Rattle.gate.specs.Places.{Place, p0, p1, p2, tabled, three}
use Rattle.circuit.specs.Circuits.{Circuit, channelled, gates_of, result}
use Rattle.circuit.specs.Lent.{ItemsBelow, Long}
use Rattle.circuit.specs.Orders.{decomposition}
use Rattle.value.proofs.Counts.{decompose_count}
use Rattle.machine.specs.Checks.{Lengths, any_bad, first_met, gate_checks, no_ring}
use Rattle.machine.specs.declared.answers.Done.{Done}
use Rattle.machine.specs.declared.answers.Refusal.{Refusal}
use Rattle.machine.specs.declared.answers.Refusal.TheVariants as refusal
use Rattle.machine.specs.declared.answers.Refusal.TheVariants.{NotSixtyFour}
use Rattle.machine.specs.Answers.{number_of}
use Rattle.machine.proofs.KindLaw.{left_true}
use Rattle.order.proofs.CheckLaw.{met, passed}
use Rattle.order.proofs.VerdictLaw.{numbered}
use Rattle.attempt.proofs.ItemsLaw.{items_below}
use Rattle.lanes.specs.Lanes.{count, figure, lane, lanes, results, words_sent}
use Rattle.lanes.specs.Stages.{Laned}
use Rattle.lanes.proofs.LaneLaw.{Small, listed_is, woven_is}
use Rattle.batch.specs.Batch.{Outcome, batch, checks, figure_checks, from_start, lengths, lengths_of, not_count, outcome, performed, settled}
use Rattle.batch.specs.Calls.{answered, batch_ring}
use Rattle.batch.proofs.CallLaw.{fine}
use Rattle.batch.proofs.GateLaw.{channelled-bits, decomposition-bits}

-- ---- an accepted call

-- three things by place, each known
three_is : {A : Type 0} {x y z : A} (f : Place → A) → x ≡ f p0 → y ≡ f p1 → z ≡ f p2 → three x y z ≡ tabled f
three_is f hx hy hz = rw (hx, hy, hz)

module _ (e l : ℕ) (a₀ a₁ a₂ z₀ z₁ z₂ c₀ c₁ c₂ d₀ d₁ d₂ : List ℕ) (T : Place → List ℕ) (some : 1 ≤ l)
    (ran : Laned e l a₀ a₁ a₂ T (three c₀ c₁ c₂) z₀ z₁ z₂ (three d₀ d₁ d₂)) where
  abbrev C : Circuit
  C = decomposition e l

  abbrev a : Place → List ℕ
  a = three a₀ a₁ a₂

  abbrev words : Place → ℕ → List ℕ
  words i k = channelled C (figure a k) (figure a k) (lanes k T) i

  channel_is : (i : Place) (d c : List ℕ) → Small d → Small c
      → ((k : ℕ) → k < 64 → lane k d ≡ words i k ++ drop (gates_of C) (lane k c)) → d ≡ words_sent C a T i ++ drop (gates_of C) c
  unfolding words_sent
  channel_is i d c small small' same =
      woven_is (gates_of C) (words i) (λ k. channelled-bits C (decomposition-bits e l) (figure a k) (lanes k T) i) d c small small' same

  result_is : (i : Place) (z : List ℕ) → length z ≡ 64
      → ((k : ℕ) → k < 64 → get_or z k 0 ≡ result C (figure a k) (figure a k) (lanes k T) i) → z ≡ results C a T i
  unfolding results
  result_is i z long same = listed_is 64 (λ k. result C (figure a k) (figure a k) (lanes k T) i) z long same

  pub performed_is : Small d₀ → Small d₁ → Small d₂ → Small c₀ → Small c₁ → Small c₂ → length z₀ ≡ 64 → length z₁ ≡ 64 → length z₂ ≡ 64
      → answered (Ok (record { value = 0; gates = 3 * l + 1 })) (three d₀ d₁ d₂) (three z₀ z₁ z₂) ≡ performed e l a T (three c₀ c₁ c₂)
  performed_is s₀ s₁ s₂ t₀ t₁ t₂ n₀ n₁ n₂ =
      let n = gates_of C in
      let gates : 3 * l + 1 ≡ n = sym (decompose_count e l some) in
      let channels : three d₀ d₁ d₂ ≡ tabled (λ i. words_sent C a T i ++ drop n (three c₀ c₁ c₂ i))
      = three_is (λ i. words_sent C a T i ++ drop n (three c₀ c₁ c₂ i))
      (channel_is p0 d₀ c₀ s₀ t₀ (λ k h. (ran.at k h).channels p0))
      (channel_is p1 d₁ c₁ s₁ t₁ (λ k h. (ran.at k h).channels p1))
      (channel_is p2 d₂ c₂ s₂ t₂ (λ k h. (ran.at k h).channels p2)) in
      let left : three z₀ z₁ z₂ ≡ tabled (results C a T)
      = three_is (results C a T)
      (result_is p0 z₀ n₀ (λ k h. ap (λ (x : Place → ℕ). x p0) (ran.at k h).is))
      (result_is p1 z₁ n₁ (λ k h. ap (λ (x : Place → ℕ). x p1) (ran.at k h).is))
      (result_is p2 z₂ n₂ (λ k h. ap (λ (x : Place → ℕ). x p2) (ran.at k h).is)) in
      ap (λ (g : ℕ). outcome 0 g (three d₀ d₁ d₂) (three z₀ z₁ z₂)) gates
      ∙ ap₂ (λ (c z : Place → List ℕ). outcome 0 n c z) channels left

-- ---- checks that pass give the gates what they take

-- n words of each run, by place and as three lengths
long_of : {n m : ℕ} {t₀ t₁ t₂ : List ℕ} → n ≡ m → ((i : Place) → n ≤ length (three t₀ t₁ t₂ i)) → Long m t₀ t₁ t₂
long_of same h = record { zero = rw same at (h p0); one = rw same at (h p1); two = rw same at (h p2) }

pub ready : (r : Ring) (l : ℕ) (a₀ a₁ a₂ m₀ m₁ m₂ c₀ c₁ c₂ : List ℕ)
    → 0 ≡ first_met (figure_checks (width_of r) l (three a₀ a₁ a₂) (lengths_of (three m₀ m₁ m₂) (three c₀ c₁ c₂)))
    → ((1 ≤ l) × (l + 2 ≤ width_of r)) × (Long (3 * l + 1) m₀ m₁ m₂ × (Long (3 * l + 1) c₀ c₁ c₂ × ItemsBelow (modulus_of r) 64 a₀ a₁ a₂))
ready r l a₀ a₁ a₂ m₀ m₁ m₂ c₀ c₁ c₂ verdict =
    let good = fine (width_of r) l (three a₀ a₁ a₂) (three m₀ m₁ m₂) (three c₀ c₁ c₂) (sym verdict) in
    let count = decompose_count (width_of r) l good.least in (
      (good.least, omega (arith, good.most, width_ge r)),
      (long_of count good.masks, (long_of count good.room, items_below (modulus_of r) 64 good.sources)),
    )

-- ---- the checks of the figures, as the code makes them

-- whether l is out of range
abbrev wrong : ℕ → ℕ → Bool
wrong l e = not (leb 1 l && leb l (e - 2))

module _ (r : Ring) (l : ℕ) (a : Place → List ℕ) (len : Lengths) {w : ℕ} (width : w ≡ width_of r) where
  same : {b : Bool} → wrong l w ≡ b → wrong l (width_of r) ≡ b
  same h = ap (wrong l) (sym width) ∙ h

  pub bits_met : wrong l w ≡ true → 7 ≡ first_met (figure_checks (width_of r) l a len)
  bits_met h = met 7 _ (same h)

  module _ {p : ℕ} (modulus : p ≡ modulus_of r) {bad : Bool} (right : wrong l w ≡ false) (found : bad ≡ any_bad (replicate count p) a) where
    outside : {b : Bool} → bad ≡ b → any_bad (replicate count (modulus_of r)) a ≡ b
    outside h = ap (λ (q : ℕ). any_bad (replicate count q) a) (sym modulus) ∙ sym found ∙ h

    pub share_met : bad ≡ true → 10 ≡ first_met (figure_checks (width_of r) l a len)
    share_met h = passed 7 _ (same right) (met 10 _ (outside h))

    pub lengths-left : {v : ℕ} → bad ≡ false → v ≡ first_met (gate_checks (3 * l + 1) from_start len)
        → v ≡ first_met (figure_checks (width_of r) l a len)
    lengths-left h verdict =
        let some : 1 ≤ l = leb-true 1 l (left_true (leb 1 l) _ (not-false _ right)) in
        passed 7 _ (same right) (passed 10 _ (outside h)
        (verdict ∙ ap (λ (n : ℕ). first_met (gate_checks n from_start len)) (sym (decompose_count (width_of r) l some))))

-- ---- refusals

module _ (e l : ℕ) (a T c z : Place → List ℕ) where
  pub settled_because : (w : Refusal) {n : ℕ} → number_of w ≡ n → answered (Err w) c z ≡ settled n e l a T c z
  settled_because w h = rw (← h, numbered w) refl

  pub settled-done : {n : ℕ} → n ≡ 0 → settled n e l a T c z ≡ performed e l a T c
  settled-done h = rw h

  pub refused : (w : Refusal) → number_of w ≡ first_met (checks e l a T c z) → answered (Err w) c z ≡ batch e l a T c z
  unfolding batch
  refused w h = settled_because w h

-- a refusal that is passed on
pub passed_answer : {c z : Place → List ℕ} {o : Outcome} (r : Result Done Refusal) (w : Refusal) → IsErrAnd r (λ e. e ≡ w)
    → answered (Err w) c z ≡ o → answered r c z ≡ o
passed_answer r w is h = let p = err_from_is_err_and r is in rw (p.1, p.2) h

-- ---- the ring

abbrev width_in : Option Ring → ℕ
width_in (Some r) = width_of r
width_in None = 0

module _ (e : ℕ) where
  -- check 5 is met just where a batch has no ring
  five : no_ring (batch_ring e) ≡ (no_ring (ring_of e) || eqb e 13)
  unfolding batch_ring ring_of
  five = go (eqb e 13) (eqb e 31) (eqb e 61) refl refl refl
    where
      go : (b₁₃ b₃₁ b₆₁ : Bool) → eqb e 13 ≡ b₁₃ → eqb e 31 ≡ b₃₁ → eqb e 61 ≡ b₆₁
          → no_ring (cond b₃₁ (Some R31) (cond b₆₁ (Some R61) None))
          ≡ (no_ring (cond b₁₃ (Some R13) (cond b₃₁ (Some R31) (cond b₆₁ (Some R61) None))) || b₁₃)
      go true true b₆₁ h k m = absurd (omega (arith, eqb-true e 13 h, eqb-true e 31 k))
      go true false true h k m = absurd (omega (arith, eqb-true e 13 h, eqb-true e 61 m))
      go true false false h k m = refl
      go false true b₆₁ h k m = refl
      go false false true h k m = refl
      go false false false h k m = refl

  width_is : no_ring (batch_ring e) ≡ false → e ≡ width_in (batch_ring e)
  unfolding batch_ring
  width_is = go (eqb e 31) (eqb e 61) refl refl
    where
      go : (b₃₁ b₆₁ : Bool) → eqb e 31 ≡ b₃₁ → eqb e 61 ≡ b₆₁ → no_ring (cond b₃₁ (Some R31) (cond b₆₁ (Some R61) None)) ≡ false
          → e ≡ width_in (cond b₃₁ (Some R31) (cond b₆₁ (Some R61) None))
      go true b₆₁ h k none = eqb-true e 31 h
      go false true h k none = eqb-true e 61 k
      go false false h k none = cc

  pub no_ring_lem : batch_ring e ≡ None → (no_ring (ring_of e) || eqb e 13) ≡ true
  no_ring_lem h = sym five ∙ ap no_ring h

  pub named_ring : {r : Ring} → batch_ring e ≡ Some r → (e ≡ width_of r) × ((no_ring (ring_of e) || eqb e 13) ≡ false)
  named_ring h = (width_is (ap no_ring h) ∙ ap width_in h, sym five ∙ ap no_ring h)

-- ---- the call

module _ (e l : ℕ) (a T c z : Place → List ℕ) {b b' : Bool} (figures : b ≡ not_count (lengths a)) (left : b' ≡ not_count (lengths z)) where
  six : {t : Bool} → (b || b') ≡ t → (not_count (lengths a) || not_count (lengths z)) ≡ t
  six h = ap₂ ◌||◌ (sym figures) (sym left) ∙ h

  pub length_met : (b || b') ≡ true → answered (Err NotSixtyFour) c z ≡ batch e l a T c z
  unfolding checks
  length_met h = refused e l a T c z NotSixtyFour (met 23 _ (six h))

  pub ring_met : (b || b') ≡ false → batch_ring e ≡ None → answered (Err refusal.NoRing) c z ≡ batch e l a T c z
  unfolding checks
  ring_met h none = refused e l a T c z refusal.NoRing (passed 23 _ (six h) (met 5 _ (no_ring_lem e none)))

  pub figures-left : (b || b') ≡ false → {r : Ring} {o : Outcome} → batch_ring e ≡ Some r
      → o ≡ settled (first_met (figure_checks (width_of r) l a (lengths_of T c))) (width_of r) l a T c z → o ≡ batch e l a T c z
  unfolding batch checks
  figures-left h {r} named is =
      let ring = named_ring e named in
      let same : first_met (figure_checks e l a (lengths_of T c)) ≡ first_met (checks e l a T c z)
      = passed 23 _ (six h) (passed 5 _ ring.1 refl) in
      is ∙ ap (λ (w : ℕ). settled (first_met (figure_checks w l a (lengths_of T c))) w l a T c z) (sym ring.0)
      ∙ ap (λ (n : ℕ). settled n e l a T c z) same
