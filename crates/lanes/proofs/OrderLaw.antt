-- The stages one after another, the planes of the result, and the whole order for each figure.
use Prim.Native.Nat.{ℕ, ◌+◌, ◌-◌, ◌/◌, ◌<◌, ◌≤◌}
use mathlib.Core.List.{List, [], ◌∷◌, ◌++◌, append_assoc}
use mathlib.Core.Path.{◌≡◌, ap, ap₂, refl, sym, ◌∙◌}
use native.Mathlib.Omega.{arith}
use lib.Bits.{bit_xor}
use lib.ListN.{length, length-append, take}
use Rattle.ring.specs.Rings.{bit_of, modulus}
use Rattle.gate.specs.Places.{Place}
use Rattle.gate.specs.declared.sharing.Sharing.{Sharing}
use Rattle.circuit.specs.Bits.{gather, xor}
use Rattle.circuit.specs.Circuits.{upto}
use Rattle.circuit.specs.Decompose.{carry_gate, raising_gate, running_gate, zero_gate}
use Rattle.circuit.specs.Sharings.{four_times, items_at}
use Rattle.circuit.proofs.BitsLaw.{bit_upper, bit_of-xor, gather-bits, gather_same}
use Rattle.circuit.proofs.RunLaw.{drops, length-upto}
use Rattle.decompose.specs.Turns.{Ended}
use Rattle.decompose.specs.Words.{bits_at, bits_xor, finished, totalled, upper}
use Rattle.decompose.proofs.StageLaw.{ended_here, ended_then, left_is}
use Rattle.planes.specs.Planes.{Cleared, Loaded, NoPlanes, columns, planes_at, words_xor}
use Rattle.planes.specs.declared.places.Planes.{Planes}
use Rattle.planes.proofs.PlaceLaw.{column-bits, column-ends}
use Rattle.planes.proofs.WordLaw.{bits-xor}
use Rattle.lanes.specs.Lanes.{lanes}
use Rattle.lanes.specs.Stages.{EachRan, Increments, Laned, RaisingRan, Running, SumsRan, Worked, ZeroRan, carried, fresh, raised, summed, total_planes}
use Rattle.lanes.proofs.GateLaw.{each_then, lanes-drop, lanes_kept}
use Rattle.lanes.proofs.StageLaw.{total-bits}

-- ---- (i) and (ii)

pub sums_ran : {l : ℕ} {x q s : Planes} {T c d e : Place → List ℕ} → EachRan (upto carry_gate (l + 1)) (fresh x) (carried x q (l + 1 + 1)) T c d
    → Running l x q s (drops (l + 1) T) (drops (l + 1) d) (drops (l + 1) e) → ((i : Place) → take (l + 1) (e i) ≡ take (l + 1) (d i))
    → SumsRan l x s T c e
sums_ran {l} {q = q} first second kept =
    let two : l + 1 + 1 ≡ l + 2 = omega arith in
    record {
      q = q;
      r = second.r;
      totals = second.totals;
      ran = each_then (length-upto carry_gate (l + 1)) (rw two at first) second.ran kept;
    }

-- ---- (iii) and (iv)

-- bit j of a place's result
upper_bit : (total raising j : ℕ) → xor (bit_of total (j + 2)) (bit_of raising j) ≡ bit_of (bit_xor (total / 4) raising) j
upper_bit total raising j = sym (bit_of-xor (total / 4) raising j ∙ ap (λ (n : ℕ). xor n (bit_of raising j)) (bit_upper total j))

upper_is : (l total raising : ℕ) {b : ℕ → ℕ} → ((j : ℕ) → j < l → b j ≡ xor (bit_of total (j + 2)) (bit_of raising j)) → gather l b ≡ upper total raising l
unfolding upper
upper_is l total raising same =
    gather_same l (λ j h. same j h ∙ upper_bit total raising j) ∙ gather-bits l (bit_xor (total / 4) raising)

-- planes that are the total's from 2 up with the carries of the increment are the result's
module _ (l : ℕ) (x q r a o : Planes) (small : l < 60)
    (digits : (j : ℕ) → j < l → planes_at j o ≡ words_xor (total_planes (j + 2) x q r) (planes_at j a)) (k : ℕ) where
  abbrev total : Sharing
  total = totalled (columns 64 x k) (columns (l + 2) q k) (columns (l + 2) r k)

  bits : (j : ℕ) → j < l → bits_at (planes_at j o) k ≡ bits_xor (bits_at total (j + 2)) (bits_at (columns l a k) j)
  bits j h =
      ap (λ (w : Sharing). bits_at w k) (digits j h) ∙ bits-xor (total_planes (j + 2) x q r) (planes_at j a) k
      ∙ ap₂ bits_xor (total-bits (l + 2) x q r (j + 2) k (omega arith) (omega arith)) (sym (column-bits l a k j h))

  finished_is : columns l o k ≡ finished total (columns l a k) l
  finished_is = rw (
    upper_is l total.s0 (columns l a k).s0 (λ j h. ap (λ (w : Sharing). w.s0) (bits j h)),
    upper_is l total.s1 (columns l a k).s1 (λ j h. ap (λ (w : Sharing). w.s1) (bits j h)),
    upper_is l total.s2 (columns l a k).s2 (λ j h. ap (λ (w : Sharing). w.s2) (bits j h)),
  )

-- the two stages one after the other, with the planes a₀ of the first carry and a of all
increment_ended : (l : ℕ) (x q r a₀ a o : Planes) (T c d e : Place → List ℕ) → 1 ≤ l → l < 60
    → EachRan (zero_gate ∷ []) (summed x q r (l + 2)) (raised x q r a₀ (l + 2) 1) T c d
    → EachRan (upto raising_gate (l - 1)) (raised x q r a₀ (l - 1 + 3) 1) (raised x q r a (l - 1 + 3) (l - 1 + 1)) (drops 1 T) (drops 1 d) (drops 1 e)
    → ((i : Place) → take 1 (e i) ≡ take 1 (d i))
    → ((j : ℕ) → j < l → planes_at j o ≡ words_xor (total_planes (j + 2) x q r) (planes_at j a)) → NoPlanes l o
    → (k : ℕ) → Ended l (zero_gate ∷ upto raising_gate (l - 1)) (summed x q r (l + 2) k) (lanes k T) (lanes k c) (columns 64 o k) (lanes k e)
increment_ended l x q r a₀ a o T c d e some few zero raising kept digits none k =
    let up : l - 1 + 3 ≡ l + 2 = omega arith in
    let all : l - 1 + 1 ≡ l = omega arith in
    let ran = each_then refl zero (rw (up, all) at raising) kept in
    ended_here l (ran.on k) (column-ends l o k (omega arith) none ∙ finished_is l x q r a o few digits k) refl

pub increments : {l : ℕ} {s o o' : Planes} {v : Sharing} {T c d e : Place → List ℕ} → 1 ≤ l → l < 60 → Cleared l o o'
    → ZeroRan s v T c d → RaisingRan (l - 1) s v o (drops 1 T) (drops 1 d) (drops 1 e) → ((i : Place) → take 1 (e i) ≡ take 1 (d i))
    → Increments l s o' T c e
increments {l} {o' = o'} {T = T} {c} {d} {e} some few clear zero raising kept = record {
  on = λ x q r totals.
      let up : l - 1 + 3 ≡ l + 2 = omega arith in
      let z = zero.on (l + 2) x q r (omega arith) (omega arith) totals in
      let a = raising.on x q r z.a (rw up totals) z.whole z.first in
      increment_ended l x q r z.a a.a o' T c d e some few z.ran a.ran kept (λ j h. clear.stand j h ∙ a.digits j (omega arith)) clear.none;
}

-- ---- the whole order, for each figure

pub worked : {l : ℕ} {x s o : Planes} {T c d e : Place → List ℕ} → SumsRan l x s T c d
    → Increments l s o (drops (l + 1 + l) T) (drops (l + 1 + l) d) (drops (l + 1 + l) e)
    → ((i : Place) → take (l + 1 + l) (e i) ≡ take (l + 1 + l) (d i)) → Worked l x o T c e
worked {l} {x} {o = o} {T} {c} {d} {e} first second kept = record {
  on = λ k w a z from to.
      let n : ℕ = l + 1 + l in
      let counted : length (upto carry_gate (l + 1) ++ upto (λ i. running_gate (i + 1)) l) ≡ n
      = length-append (upto carry_gate (l + 1)) (upto (λ i. running_gate (i + 1)) l)
      ∙ ap₂ (λ (m n : ℕ). m + n) (length-upto carry_gate (l + 1)) (length-upto (λ i. running_gate (i + 1)) l) in
      let ended = rw (lanes-drop k n T, lanes-drop k n d, lanes-drop k n e) at (second.on x first.q first.r first.totals k) in
      left_is w l a from
      (rw (append_assoc (upto carry_gate (l + 1)) (upto (λ i. running_gate (i + 1)) l) (zero_gate ∷ upto raising_gate (l - 1)), to)
      at (ended_then l counted (first.ran.on k) ended (lanes_kept k n e d kept)));
}

pub laned : (e l : ℕ) (a₀ a₁ a₂ z₀ z₁ z₂ : List ℕ) {x o : Planes} {m c d : Place → List ℕ}
    → Loaded (λ k. four_times (modulus e) (items_at k a₀ a₁ a₂)) x
    → Worked l x o m c d
    → Loaded (λ k. items_at k z₀ z₁ z₂) o
    → Laned e l a₀ a₁ a₂ m c z₀ z₁ z₂ d
laned e l a₀ a₁ a₂ z₀ z₁ z₂ from work to = record {
  at = λ k inside. work.on k e (items_at k a₀ a₁ a₂) (items_at k z₀ z₁ z₂) (from.at k inside) (to.at k inside);
}
