-- Refusals go by lengths alone, where the figures are in range.
use Prim.Native.Nat.{ℕ, zero, suc, ◌+◌, ◌<◌}
use mathlib.Core.Bool.{false}
use mathlib.Core.List.{List}
use mathlib.Core.Path.{◌≡◌, refl}
use native.Mathlib.Omega.{arith}
use lib.ListN.{drop, get_or, length, replicate}
use lib.Seq.{get_or-drop}
use borrow.Author.Tests.{lt-leb}
use Rattle.ring.specs.Rings.{modulus}
use Rattle.gate.specs.Places.{Place, p0, p1, p2}
use Rattle.machine.specs.Checks.{any_bad, any_outside}
use Rattle.batch.specs.Batch.{checks}
use Rattle.lanes.specs.Lanes.{count}
use Rattle.batch.specs.Secrecy.{InRange}

none_outside : (n p : ℕ) (l : List ℕ) → ((k : ℕ) → k < n → get_or l k 0 < p) → any_outside (replicate n p) l ≡ false
unfolding any_outside
none_outside zero p l h = refl
none_outside (suc n) p l h =
    rw (lt-leb p (get_or l 0 0) (h 0 (omega arith)))
    (none_outside n p (drop 1 l) (λ k i. rw (get_or-drop 1 l k 0) (h (1 + k) (omega arith))))

none_bad : (e : ℕ) (a : Place → List ℕ) → InRange e a → any_bad (replicate count (modulus e)) a ≡ false
unfolding any_bad
none_bad e a range =
    rw (
      none_outside count (modulus e) (a p0) (range.below p0),
      none_outside count (modulus e) (a p1) (range.below p1),
      none_outside count (modulus e) (a p2) (range.below p2),
    )

pub checks_same : (e l : ℕ) (a b T T' c z : Place → List ℕ) → InRange e a → InRange e b → ((i : Place) → length (a i) ≡ length (b i))
    → ((i : Place) → length (T i) ≡ length (T' i)) → checks e l a T c z ≡ checks e l b T' c z
unfolding checks
checks_same e l a b T T' c z range range' figures tapes =
    rw (none_bad e a range, none_bad e b range', figures p0, figures p1, figures p2, tapes p0, tapes p1, tapes p2)
