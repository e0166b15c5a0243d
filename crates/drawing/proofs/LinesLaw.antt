-- Lines written one behind the other.
use Prim.Native.Nat.{ℕ, ◌+◌, ◌*◌, ◌≤◌, ◌<◌}
use mathlib.Core.Path.{◌≡◌}
use mathlib.Core.List.{List}
use native.Mathlib.Nat.{mul-le-mul}
use native.Mathlib.Numerals.{add-one}
use native.Mathlib.Omega.{arith}
use lib.ListN.{length}
use Rattle.line.specs.Printed.{Wrote}
use Rattle.line.proofs.PrintLaw.{also}
use Rattle.drawing.specs.Lines.{line_of, lines_of}
use Rattle.drawing.specs.declared.kinds.Kind.{Kind}

-- items for one line more
pub more_items : (w k n : ℕ) {m : ℕ} → k < n → w * n ≤ m → w * (k + 1) ≤ m
more_items w k n more h =
    let up_to : k + 1 ≤ n = omega arith in
    let same : w ≤ w = omega arith in
    omega (arith, mul-le-mul same up_to)

-- k lines are written, up to `at`
pub record Lined (kind : Kind) (items start : List ℕ) (n : ℕ) (out : List ℕ) (at k : ℕ) : Type 0 where
  pub long : length out ≡ length start
  pub short : at ≤ 84 * k
  pub wrote : Wrote 0 (lines_of kind k items) start out at

pub one_line : {kind : Kind} {items start out exit : List ℕ} {n at k next : ℕ}
    → Lined kind items start n out at k → k < n → 84 * n ≤ length start → length exit ≡ length out
    → Wrote at (line_of kind k items) out exit next → next ≤ at + 84
    → Lined kind items start n exit next (k + 1)
unfolding lines_of
one_line l more room long wrote short =
    record {
      long = omega (arith, l.long);
      short = omega (arith, l.short);
      wrote = rw add-one (also l.wrote wrote (omega (arith, l.short)));
    }
