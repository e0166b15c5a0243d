use Prim.Native.Nat.{◌-◌, ◌≤◌, ◌^◌}
use mathlib.Core.Bool.{◌||◌}
use mathlib.Core.Path.{◌≡◌}
use lib.Dec.{leb}
use lib.ListN.{drop, replicate}
use Rattle.gate.specs.Places.{three}
use Rattle.machine.specs.Checks.{any_bad}
use Rattle.attempt.proofs.items.any_outside.Given as goal

abbrev pub invariant-loop-k : goal.invariant-loop-k
invariant-loop-k l =
    (l.k ≤ l.n) × (any_bad (replicate l.n l.p) (three l.m0 l.m1 l.m2) ≡ leb (2 ^ 63) l.all || any_bad (replicate (l.n - l.k) l.p)
    (three (drop l.k l.m0) (drop l.k l.m1) (drop l.k l.m2)))
