use Prim.Native.Nat.{ℕ, suc}
use mathlib.Core.Path.{◌≡◌}
use lib.ListN.{drop}
use Rattle.tape.specs.Tapes.{fill}
use Rattle.tape.proofs.draws.draw_item.Given as goal

abbrev pub invariant-loop-i : goal.invariant-loop-i
invariant-loop-i l = (n : ℕ) → fill l.width l.limit (suc n) l.at (drop l.at l.raw) ≡ fill l.width l.limit (suc n) l.i (drop l.i l.raw)
