-- Runs that are lent to a call, at its entry and at its exit.
-- Used by the code's contracts alone: no theorem's statement speaks of it.
use Rattle.std.specs.Prelude.{ℕ, List, ◌≡◌}
use Rattle.std.specs.Borrow.{Bor}
use denote.Triple.Both.{Both}

-- a run that the call leaves as it was
abbrev pub Stands : Both (Bor (List ℕ)) (Bor (List ℕ)) → Type 0
Stands a = a.exit.now ≡ a.entry.now
