-- The four tapes that are lent to a step: three mask tapes and the dealer's tape.
-- Used by the code's contracts alone: no theorem's statement speaks of it.
use Rattle.std.specs.Prelude.{ℕ, List}
use Rattle.std.specs.Borrow.{Bor}
use denote.Triple.Both.{Both}
pub use Rattle.ring.specs.Lent.{Stands}
use Rattle.gate.specs.Lent.{at_entry}
use Rattle.machine.specs.Checks.{Tapes}

-- what they hold at the call's entry
abbrev pub tapes_at : {X : Type 0} → (m0 m1 m2 dealer : Both (Bor (List ℕ)) X) → Tapes
tapes_at m0 m1 m2 dealer = record { masks = at_entry m0 m1 m2; dealer = dealer.entry.now }

-- "all seven runs of words, refused orders as well": the three channels are in the outcome, and these four the call leaves as they were
abbrev pub TapesStand : (m0 m1 m2 dealer : Both (Bor (List ℕ)) (Bor (List ℕ))) → Type 0
TapesStand m0 m1 m2 dealer = Stands m0 × Stands m1 × Stands m2 × Stands dealer
