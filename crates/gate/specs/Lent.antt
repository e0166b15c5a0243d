-- Three runs that are lent to a call, one a place: what they hold at its entry and at its exit.
-- Used by the code's contracts alone: no theorem's statement speaks of it.
use Rattle.std.specs.Prelude.{ℕ, List}
use Rattle.std.specs.Borrow.{Bor, MutBor}
use denote.Triple.Both.{Both}
use Rattle.gate.specs.Places.{Place, three}

-- of runs that may only be read, and of runs that may be written
abbrev pub at_entry : {X : Type 0} → (a b c : Both (Bor (List ℕ)) X) → Place → List ℕ
at_entry a b c = three a.entry.now b.entry.now c.entry.now

abbrev pub at_entry_mut : {X : Type 0} → (a b c : Both (MutBor (List ℕ)) X) → Place → List ℕ
at_entry_mut a b c = three a.entry.now b.entry.now c.entry.now

abbrev pub at_exit : {E : Type 0} → (a b c : Both E (MutBor (List ℕ))) → Place → List ℕ
at_exit a b c = three a.exit.now b.exit.now c.exit.now
