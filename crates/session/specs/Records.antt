-- The record in words, as a job keeps it. Used by the code's contracts, and by the theorem `Starts`.
use Rattle.std.specs.Prelude.{ℕ, true, List, None, Option, Some, ◌≡◌, replicate}
use Rattle.machine.specs.Registers.{empty_machine, sound}
use Rattle.machine.specs.declared.registers.Machine.{Machine}
use Rattle.layout.specs.Layout.{Says, machine_of}

-- the record's words before the first line
abbrev pub empty_words : List ℕ
empty_words = replicate 83 0

-- the record that words say; where they say none, the empty machine stands for it
abbrev pub machine_else : Option Machine → Machine
machine_else (Some m) = m
machine_else None = empty_machine

unfoldable pub machine_in : List ℕ → Machine
machine_in ws = machine_else (machine_of ws)

-- the record's words say a record, and a sound one
pub record RecordFits (ws : List ℕ) : Type 0 where
  pub says : Says ws (machine_in ws)
  pub sound : sound (machine_in ws) ≡ true
