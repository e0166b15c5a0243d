use mathlib.Core.Path.{◌≡◌}
use lib.ListN.{drop}
use Rattle.machine.specs.Registers.{sound_slots}
use Rattle.machine.proofs.registers.Machine.is_sound.Given as goal

abbrev pub invariant-loop-r : goal.invariant-loop-r
invariant-loop-r l = sound_slots l.self.slots ≡ sound_slots (drop l.r-index l.self.slots)
