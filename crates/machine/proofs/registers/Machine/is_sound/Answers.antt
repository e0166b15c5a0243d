-- Invariant: the registers from r on decide.
use Prim.Native.Nat.{◌<◌, ◌≤◌}
use mathlib.Core.Bool.{Bool, ◌&&◌}
use mathlib.Core.Path.{ap}
use native.Mathlib.Omega.{arith}
use lib.Dec.{leb}
use lib.ListN.{length}
use Rattle.machine.specs.Registers.{million, sound}
use Rattle.machine.specs.declared.registers.Machine.{Machine}
use Rattle.machine.proofs.SlotLaw.{sound_end, sound_past, unsound_at}
use Rattle.machine.proofs.registers.Machine.is_sound.Goals as goal

-- sound registers, and then positions
abbrev then : Machine → Bool → Bool
then m b = b && (leb m.masks_at million && (leb m.channels_at million && leb m.dealer_at million))

pub returns-then-not-is_sound : goal.returns-then-not-is_sound
unfolding sound
returns-then-not-is_sound c =
    let within : c.loop-r.r-index < length c.args.self.slots = omega arith in
    ap (then c.args.self) (unsound_at _ _ within c.is_sound.ensures c.if-not-is_sound.true c.loop-r.invariant)

pub loop-r-preserved : goal.loop-r-preserved
loop-r-preserved c =
    let within : c.loop-r.r-index < length c.args.self.slots = omega arith in
    sound_past _ _ within c.is_sound.ensures c.if-not-is_sound.false c.loop-r.invariant

pub returns : goal.returns
unfolding sound
returns c =
    let none : length c.args.self.slots ≤ c.loop-r.r-index = omega arith in
    ap (then c.args.self) (sound_end _ _ none c.loop-r.invariant)
