-- What was read so far stands within the run.
use Rattle.std.proofs.Common.{length, ◌-◌, ◌≤◌}
use Rattle.draw.proofs.read_raw.Given as goal

abbrev pub invariant-loop-n : goal.invariant-loop-n
invariant-loop-n l = l.n ≤ length l.raw

abbrev pub decreases-loop-n : goal.decreases-loop-n
decreases-loop-n l = length l.initial.raw - l.n
