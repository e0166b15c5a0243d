-- One more line of mask items, or declined where 512 were taken.
use Prim.Native.Nat.{◌≤◌, ◌<◌}
use mathlib.Core.Path.{sym}
use native.Mathlib.Omega.{arith}
use lib.ListN.{length}
use Rattle.session.specs.Outputs.{most}
use Rattle.session.proofs.TurnLaw.{masks_added, masks_over}
use Rattle.session.proofs.tapes.TapeLines.add_masks.Goals as goal

pub returns-then-is_full : goal.returns-then-is_full
returns-then-is_full c m ch =
    let full : most ≤ length c.args.self.now.m0.items = grind arith in
    sym (masks_over _ _ _ _ full)

pub returns : goal.returns
returns c m ch =
    let room : length c.args.self.now.m0.items < most = grind arith in
    rw (c.push.ensures.items, c.push-2.ensures.items, c.push-3.ensures.items) (masks_added m ch _ _ _ _ _ _ _ room)
