-- One more dealer's item, or declined where 512 were taken.
use Prim.Native.Nat.{◌≤◌, ◌<◌}
use mathlib.Core.Path.{sym}
use native.Mathlib.Omega.{arith}
use lib.ListN.{length}
use Rattle.session.specs.Outputs.{most}
use Rattle.session.proofs.TurnLaw.{item_added, item_over}
use Rattle.session.proofs.tapes.TapeLines.add_item.Goals as goal

pub returns-then-is_full : goal.returns-then-is_full
returns-then-is_full c m ch =
    let full : most ≤ length c.args.self.now.dealer.items = grind arith in
    sym (item_over _ _ full)

pub returns : goal.returns
returns c m ch =
    let room : length c.args.self.now.dealer.items < most = grind arith in
    rw c.push.ensures.items (item_added m ch _ _ _ _ _ room)
