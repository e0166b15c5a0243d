-- The rotated number is at most p and its half, so one fold brings the sum below 2p.
use Prim.Native.Nat.{◌+◌, ◌*◌, ◌/◌, ◌^◌, ◌<◌, ◌≤◌}
use native.Mathlib.Omega.{arith}
use Rattle.ring.specs.Modular.{Cong}
use Rattle.ring.specs.Rings.{rotated}
use Rattle.ring.proofs.CongLaw.{cong_add, cong_refl}
use Rattle.ring.proofs.FoldLaw.{fold-lt, folded_near}
use Rattle.ring.proofs.RangeLaw.{few_above, sized_lt}
use Rattle.ring.proofs.Theorems.{rotated_cong, rotated-le}
use Rattle.ring.proofs.modular.add_rotated.Goals as goal

most : (c : goal.Start) → rotated c.args.e c.args.k c.args.a ≤ c.args.p + c.args.a / 2
most c = omega (arith, rotated-le c.args.e c.args.k c.args.a c.requires.places, c.requires.sized.is)

room : (c : goal.After-rotate_word) → (c.args.s + c.rotate_word.result < c.args.p * 2 ^ c.args.e)
    × (c.args.s + c.rotate_word.result < 15 * 2 ^ 60)
room c = few_above _ c.requires.sized (omega (arith, most c.before, c.rotate_word.ensures))

pub returns : goal.returns
returns c =
    let a = c.args in
    let rotates : Cong a.p (rotated a.e a.k a.a) (2 ^ a.k * a.a)
    = rw c.requires.sized.is (rotated_cong a.e a.k a.a (omega arith)) in
    let sum : Cong a.p (a.s + c.rotate_word.result) (a.s + 2 ^ a.k * a.a)
    = rw c.rotate_word.ensures (cong_add (cong_refl a.s) rotates) in record {
      is = folded_near _ _ (a.s + c.rotate_word.result) (a.s + 2 ^ a.k * a.a) c.requires.sized.is c.fold.ensures sum;
      below = rw c.fold.ensures (fold-lt _ _ _ c.requires.sized.is (room c.before).0);
    }

pub rotate_word-requires-clause-room : goal.rotate_word-requires-clause-room
rotate_word-requires-clause-room c = omega (arith, most c, sized_lt c.requires.sized)

pub overflow_add-s : goal.overflow_add-s
overflow_add-s c =
    omega (arith, room c)
