use mathlib.Core.Path.{◌∙◌}
use native.Mathlib.Omega.{arith}
use borrow.Rule.Slice.PartMut.{mid_len}
use Rattle.planes.proofs.RowLaw.{halves_back, halves_low}
use Rattle.planes.proofs.rows.narrow_rows.Goals as goal

pub returns : goal.returns
returns c =
    let turned = c.transpose_halves in
    let o = c.args.o.now in
    let long = turned.auto.rows ∙ mid_len 0 32 o (omega arith) in
    halves_back o turned.new.rows c.told-o long turned.ensures.is c.split.new.z c.requires.width c.split.ensures
    (halves_low o turned.new.rows c.told-o long turned.ensures.is turned.ensures.words)
