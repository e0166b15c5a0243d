use native.Mathlib.Omega.{arith}
use Rattle.planes.proofs.RowLaw.{rows_are}
use Rattle.planes.proofs.rows.wide_rows.Goals as goal

pub returns : goal.returns
returns c =
    rows_are c.transpose.ensures.is c.copy.ensures (λ k h. omega (arith, c.type_inv.z k))
