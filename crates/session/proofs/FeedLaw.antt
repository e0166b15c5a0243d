-- What stays true while a chunk is read.
use Prim.Native.Nat.{ℕ, ◌*◌, ◌≤◌}
use mathlib.Core.List.{List}
use lib.ListN.{drop, length}
use Rattle.session.specs.Standings.{Advanced, Standing}

-- the chunk is done with up to byte i, and each byte printed at most 105
pub record Feeding (buf : List ℕ) (w : Standing) (start : List ℕ) (v : Standing) (out : List ℕ) (i at : ℕ) : Type 0 where
  pub done : Advanced w buf v (drop i buf) 0 start out at
  pub within : i ≤ length buf
  pub short : at ≤ 105 * i
