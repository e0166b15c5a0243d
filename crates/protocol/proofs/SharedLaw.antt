-- The record as data at three places: its columns, and the values of its registers.
use Prim.Native.Nat.{ℕ}
use mathlib.Core.List.{map}
use mathlib.Core.Path.{◌≡◌, ap, fun_ext, refl, sym, ◌∙◌}
use lib.ListN.{get_or-map, get_or, set}
use Rattle.gate.specs.Places.{Place, p0, p1, p2, parts}
use Rattle.gate.specs.declared.sharing.Sharing.{Sharing}
use Rattle.gate.proofs.PlaceLaw.{tabled_is}
use Rattle.circuit.specs.Sharings.{zeros}
use Rattle.machine.specs.Registers.{Kind, bits, empty, kind_at, number, public_of, register_at, register_of, shares_of, with_register}
use Rattle.machine.specs.declared.registers.Machine.{Machine}
use Rattle.machine.specs.declared.registers.Register.TheVariants.{Empty}
use Rattle.machine.specs.declared.registers.Register.{Register}
use Rattle.act.specs.Works.{shares_read}
use Rattle.outcome.specs.Theorems.{value_at}
use Rattle.outcome.proofs.RegisterLaw.{map-set, shares_at, value_as_lem, value-at}
use Rattle.protocol.specs.Acts.{kept_as, share_at, value_in}
use Rattle.protocol.specs.Orders.{column}

zeros-at : (i : Place) → parts zeros i ≡ 0
zeros-at p0 = refl
zeros-at p1 = refl
zeros-at p2 = refl

-- a register's sub-share at a place stands in that place's column
pub column-at : (m : Machine) (k : ℕ) (i : Place) → get_or (column m i) k 0 ≡ shares_at m k i
unfolding register_at
column-at m k i =
    let f : Register → ℕ = λ r. parts (shares_of r) i in
    ap (λ (n : ℕ). get_or (map f m.slots) k n) (sym (zeros-at i)) ∙ get_or-map f m.slots k Empty

pub read_at : (m : Machine) (x : ℕ) → shares_read (column m) (share_at x) ≡ shares_at m x
read_at m x = tabled_is (λ i. get_or (column m i) x 0) ∙ fun_ext (λ i. column-at m x i)

-- and its value is that of its sub-shares
pub value_is : (m : Machine) (x : ℕ) → value_at m x ≡ value_in (kind_at (public_of m) x) (shares_read (column m) (share_at x))
value_is m x =
    let kind = kind_at (public_of m) x in
    value-at m x ∙ sym (value_as_lem kind (shares_at m x)) ∙ ap (value_in kind) (sym (read_at m x))

kept_is : (kind : Kind) (x : Sharing) (i : Place) → parts (shares_of (register_of kind x)) i ≡ kept_as kind (parts x i)
kept_is empty x i = zeros-at i
kept_is (number r) x i = refl
kept_is (bits l) x i = refl

-- the columns of the record with a register of that kind in d
pub column-with : (m : Machine) (d : ℕ) (kind : Kind) (x : Sharing) (i : Place)
    → column (with_register m d (register_of kind x)) i ≡ set (column m i) d (kept_as kind (parts x i))
unfolding with_register
column-with m d kind x i =
    map-set (λ (r : Register). parts (shares_of r) i) m.slots d (register_of kind x)
    ∙ ap (λ (n : ℕ). set (column m i) d n) (kept_is kind x i)
