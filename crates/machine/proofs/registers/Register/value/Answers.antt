-- Sound sub-shares can be added in their ring.
use native.Mathlib.Omega.{arith}
use Rattle.gate.specs.Places.{InRange}
use Rattle.ring.specs.Rings.{modulus_of}
use Rattle.ring.proofs.RangeLaw.{modulus-lt}
use Rattle.circuit.specs.Bits.{exclusive}
use Rattle.machine.proofs.KindLaw.{number_below, number_value}
use Rattle.machine.proofs.registers.Register.value.Goals as goal

below : (c : goal.After-struct_known-1) → InRange (modulus_of c.in-Number.r) c.in-Number.x
below c = number_below _ c.requires _ _ c.in-Number.is

pub returns-in-Number : goal.returns-in-Number
returns-in-Number c = number_value _ _ c.in-Number.is c.reduce_sum.ensures.is

pub returns-in-Bits : goal.returns-in-Bits
unfolding exclusive
returns-in-Bits c = rw c.in-Bits.is

pub overflow_add-x : goal.overflow_add-x
overflow_add-x c =
    omega (arith, below c, modulus-lt c.in-Number.r)

pub overflow_add-x-in-Number : goal.overflow_add-x-in-Number
overflow_add-x-in-Number c =
    omega (arith, below c.before, modulus-lt c.in-Number.r)

pub reduce_sum-requires : goal.reduce_sum-requires
reduce_sum-requires c =
    omega (arith, below c.before)
