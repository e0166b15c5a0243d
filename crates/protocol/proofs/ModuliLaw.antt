use Rattle.std.specs.Prelude.{Some, None, Option}
use Rattle.ring.specs.declared.rings.Ring.{Ring}
-- Lists of gates with moduli below 2^61.
use Prim.Native.Nat.{ℕ, zero, suc, ◌+◌, ◌-◌, ◌<◌, ◌^◌}
use mathlib.Core.Bool.{false, true≢false}
use mathlib.Core.List.{List, ◌++◌, map}
use mathlib.Core.Path.{◌≡◌, refl}
use lib.Dec.{lit<}
use Rattle.ring.specs.Rings.{modulus, ring_of}
use Rattle.ring.proofs.RangeLaw.{modulus-lt, width_named}
use Rattle.gate.specs.Places.{Place}
use Rattle.circuit.specs.Circuits.{Gate, upto}
use Rattle.circuit.specs.Compose.{compose_gates, first_gate, second_gate}
use Rattle.circuit.specs.Decompose.{Digits, carry_gate, decompose_gates, raising_gate, running_gate, zero_gate}
use Rattle.circuit.specs.Orders.{within}
use Rattle.machine.specs.Checks.{no_ring}
use Rattle.machine.specs.Registers.{Kind, bits, empty, number, width_at}
use Rattle.act.specs.Lawful.{Narrow, more, none}

pub narrow_append : {S : Type 0} {G H : List (Gate S)} → Narrow G → Narrow H → Narrow (G ++ H)
narrow_append none q = q
narrow_append (more h p) q = more h (narrow_append p q)

narrow_upto : {S : Type 0} (g : ℕ → Gate S) → ((k : ℕ) → (g k).modulus < 2 ^ 61) → (n : ℕ) → Narrow (upto g n)
unfolding upto
narrow_upto g h zero = none
narrow_upto g h (suc n) = narrow_append (narrow_upto g h n) (more (h n) none)

-- a decomposition's gates are modulo 2
pub narrow_decompose : (l : ℕ) → Narrow (decompose_gates l)
unfolding decompose_gates carry_gate running_gate zero_gate raising_gate
narrow_decompose l =
    narrow_append (narrow_upto carry_gate (λ k. lit< tt) (l + 1))
    (narrow_append (narrow_upto (λ k. running_gate (k + 1)) (λ k. lit< tt) l)
    (more (lit< tt) (narrow_upto raising_gate (λ k. lit< tt) (l - 1))))

pub narrow_within : {G : List (Gate Digits)} → Narrow G → Narrow (map within G)
narrow_within none = none
narrow_within (more h p) = more h (narrow_within p)

-- a composition's are modulo m
pub narrow_compose : {K : Type 0} (read : Place → K → ℕ → ℕ) (m from count : ℕ) → m < 2 ^ 61 → Narrow (compose_gates read m from count)
unfolding compose_gates first_gate second_gate
narrow_compose read m from zero h = none
narrow_compose read m from (suc k) h = narrow_append (narrow_compose read m from k h) (more h (more h none))

-- the modulus of a register
pub kind_narrow : (k : Kind) → modulus (width_at k) < 2 ^ 61
unfolding modulus
kind_narrow empty = lit< tt
kind_narrow (number r) = modulus-lt r
kind_narrow (bits l) = lit< tt

-- the modulus of a width that has a ring
pub ring_narrow : (e : ℕ) → no_ring (ring_of e) ≡ false → modulus e < 2 ^ 61
ring_narrow e = go (ring_of e) refl
  where
    go : (w : Option Ring) → ring_of e ≡ w → no_ring w ≡ false → modulus e < 2 ^ 61
    go (Some r) is h = rw (width_named e is) (modulus-lt r)
    go None is h = absurd (true≢false h)
