-- 01's figures, computed (specs/Figures.antt).
use mathlib.Core.Path.{refl}
use Rattle.ring.specs.Modular.{diff}
use Rattle.ring.specs.Rings.{bit_of, modulus, quarter}
use Rattle.gate.specs.Gates.{crossed, gated, mask, word}
use Rattle.gate.specs.Places.{total}
use Rattle.circuit.specs.Bits.{exclusive, gather}
use Rattle.circuit.specs.Circuits.{after, ends, result, upto, words}
use Rattle.circuit.specs.Compose.{compose_gates, first_gate, second_gate}
use Rattle.circuit.specs.Decompose.{carry_gate, decompose_gates, raising_gate, running_gate, zero_gate}
use Rattle.circuit.specs.Figures.{Hold, figures}
use Rattle.circuit.specs.Orders.{conversion, decomposition, quotient_gate}

pub figures_hold : Hold figures
unfolding figures gated word crossed mask diff modulus quarter bit_of total exclusive gather after ends result upto words compose_gates first_gate second_gate carry_gate decompose_gates raising_gate running_gate zero_gate conversion decomposition quotient_gate
figures_hold = refl
