-- 01's figures: circuit's rows by its proof, those over `step` computed (specs/Figures.antt).
use mathlib.Core.List.{List, ◌++◌, map-append}
use mathlib.Core.Path.{refl, sym, ◌∙◌}
use Rattle.ring.specs.Modular.{diff}
use Rattle.ring.specs.Rings.{bit_of, modulus}
use Rattle.gate.specs.Gates.{crossed, gated, mask, word}
use Rattle.circuit.specs.Bits.{exclusive, gather}
use Rattle.circuit.specs.Circuits.{after, ends, result, upto, words}
use Rattle.circuit.specs.Decompose.{carry_gate, decompose_gates, raising_gate, running_gate, zero_gate}
use Rattle.circuit.specs.Figures as circuit
use Rattle.circuit.specs.Figures.{Figure, Hold}
use Rattle.circuit.specs.Orders.{decomposition}
use Rattle.circuit.proofs.Figures as circuit-proofs
use Rattle.machine.specs.Checks.{any_above15, any_bad, any_outside, first_met, public_checks}
use Rattle.machine.specs.Figures.{FiguresHold, figures, not_refused}
use Rattle.machine.specs.Registers.{empty_machine, register_at, sound, sound_register, sound_slots, with_register}
use Rattle.machine.specs.Step.{checks, computed, step}

joined : (a b : List Figure) → Hold a → Hold b → Hold (a ++ b)
joined a b h k =
    map-append (λ (f : Figure). f.given) a b ∙ rw (h, k) (sym (map-append (λ (f : Figure). f.wanted) a b))

accepted : Hold not_refused
unfolding not_refused diff bit_of modulus crossed gated mask word exclusive gather after ends result upto words carry_gate decompose_gates raising_gate running_gate zero_gate decomposition any_above15 any_bad any_outside first_met public_checks empty_machine register_at sound sound_register sound_slots with_register checks computed step
accepted = refl

pub figures_hold : FiguresHold
unfolding figures
figures_hold = joined circuit.figures not_refused circuit-proofs.figures_hold accepted
