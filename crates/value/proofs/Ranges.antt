-- Every result is in range (specs/Ranges.antt).
use Prim.Native.Nat.{◌*◌, ◌-◌, ◌%◌}
use mathlib.Core.Path.{refl}
use native.Mathlib.Nat.{mod-lt}
use Rattle.ring.specs.Rings.{modulus}
use Rattle.gate.specs.Places.{tabled}
use Rattle.gate.proofs.Theorems.{words_fit}
use Rattle.circuit.specs.Circuits.{heads}
use Rattle.circuit.specs.Compose.{summing_start}
use Rattle.circuit.specs.Decompose.{digit}
use Rattle.circuit.specs.Orders.{addition, composition, conversion, decomposition, scaling, shifting, word_bit}
use Rattle.circuit.proofs.BitsLaw.{bit_lt, gather-lt}
use Rattle.value.specs.Ranges.{AddRange, ComposeRange, ConvertRange, DecomposeRange, MultiplyRange, ScaleRange, ShiftRange}
use Rattle.value.proofs.ComposeLaw.{compose_sums}
use Rattle.value.proofs.DecomposeLaw.{digit_lt}
use Rattle.value.proofs.GateLaw.{multiplication_is, result_is}
use Rattle.value.proofs.ModulusLaw.{modulus_pos}
use Rattle.value.proofs.ShiftLaw.{shift_sums}

pub add-range : AddRange
unfolding addition
add-range p h x y T = rw (result_is (addition p) x y T) (λ i. mod-lt _ h)

pub scale_range : ScaleRange
unfolding scaling
scale_range p c h x y T = rw (result_is (scaling p c) x y T) (λ i. mod-lt _ h)

pub multiply_range : MultiplyRange
multiply_range p h x y T = rw (multiplication_is p x y T) (words_fit p h (tabled x) (tabled y) (heads T))

pub decompose_range : DecomposeRange
unfolding decomposition
decompose_range e l a y T =
    rw (result_is (decomposition e l) a y T) (λ i. gather-lt l (digit i _) (digit_lt i _))

pub convert_range : ConvertRange
unfolding conversion
convert_range e f h a y T = rw (result_is (conversion e f) a y T) (λ i. mod-lt _ (modulus_pos f h))

pub shift_range : ShiftRange
unfolding shifting
shift_range e s h a y T =
    rw (result_is (shifting e s) a y T)
    (shift_sums (e - 2) (modulus e) s (e - 2 - s) (modulus_pos e h) (λ i. 4 * a i % modulus e) T).below

pub compose_range : ComposeRange
unfolding composition
compose_range f l h w y T =
    rw (result_is (composition f l) w y T)
    (compose_sums word_bit (λ i k j. bit_lt k j) (modulus f) (modulus_pos f h) 0 l (λ i. summing_start (w i)) T (λ i. refl)).below
