-- What an accepted order leaves (specs/Values.antt).
use Prim.Native.Nat.{ℕ, ◌+◌, ◌*◌, ◌-◌, ◌/◌, ◌%◌, ◌<◌, ◌≤◌, ◌^◌}
use mathlib.Core.Path.{◌≡◌, ap, fun_ext, refl, sym, ◌∙◌}
use native.Mathlib.Nat.{mod-eq_of_lt, zero-add}
use native.Mathlib.Omega.{arith}
use lib.Pow.{pow_mono, pow_pos}
use Rattle.ring.specs.Modular.{Cong, diff}
use Rattle.ring.specs.Rings.{modulus, quarter}
use Rattle.ring.proofs.CongLaw.{cong_add, cong_cancel, cong_mod, cong_mul, cong_of_eq, cong_refl, cong_sym, cong_trans, diff-add}
use Rattle.ring.proofs.Theorems.{quarter_inverts}
use Rattle.gate.specs.Places.{Place, p0, p1, p2, tabled, total}
use Rattle.gate.proofs.Theorems as GateLaws
use Rattle.circuit.specs.Bits.{exclusive, gather}
use Rattle.circuit.specs.Circuits.{ends, heads, result, tails}
use Rattle.circuit.specs.Compose.{compose_gates, summing_start}
use Rattle.circuit.specs.Decompose.{decompose_gates, digit, digits_start}
use Rattle.circuit.specs.Orders.{addition, composition, conversion, decomposition, quotient_bit, quotient_gate, quotient_start, scaling, shifting, word_bit}
use Rattle.circuit.proofs.BitsLaw.{bit_lt, gather_high, gather-lt, gather_same}
use Rattle.circuit.proofs.RunLaw.{step}
use Rattle.value.specs.Values.{Adds, Composes, Converts, ConvertsSmall, Decomposes, DecomposesSmall, Multiplies, QuotientTransfer, RoundTrip, Scales, Shifts, ShiftsSmall, lifted, rounded_up, summed}
use Rattle.value.proofs.AdderLaw.{digit-at-lt, digit_at, gather_digits}
use Rattle.value.proofs.BitsLaw.{exclusive-gather, exclusive-opens}
use Rattle.value.proofs.ComposeLaw.{compose_sums, opened_bit}
use Rattle.value.proofs.ConvertLaw.{converted-total, quotient_bit_lt, quotient_holds}
use Rattle.value.proofs.DecomposeLaw.{decompose_holds, digit_lt, digit-total}
use Rattle.value.proofs.GateLaw.{multiplication_is, result_is}
use Rattle.value.proofs.ModulusLaw.{modulus_fours, modulus_pos, value-lt}
use Rattle.value.proofs.Ranges.{decompose_range}
use Rattle.value.proofs.ShiftLaw.{shift_sums}
use Rattle.value.proofs.SmallLaw.{lifted-small, rounded_mod, transferred}
use Rattle.value.proofs.SumLaw.{summed_cong, total_cong, total-lt, total_of}

pub quotient_transfer : QuotientTransfer
unfolding total
quotient_transfer e b x h small below four is =
    let three_times : summed x < 3 * modulus e = omega (arith, small p0, small p1, small p2) in
    transferred (modulus e) (2 ^ (e - 2)) (summed x) b (modulus_pos e (omega arith)) (modulus_fours e h) three_times is four

pub adds : Adds
unfolding addition ends
adds p h x y T =
    let regroup : summed (λ i. x i + y i) ≡ summed x + summed y = omega arith in
    rw (result_is (addition p) x y T)
    (total_of (λ i. (x i + y i) % p)
    (cong_trans (summed_cong (λ i. cong_mod p (x i + y i)))
    (cong_trans (cong_of_eq regroup) (cong_sym (cong_add (total_cong p x) (total_cong p y))))))

pub scales : Scales
unfolding scaling ends
scales p c h x y T =
    let regroup : summed (λ i. x i * c) ≡ summed x * c = omega arith in
    rw (result_is (scaling p c) x y T)
    (total_of (λ i. x i * c % p)
    (cong_trans (summed_cong (λ i. cong_mod p (x i * c)))
    (cong_trans (cong_of_eq regroup) (cong_sym (cong_mul (total_cong p x) (cong_refl c))))))

pub multiplies : Multiplies
unfolding total
multiplies p h x y T = rw (multiplication_is p x y T) (GateLaws.multiplies p h (tabled x) (tabled y) (heads T))

pub decomposes : Decomposes
unfolding decomposition
decomposes e l h a y T =
    let x : Place → ℕ = λ i. 4 * a i % modulus e in
    let s = ends (decompose_gates l) (λ i. digits_start (x i)) T in
    let held = decompose_holds l h x T in
    rw (result_is (decomposition e l) a y T)
    (exclusive-gather l (λ i. digit i (s i)) (λ i. digit_lt i (s i))
    ∙ gather_same l (λ j k. digit-total held j (omega arith) (omega arith) k)
    ∙ gather_digits l x)

pub converts : Converts
unfolding conversion ends step gather
converts e f h a y T =
    let m = modulus f in
    let x : Place → ℕ = λ i. 4 * a i % modulus e in
    let s = step quotient_gate (λ i. summing_start (quotient_start (x i))) (heads T) in
    let first = quotient_holds x (heads T) in
    let end = ends (compose_gates quotient_bit m 0 2) s (tails T) in
    let sums = compose_sums quotient_bit quotient_bit_lt m (modulus_pos f h) 0 2 s (tails T) first.none in
    let kept : (λ i. (end i).kept.x) ≡ x = fun_ext (λ i. ap (λ r. r.x) (sums.same i) ∙ first.same i) in
    let total_q : Cong m (summed (λ i. (end i).sum)) (diff 4 0 (summed x)) = cong_trans sums.sums (cong_of_eq first.opened) in
    rw (result_is (conversion e f) a y T)
    (converted-total m (modulus e) (quarter f) (modulus_pos f h) (λ i. (end i).kept.x) (λ i. (end i).sum) total_q
    ∙ ap (λ v. quarter f * diff m (summed v) (modulus e * diff 4 0 (summed x)) % m) kept)

pub composes : Composes
unfolding composition
composes f l h w y T below =
    let m = modulus f in
    let s = ends (compose_gates word_bit m 0 l) (λ i. summing_start (w i)) T in
    let sums = compose_sums word_bit (λ i k j. bit_lt k j) m (modulus_pos f h) 0 l (λ i. summing_start (w i)) T (λ i. refl) in
    let opened : gather l (λ j. opened_bit word_bit w (0 + j)) ≡ exclusive w
    = gather_same l (λ j k. ap (opened_bit word_bit w) (zero-add j)) ∙ sym (exclusive-opens l w below) in
    rw (result_is (composition f l) w y T) (total_of (λ i. (s i).sum) (cong_trans sums.sums (cong_of_eq opened)))

pub shifts : Shifts
unfolding shifting
shifts e s h fits a y T =
    let m = modulus e in
    let n = e - 2 - s in
    let x : Place → ℕ = λ i. 4 * a i % m in
    let kept = ends (decompose_gates (e - 2)) (λ i. digits_start (x i)) T in
    let held = decompose_holds (e - 2) (omega arith) x T in
    let all : s + n ≡ e - 2 = omega arith in
    let word = gather n (λ j. digit_at x (s + j)) in
    let opened : gather n (λ j. opened_bit digit kept (s + j)) ≡ word
    = gather_same n (λ j k. digit-total held (s + j) (omega arith) (omega arith) (omega arith)) in
    let high : word ≡ rounded_up (lifted e a) % 2 ^ (e - 2) / 2 ^ s
    = gather_high s n (digit_at x) (digit-at-lt x)
    ∙ ap (λ (k : ℕ). gather k (digit_at x) / 2 ^ s) all
    ∙ ap (λ (w : ℕ). w / 2 ^ s) (gather_digits (e - 2) x) in
    let small : word < 2 ^ n = gather-lt n (λ j. digit_at x (s + j)) (λ j. digit-at-lt x (s + j)) in
    let shorter : 2 ^ n ≤ 2 ^ (e - 2) = pow_mono (omega arith) in
    let word_lt : word < m = omega (arith, modulus_fours e (omega arith), pow_pos (e - 2)) in
    rw (result_is (shifting e s) a y T)
    (total_of _ (shift_sums (e - 2) m s n (modulus_pos e (omega arith)) x T).sums
    ∙ ap (λ (w : ℕ). w % m) opened ∙ mod-eq_of_lt word_lt ∙ high)

pub decomposes_small : DecomposesSmall
decomposes_small e l h fits a y T small = decomposes e l h a y T ∙ rounded_mod e l a fits small

pub converts_small : ConvertsSmall
converts_small e f he hf a y T small =
    let m = modulus f in
    let value = total (modulus e) a in
    let multiple = modulus e * diff 4 0 (lifted e a) in
    let positive : 0 < m = modulus_pos f (omega arith) in
    let four : Cong m (diff m (lifted e a) multiple) (4 * value)
    = cong_cancel multiple positive (cong_trans (diff-add m (lifted e a) multiple positive) (cong_of_eq (lifted-small e a he small))) in
    let one : Cong m (4 * quarter f) 1
    = cong_trans (cong_sym (cong_mod m (4 * quarter f))) (cong_of_eq (quarter_inverts f hf)) in
    let regroup : quarter f * (4 * value) ≡ 4 * quarter f * value = omega arith in
    let single : 1 * value ≡ value = omega arith in
    let back = cong_trans (cong_of_eq regroup) (cong_trans (cong_mul one (cong_refl value)) (cong_of_eq single)) in
    converts e f (omega arith) a y T ∙ (cong_trans (cong_mul (cong_refl (quarter f)) four) back).same

pub shifts_small : ShiftsSmall
shifts_small e s h fits a y T small =
    let whole : rounded_up (lifted e a) % 2 ^ (e - 2) ≡ total (modulus e) a
    = rounded_mod e (e - 2) a (omega arith) small ∙ mod-eq_of_lt (value-lt e (total (modulus e) a) (omega arith) small) in
    shifts e s h fits a y T ∙ ap (λ (w : ℕ). w / 2 ^ s) whole

pub round_trip : RoundTrip
round_trip e h a y z T U small =
    let value = total (modulus e) a in
    let bits : exclusive (result (decomposition e (e - 2)) a y T) ≡ value
    = decomposes_small e (e - 2) (omega arith) (omega arith) a y T small ∙ mod-eq_of_lt (value-lt e value (omega arith) small) in
    composes e (e - 2) (omega arith) _ z U (decompose_range e (e - 2) a y T)
    ∙ ap (λ (w : ℕ). w % modulus e) bits
    ∙ mod-eq_of_lt (total-lt a (modulus_pos e (omega arith)))
