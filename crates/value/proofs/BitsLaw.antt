-- Bits that are shared: totals modulo 2, and the words that they make.
use Prim.Native.Nat.{ℕ, zero, suc, ◌+◌, ◌*◌, ◌%◌, ◌<◌, ◌^◌}
use mathlib.Core.Logic.{⊎_elim}
use mathlib.Core.Path.{◌≡◌, ap, ap₂, fun_ext, refl, sym, ◌∙◌}
use native.Mathlib.Nat.{add_comm, eq-or-lt_of_le, le_of_suc-le-suc, mod-add-mod, mod-eq_of_lt, mod-lt, zero-div}
use native.Mathlib.Omega.{arith}
use lib.Bits.{bit_xor, xor_block, xor_lt}
use lib.Dec.{lit<}
use lib.Pow.{pow_pos}
use Rattle.ring.specs.Rings.{bit_of}
use Rattle.ring.proofs.BitLaw.{xor_bit}
use Rattle.ring.proofs.CongLaw.{cong_add, cong_mod, cong_of_eq, cong_sym, cong_trans}
use Rattle.gate.specs.Places.{Below, Place, p0, p1, p2, total}
use Rattle.circuit.specs.Bits.{alone, exclusive, gather, xor}
use Rattle.circuit.proofs.BitsLaw.{bit_lt, gather-bits, gather-lt, stored_bit, stored_low, stored-lt}
use Rattle.value.specs.Values.{summed}
use Rattle.value.proofs.SumLaw.{summed-alone, summed_cong}

-- the exclusive or of shared bits, at each place
pub total-xor : (u v : Place → ℕ) → total 2 (λ i. xor (u i) (v i)) ≡ xor (total 2 u) (total 2 v)
unfolding total
total-xor u v =
    let each = summed_cong (λ i. cong_mod 2 (u i + v i)) in
    let both = cong_add (cong_mod 2 (summed u)) (cong_mod 2 (summed v)) in
    let regroup : summed (λ i. u i + v i) ≡ summed u + summed v = omega arith in
    (cong_trans each (cong_trans (cong_of_eq regroup) (cong_sym both))).same

pub total-xor-three : (u v w : Place → ℕ) → total 2 (λ i. xor (xor (u i) (v i)) (w i)) ≡ (total 2 u + total 2 v + total 2 w) % 2
total-xor-three u v w =
    total-xor (λ i. xor (u i) (v i)) w
    ∙ ap (λ (n : ℕ). xor n (total 2 w)) (total-xor u v)
    ∙ mod-add-mod (total 2 u + total 2 v) 2 (total 2 w)

-- a bit that is known from sub-share k alone
pub total-alone : (k : Place) (w : Place → ℕ) (j : ℕ) → total 2 (λ i. alone k i (bit_of (w i) j)) ≡ bit_of (w k) j
unfolding total
total-alone k w j = rw (summed-alone k (λ i. bit_of (w i) j)) (mod-eq_of_lt (bit_lt (w k) j))

-- exclusive or goes bit by bit
xor-digit : (k : ℕ) {a b r s : ℕ} → a < 2 → b < 2 → r < 2 ^ k → s < 2 ^ k
    → bit_xor (r + a * 2 ^ k) (s + b * 2 ^ k) ≡ bit_xor r s + xor a b * 2 ^ k
xor-digit k {a} {b} {r} {s} ha hb hr hs =
    ap₂ bit_xor (add_comm r (a * 2 ^ k)) (add_comm s (b * 2 ^ k))
    ∙ xor_block k a b r s hr hs
    ∙ ap (λ (n : ℕ). n * 2 ^ k + bit_xor r s) (xor_bit ha hb)
    ∙ add_comm (xor a b * 2 ^ k) (bit_xor r s)

pub exclusive-gather : (n : ℕ) (b : Place → ℕ → ℕ) → ((i : Place) (j : ℕ) → b i j < 2)
    → exclusive (λ i. gather n (b i)) ≡ gather n (λ j. total 2 (λ i. b i j))
unfolding exclusive gather total
exclusive-gather zero b bits = refl
exclusive-gather (suc n) b bits =
    let low : (i : Place) → gather n (b i) < 2 ^ n = λ i. gather-lt n (b i) (bits i) in
    let word : Place → ℕ = λ i. gather n (b i) + b i n * 2 ^ n in
    ap (λ (w : ℕ). bit_xor w (word p2)) (xor-digit n (bits p0 n) (bits p1 n) (low p0) (low p1))
    ∙ xor-digit n (mod-lt (b p0 n + b p1 n) (lit< tt)) (bits p2 n) (xor_lt n _ _ (low p0) (low p1)) (low p2)
    ∙ ap₂ (λ (w d : ℕ). w + d * 2 ^ n) (exclusive-gather n b bits) (mod-add-mod (b p0 n + b p1 n) 2 (b p2 n))

-- "its value is their exclusive or": the word of the bits that are shared
pub exclusive-opens : (n : ℕ) (w : Place → ℕ) → Below (2 ^ n) w → exclusive w ≡ gather n (λ j. total 2 (λ i. bit_of (w i) j))
exclusive-opens n w below =
    let made : (λ i. gather n (bit_of (w i))) ≡ w = fun_ext (λ i. gather-bits n (w i) ∙ mod-eq_of_lt (below i)) in
    ap exclusive (sym made) ∙ exclusive-gather n (λ i. bit_of (w i)) (λ i. bit_lt (w i))

-- words below 2^k that share, bit by bit, the bits f j
pub record Shares (k : ℕ) (w : Place → ℕ) (f : ℕ → ℕ) : Type 0 where
  pub below : Below (2 ^ k) w
  pub bits : (j : ℕ) → j < k → total 2 (λ i. bit_of (w i) j) ≡ f j

pub shares-zeros : (k : ℕ) (f : ℕ → ℕ) → ((j : ℕ) → j < k → f j ≡ 0) → Shares k (λ i. 0) f
unfolding total bit_of
shares-zeros k f zeros = record { below = λ i. pow_pos k; bits = λ j h. rw (zero-div (2 ^ j), zeros j h) }

pub shares_more : {k : ℕ} {w : Place → ℕ} {f : ℕ → ℕ} (b : Place → ℕ) → Below 2 b → total 2 b ≡ f k → Shares k w f
    → Shares (suc k) (λ i. w i + b i * 2 ^ k) f
shares_more {k} {w} {f} b small is s = record { below = λ i. stored-lt k (s.below i) (small i); bits = bits' }
  where
    top : (λ i. bit_of (w i + b i * 2 ^ k) k) ≡ b
    top = fun_ext (λ i. stored_bit k (s.below i) (small i))

    bits' : (j : ℕ) → j < suc k → total 2 (λ i. bit_of (w i + b i * 2 ^ k) j) ≡ f j
    bits' j h =
        ⊎_elim
        (λ (e : j ≡ k). rw e (ap (total 2) top ∙ is))
        (λ (l : j < k). ap (total 2) (fun_ext (λ i. stored_low k j (w i) (b i) l)) ∙ s.bits j l)
        (eq-or-lt_of_le (le_of_suc-le-suc h))

pub shares-one : {f : ℕ → ℕ} (b : Place → ℕ) → Below 2 b → total 2 b ≡ f 0 → Shares 1 b f
shares-one {f} b small is =
    let alike : (λ i. 0 + b i * 2 ^ 0) ≡ b = fun_ext (λ i. omega arith) in
    rw alike at (shares_more b small is (shares-zeros 0 f (λ j h. omega arith)))
