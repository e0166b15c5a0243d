-- Invariant: k rows hold two figures each.
use Prim.Native.Nat.{ℕ, ◌*◌, ◌%◌, ◌+◌, ◌<◌, ◌^◌}
use mathlib.Core.Path.{◌≡◌, ap, ap₂, ◌∙◌}
use native.Mathlib.Omega.{arith}
use borrow.Rule.Slice.PartMut.{mid_len}
use lib.ListN.{length-set}
use Rattle.ring.specs.Rings.{modulus_of, width_of}
use Rattle.planes.specs.Planes.{four_times_at}
use Rattle.planes.proofs.RowLaw.{halves_are, halves_small, narrow_lt, pair_shifted, paired_more, planes_none, width_lt}
use Rattle.planes.proofs.rows.narrow_planes.Goals as goal

pub overflow_add-y : goal.overflow_add-y
overflow_add-y c =
    let r = c.args.r in
    let low : c.four_times-low.result < 2 ^ 32
    = rw c.four_times-low.ensures.is (narrow_lt r c.args.a.now c.loop-k.k c.requires.width) in
    let high : c.four_times-high.result < 2 ^ 32
    = rw c.four_times-high.ensures.is (narrow_lt r c.args.a.now (32 + c.loop-k.k) c.requires.width) in
    omega (arith, low, high, pair_shifted high)

pub loop-k-preserved : goal.loop-k-preserved
loop-k-preserved c =
    let head = c.loop-k in
    let low = c.four_times-low in
    let high = c.four_times-high in
    let small : high.result < 2 ^ 32
    = rw high.ensures.is (narrow_lt c.args.r c.args.a.now (32 + head.k) c.requires.width) in (
      simp length-set head.invariant.0,
      paired_more head.y head.k (low.result + (high.result * 2 ^ 32) % 2 ^ 64) (four_times_at (modulus_of c.args.r) c.args.a.now)
          (omega arith) head.invariant.0 head.invariant.1
          (ap₂ (λ (a b : ℕ). a + b) low.ensures.is (pair_shifted small ∙ ap (λ (n : ℕ). n * 2 ^ 32) high.ensures.is)),
    )

pub returns : goal.returns
returns c =
    let head = c.loop-k in
    let same : head.k ≡ 32 = omega arith in
    let turned = c.transpose_halves in
    let long = turned.auto.rows ∙ mid_len 0 32 head.y (omega arith) in
    let v = four_times_at (modulus_of c.args.r) c.args.a.now in
    let rows = rw same at head.invariant.1 in
    let all = halves_are head.y turned.new.rows head.invariant.0 long turned.ensures.is v (λ k h. narrow_lt c.args.r c.args.a.now k c.requires.width) rows in
    record {
      is = all;
      none = planes_none (width_of c.args.r) v all (λ k. width_lt c.args.r c.args.a.now k)
          (halves_small head.y turned.new.rows head.invariant.0 long turned.ensures.is v rows turned.ensures.words);
    }
