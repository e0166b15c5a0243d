-- Invariant: k rows are x.
use mathlib.Core.Path.{◌≡◌}
use native.Mathlib.Omega.{arith}
use Rattle.ring.specs.Rings.{modulus_of, width_of}
use Rattle.planes.specs.Planes.{four_times_at}
use Rattle.planes.proofs.RowLaw.{four_times_lt, planes_are, planes_none, width_lt}
use Rattle.planes.proofs.rows.wide_planes.Goals as goal

pub returns : goal.returns
returns c =
    let head = c.loop-k in
    let same : head.k ≡ 64 = omega arith in
    let v = four_times_at (modulus_of c.args.r) c.args.a.now in
    let all = planes_are v (rw same at head.invariant.1) (λ k h. omega (arith, four_times_lt c.args.r c.args.a.now k)) c.transpose.ensures.is in
    record { is = all; none = planes_none (width_of c.args.r) v all (λ k. width_lt c.args.r c.args.a.now k) c.transpose.ensures.words }
