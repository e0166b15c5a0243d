-- Each place settles its own share.
use mathlib.Core.Path.{◌≡◌}
use Prim.Native.Nat.{◌*◌, ◌%◌}
use native.Mathlib.Omega.{arith}
use Rattle.std.proofs.Common.{rules}
use Rattle.ring.specs.Modular.{diff}
use Rattle.ring.specs.Rings.{modulus_of, quarter_of}
use Rattle.compose.proofs.ShareLaw.{settled}
use Rattle.compose.proofs.quotients.settle.Goals as goal

pub returns-clause-is : goal.returns-clause-is
returns-clause-is c =
    let n = modulus_of c.args.f in
    let k = quarter_of c.args.f in
    let p = c.reduce-p.result in
    let x = c.args.x in
    let q = c.args.q in
    let z = c.zip.result in
    let e₀ : z.s0 ≡ k * diff n x.s0 (p * q.s0) % n = search rules in
    let e₁ : z.s1 ≡ k * diff n x.s1 (p * q.s1) % n = search rules in
    let e₂ : z.s2 ≡ k * diff n x.s2 (p * q.s2) % n = search rules in
    settled _ _ _ _ _ (omega arith) c.modulus.ensures c.reduce-p.ensures.is e₀ e₁ e₂
