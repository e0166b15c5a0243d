-- Each place adds its own share.
use Prim.Native.Nat.{◌+◌, ◌*◌, ◌^◌}
use Rattle.std.proofs.Common.{rules}
use Rattle.ring.specs.Modular.{Cong}
use Rattle.gate.proofs.PlaceLaw.{each}
use Rattle.compose.proofs.bits.add_weighted.Goals as goal

pub returns-clause-is : goal.returns-clause-is
returns-clause-is c =
    let a = c.args in
    let z = c.zip.result in
    let e₀ : Cong a.p z.s0 (a.sum.s0 + 2 ^ a.j * a.b.s0) = search rules in
    let e₁ : Cong a.p z.s1 (a.sum.s1 + 2 ^ a.j * a.b.s1) = search rules in
    let e₂ : Cong a.p z.s2 (a.sum.s2 + 2 ^ a.j * a.b.s2) = search rules in
    each _ e₀ e₁ e₂
