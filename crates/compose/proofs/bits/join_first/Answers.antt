-- The places without a bit join to nothing.
use Prim.Native.Nat.{ℕ}
use mathlib.Core.Path.{◌≡◌, subst}
use native.Mathlib.Omega.{arith}
use Rattle.std.proofs.Common.{rules}
use Rattle.gate.specs.Gates.{gated}
use Rattle.gate.specs.Places.{Place, p0, p1, p2, parts, sharing, three}
use Rattle.circuit.specs.Loans.{items_next}
use Rattle.gate.specs.declared.sharing.Sharing.{Sharing}
use Rattle.circuit.specs.Sharings.{zeros}
use Rattle.compose.specs.Steps.{Joined}
use Rattle.compose.proofs.StepLaw.{joins_sent}
use Rattle.compose.proofs.bits.join_first.Goals as goal

-- shares joined where the other places have what no sharing has
shares-of : (b₀ b₁ : ℕ) {p : ℕ} (z h : Sharing) {n : Sharing} → n ≡ zeros
    → ((i : Place) → Joined p (three b₀ n.s1 n.s2 i) (three n.s0 b₁ n.s2 i) (parts z i) (parts h i))
    → (i : Place) → Joined p (three b₀ 0 0 i) (three 0 b₁ 0 i) (parts z i) (parts h i)
shares-of b₀ b₁ {p} z h e joined =
    subst (λ (n : Sharing). (i : Place) → Joined p (three b₀ n.s1 n.s2 i) (three n.s0 b₁ n.s2 i) (parts z i) (parts h i)) e joined

pub returns-clause-is : goal.returns-clause-is
returns-clause-is c =
    let b₀ = c.bit-b0 in
    let b₁ = c.bit-b1 in
    let shares = shares-of b₀.result b₁.result c.gate-z.result c.join_shares.result c.zeros-none.ensures c.join_shares.ensures in
    let word : c.gate-z.result ≡ sharing (gated c.args.p (three b₀.result 0 0) (three 0 b₁.result 0) (parts (items_next c.args.lent.now)))
    = search rules in
    rw (b₀.ensures.is, b₁.ensures.is) at (joins_sent _ _ word c.gate-z.ensures.sent (λ i. (shares i).near))

pub returns-clause-below : goal.returns-clause-below
returns-clause-below c =
    let shares = shares-of c.bit-b0.result c.bit-b1.result c.gate-z.result c.join_shares.result c.zeros-none.ensures c.join_shares.ensures in
    record {
      zero = omega (arith, (shares p0).most);
      one = omega (arith, (shares p1).most);
      two = omega (arith, (shares p2).most);
    }
