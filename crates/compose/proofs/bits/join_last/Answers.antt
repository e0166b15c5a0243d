-- Each place's share is at most twice the modulus and what it joins.
use Prim.Native.Nat.{ℕ}
use mathlib.Core.Path.{◌≡◌, subst}
use native.Mathlib.Omega.{arith}
use Rattle.std.proofs.Common.{rules}
use Rattle.gate.specs.Gates.{gated}
use Rattle.gate.specs.Places.{Place, p0, p1, p2, parts, sharing, three}
use Rattle.circuit.specs.Loans.{items_next}
use Rattle.gate.specs.declared.sharing.Sharing.{Sharing}
use Rattle.circuit.specs.Sharings.{zeros}
use Rattle.compose.specs.Steps.{Joined}
use Rattle.compose.proofs.StepLaw.{joins_sent}
use Rattle.compose.proofs.bits.join_last.Goals as goal

-- shares joined where the other places have what no sharing has
shares-of : (u : Sharing) (b₂ : ℕ) {p : ℕ} (z h : Sharing) {n : Sharing} → n ≡ zeros
    → ((i : Place) → Joined p (parts u i) (three n.s0 n.s1 b₂ i) (parts z i) (parts h i))
    → (i : Place) → Joined p (parts u i) (three 0 0 b₂ i) (parts z i) (parts h i)
shares-of u b₂ {p} z h e joined =
    subst (λ (n : Sharing). (i : Place) → Joined p (parts u i) (three n.s0 n.s1 b₂ i) (parts z i) (parts h i)) e joined

pub returns-clause-is : goal.returns-clause-is
returns-clause-is c =
    let b₂ = c.bit-b2 in
    let shares = shares-of c.args.half b₂.result c.gate-z.result c.join_shares.result c.zeros.ensures c.join_shares.ensures in
    let word : c.gate-z.result ≡ sharing (gated c.args.p (parts c.args.half) (three 0 0 b₂.result) (parts (items_next c.args.lent.now)))
    = search rules in
    rw b₂.ensures.is at (joins_sent _ _ word c.gate-z.ensures.sent (λ i. (shares i).near))

pub returns-clause-below : goal.returns-clause-below
returns-clause-below c =
    let shares = shares-of c.args.half c.bit-b2.result c.gate-z.result c.join_shares.result c.zeros.ensures c.join_shares.ensures in
    record {
      zero = omega (arith, c.requires.half, (shares p0).most);
      one = omega (arith, c.requires.half, (shares p1).most);
      two = omega (arith, c.requires.half, (shares p2).most, c.bit-b2.ensures.below);
    }
