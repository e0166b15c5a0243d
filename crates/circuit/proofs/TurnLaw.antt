-- One gate a turn on lent runs: the words that it sends, and a stage of no gate.
use Prim.Native.Nat.{ℕ}
use mathlib.Core.List.{List, [], ◌∷◌}
use mathlib.Core.Path.{◌≡◌, ap, refl, sym}
use lib.ListN.{set}
use Rattle.gate.specs.Places.{Place, Sent, p0, p1, p2, parts, sharing, three}
use Rattle.gate.specs.declared.sharing.Sharing.{Sharing}
use Rattle.gate.proofs.PlaceLaw.{each}
use Rattle.circuit.specs.Circuits.{Gate, upto, words}
use Rattle.circuit.specs.Lent.{Long, Ran, Turned}
use Rattle.circuit.specs.Sharings.{items_at}
use Rattle.circuit.proofs.LentLaw.{ran-gate, ran_none, rooms}

-- the words that a gate sends, by place
pub stored : {z : Sharing} (x : Place → ℕ) (c d : Place → List ℕ)
    → z ≡ sharing x → Sent z (c p0) (c p1) (c p2) (d p0) (d p1) (d p2) → (i : Place) → d i ≡ set (c i) 0 (x i)
stored x c d is sent = each (λ i. d i ≡ set (c i) 0 (x i)) (rw is at sent.zero) (rw is at sent.one) (rw is at sent.two)

module _ {S : Type 0} where
  -- a turn is a stretch of one gate
  pub turn-ran : {g : Gate S} {s r : Place → S} {t : Sharing} {m₀ m₁ m₂ c₀ c₁ c₂ d₀ d₁ d₂ : List ℕ}
      → t ≡ items_at 0 m₀ m₁ m₂
      → Long 1 c₀ c₁ c₂
      → Turned g s t r c₀ c₁ c₂ d₀ d₁ d₂
      → Ran (g ∷ []) s (three m₀ m₁ m₂) (three c₀ c₁ c₂) r (three d₀ d₁ d₂)
  turn-ran {g} {s} {r} {t} {m₀} {m₁} {m₂} {c₀} {c₁} {c₂} {d₀} {d₁} {d₂} items room turned =
      let z : Place → ℕ = words g s (parts t) in
      rw (← turned.states)
      (ran-gate g s (three m₀ m₁ m₂) (three c₀ c₁ c₂) z (ap (λ (w : Sharing). words g s (parts w)) (sym items)) (rooms room) (stored z (three c₀ c₁ c₂) (three d₀ d₁ d₂) refl turned.stored))

  -- no gate of a stage yet
  pub no_gates : (g : ℕ → Gate S) {s r : Place → S} {T c : Place → List ℕ} → s ≡ r → Ran (upto g 0) s T c r c
  unfolding upto
  no_gates g {s} {T = T} {c = c} e = rw (← e) (ran_none s T c)
