-- What timing_gate answers and leaves.
-- Used by the code's contracts alone: no theorem's statement speaks of it.
use Rattle.std.specs.Prelude.{ℕ, zero, suc, ◌+◌, ◌*◌, ◌/◌, ◌≤◌, Bool, ◌&&◌, cond, List, [], ◌++◌, ◌∷◌, map, ◌≡◌, eqb, leb, drop, get_or, length, Some, None, Option}
use Rattle.ring.specs.declared.rings.Ring.{Ring}
use Rattle.ring.specs.Rings.{modulus_of, ring_of}
use Rattle.gate.specs.declared.sharing.Sharing.{Sharing}
use Rattle.gate.specs.Gates.{gated}
use Rattle.gate.specs.Places.{Place, p0, p1, p2, parts, shares_below, sharing}
use Rattle.timing.specs.Products.{alike}

-- three words, from an index on
abbrev pub triple_at : List ℕ → ℕ → Sharing
triple_at ws at = record { s0 = get_or ws at 0; s1 = get_or ws (at + 1) 0; s2 = get_or ws (at + 2) 0 }

-- the sharing that a gate makes
abbrev pub gate_of : ℕ → Sharing → Sharing → Sharing → Sharing
gate_of p x y t = sharing (gated p (parts x) (parts y) (parts t))

-- what n gates give from z on, gate k with items 3k to 3k + 2, up to the first item out of range
unfoldable pub chain : ℕ → Sharing → List ℕ → ℕ → ℕ → Sharing → List Sharing
chain p y items zero k z = []
chain p y items (suc n) k z =
    cond
    (shares_below p (triple_at items (3 * k)))
    (gate_of p z y (triple_at items (3 * k)) ∷ chain p y items n (suc k) (gate_of p z y (triple_at items (3 * k))))
    []

-- the chain from x, or no gate where x or y is out of range
unfoldable pub started : ℕ → Sharing → Sharing → List ℕ → ℕ → List Sharing
started p x y items n = cond (shares_below p x && shares_below p y) (chain p y items n 0 x) []

-- three words of x and of y, as much room in each channel as gates, three items a gate
unfoldable pub shaped : ℕ → ℕ → ℕ → ℕ → ℕ → ℕ → Bool
shaped x y items n₀ n₁ n₂ = eqb x 3 && eqb y 3 && alike n₁ n₂ n₀ && leb n₀ (items / 3)

abbrev pub gates_in : Option Ring → (x y items : List ℕ) → (Place → List ℕ) → List Sharing
gates_in (Some r) x y items c =
    cond
    (shaped (length x) (length y) (length items) (length (c p0)) (length (c p1)) (length (c p2)))
    (started (modulus_of r) (triple_at x 0) (triple_at y 0) items (length (c p0)))
    []
gates_in None x y items c = []

-- the gates done
unfoldable pub gates : ℕ → (x y items : List ℕ) → (Place → List ℕ) → List Sharing
gates width x y items c = gates_in (ring_of width) x y items c

-- a channel with the words of the gates at its head, the rest as it was
unfoldable pub written : (Sharing → ℕ) → List Sharing → List ℕ → List ℕ
written part zs c = map part zs ++ drop (length zs) c

-- room for a chain: channels of one length, and three items a gate
pub record Shape (items c₀ c₁ c₂ : List ℕ) : Type 0 where
  pub one : length c₁ ≡ length c₀
  pub two : length c₂ ≡ length c₀
  pub enough : length c₀ ≤ length items / 3

-- the answer is the number of gates, and each channel has their words: c at entry, d at exit
pub record Ran (zs : List Sharing) (answer : ℕ) (c d : Place → List ℕ) : Type 0 where
  pub answers : answer ≡ length zs
  pub channels : (i : Place) → d i ≡ written (λ z. parts z i) zs (c i)
