-- A dealt number's three sub-shares: any two and the number give the third.
use Prim.Native.Nat.{ℕ, ◌+◌, ◌<◌}
use mathlib.Core.Path.{◌≡◌, refl, sym}
use native.Mathlib.Omega.{arith}
use Rattle.ring.specs.Modular.{Cong, diff}
use Rattle.ring.proofs.CongLaw.{cong_add, cong_cancel, cong_of_eq, cong_refl, cong_sym, cong_trans, diff-add, diff-lt, diff_only}
use Rattle.gate.specs.Places.{Pair, Place, held, p0, p1, p2, parts}
use Rattle.machine.specs.Step.{dealt_shares}
use Rattle.act.specs.Changes.{dealt_around}

-- the number is the total of the three
deal_total : (p v a b : ℕ) → 0 < p → Cong p (diff p (diff p v a) b + b + a) v
deal_total p v a b h =
    cong_trans (cong_add (diff-add p (diff p v a) b h) (cong_refl a)) (diff-add p v a h)

-- a sub-share, from the number and the other two
lost : (p v a b c : ℕ) → a < p → Cong p (a + c + b) v → diff p (diff p v b) c ≡ a
lost p v a b c h total =
    sym (diff_only c (omega arith) h (cong_cancel b (omega arith) (cong_trans total (cong_sym (diff-add p v b (omega arith))))))

lost_first : (p v a b : ℕ) → a < p → diff p (diff p v b) (diff p (diff p v a) b) ≡ a
lost_first p v a b h =
    let x = diff p (diff p v a) b in
    let order : a + x + b ≡ x + b + a = omega arith in
    lost p v a b x h (cong_trans (cong_of_eq order) (deal_total p v a b (omega arith)))

lost_second : (p v a b : ℕ) → b < p → diff p (diff p v (diff p (diff p v a) b)) a ≡ b
lost_second p v a b h =
    let x = diff p (diff p v a) b in
    let order : b + a + x ≡ x + b + a = omega arith in
    lost p v b x a h (cong_trans (cong_of_eq order) (deal_total p v a b (omega arith)))

-- the two items, from the pair that U is handed
pub items_back : (U : Place) (p v r₀ r₁ : ℕ) → r₀ < p → r₁ < p
    → (dealt_around U p v (held (parts (dealt_shares p v r₀ r₁)) U) p0 ≡ r₀)
    × (dealt_around U p v (held (parts (dealt_shares p v r₀ r₁)) U) p1 ≡ r₁)
items_back p0 p v r₀ r₁ h₀ h₁ = (refl, refl)
items_back p1 p v r₀ r₁ h₀ h₁ = (lost_first p v r₀ r₁ h₀, refl)
items_back p2 p v r₀ r₁ h₀ h₁ = (refl, lost_second p v r₀ r₁ h₁)

-- the pair, from the two items
pub pair-back : (U : Place) (p v : ℕ) (h : Pair) → h.own < p → h.far < p
    → held (parts (dealt_shares p v (dealt_around U p v h p0) (dealt_around U p v h p1))) U ≡ h
pair-back p0 p v h a b = refl
pair-back p1 p v h a b = rw (lost_second p v h.own h.far b)
pair-back p2 p v h a b = rw (lost_first p v h.own h.far a)

-- both in range
pub items_below : (U : Place) (p v : ℕ) (h : Pair) → h.own < p → h.far < p
    → (dealt_around U p v h p0 < p) × (dealt_around U p v h p1 < p)
items_below p0 p v h a b = (a, b)
items_below p1 p v h a b = (diff-lt p (diff p v h.own) h.far (omega arith), a)
items_below p2 p v h a b = (b, diff-lt p (diff p v h.own) h.far (omega arith))

pub pair_below : (U : Place) (p v r₀ r₁ : ℕ) → r₀ < p → r₁ < p
    → ((held (parts (dealt_shares p v r₀ r₁)) U).own < p) × ((held (parts (dealt_shares p v r₀ r₁)) U).far < p)
pair_below p0 p v r₀ r₁ h₀ h₁ = (h₀, h₁)
pair_below p1 p v r₀ r₁ h₀ h₁ = (h₁, diff-lt p (diff p v r₀) r₁ (omega arith))
pair_below p2 p v r₀ r₁ h₀ h₁ = (diff-lt p (diff p v r₀) r₁ (omega arith), h₀)
