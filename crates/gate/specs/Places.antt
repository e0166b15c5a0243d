-- 01, "Rings, parts and units": three sub-shares, and the two that each unit holds. A unit is a party here.
use Rattle.std.specs.Prelude.{ℕ, ◌+◌, ◌%◌, ◌<◌, Bool, ◌&&◌, List, ◌≡◌, length, ltb, set}
use Rattle.gate.specs.declared.sharing.Sharing.{Sharing}

-- "such indices are taken modulo 3"
pub data Place : Type 0 where
  p0 p1 p2 : Place

abbrev pub next : Place → Place
next p0 = p1
next p1 = p2
next p2 = p0

-- one of three things, by place
abbrev pub three {ℓ} : {A : Type ℓ} → A → A → A → Place → A
three a b c p0 = a
three a b c p1 = b
three a b c p2 = c

-- the same function, its three values worked out once
abbrev pub tabled {ℓ} : {A : Type ℓ} → (Place → A) → Place → A
tabled f = three (f p0) (f p1) (f p2)

-- what "unit i holds sub-shares i and i+1" gives one party: its own, and the one after
pub record Pair : Type 0 where
  pub own : ℕ
  pub far : ℕ

abbrev pub pair : ℕ → ℕ → Pair
pair own far = record { own = own; far = far }

abbrev pub held : (Place → ℕ) → Place → Pair
held x i = pair (x i) (x (next i))

-- the sub-shares of a sharing, and the sharing of three sub-shares
abbrev pub parts : Sharing → Place → ℕ
parts x = three x.s0 x.s1 x.s2

abbrev pub sharing : (Place → ℕ) → Sharing
sharing x = record { s0 = x p0; s1 = x p1; s2 = x p2 }

-- "its value is their total modulo p"
unfoldable pub total : ℕ → (Place → ℕ) → ℕ
total m x = (x p0 + x p1 + x p2) % m

-- "each below p", by place and as a sharing; and what one party can say of it
abbrev pub Below : ℕ → (Place → ℕ) → Type 0
Below m x = (i : Place) → x i < m

pub record InRange (m : ℕ) (x : Sharing) : Type 0 where
  pub zero : x.s0 < m
  pub one : x.s1 < m
  pub two : x.s2 < m

-- the test of it
abbrev pub shares_below : ℕ → Sharing → Bool
shares_below m x = ltb x.s0 m && (ltb x.s1 m && ltb x.s2 m)

pub record PairBelow (m : ℕ) (x : Pair) : Type 0 where
  pub own : x.own < m
  pub far : x.far < m

-- each channel has room for a word
pub record Room (c₀ c₁ c₂ : List ℕ) : Type 0 where
  pub zero : 0 < length c₀
  pub one : 0 < length c₁
  pub two : 0 < length c₂

-- word i stands at the head of channel i, the rest of each as it was: c at entry, d at exit
pub record Sent (z : Sharing) (c₀ c₁ c₂ d₀ d₁ d₂ : List ℕ) : Type 0 where
  pub zero : d₀ ≡ set c₀ 0 z.s0
  pub one : d₁ ≡ set c₁ 0 z.s1
  pub two : d₂ ≡ set c₂ 0 z.s2
