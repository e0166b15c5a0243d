-- What an act owes for demand 3 to hold of every job of such acts; when two acts are alike; and acts as a protocol.
use Rattle.std.specs.Prelude.{ℕ, ◌+◌, ◌≤◌, ◌<◌, ◌^◌, List, [], ◌∷◌, ◌⊎◌, ◌≡◌, length}
use Rattle.gate.specs.Places.{Place, next}
use Rattle.circuit.specs.Circuits.{Gate}
use Rattle.view.specs.Views.{lacked_by}
use Rattle.machine.specs.Checks.{Lengths, Tapes}
use Rattle.act.specs.Acts.{Act, is_opening, step}
use Rattle.act.specs.Jobs.{Protocol}
use Rattle.act.specs.Works.{Public, Shared, Work, deals, evaluates, opens, value_from}

-- a relation of data that are the same in all that is public and in every value, though not in their shares
abbrev pub Sameness : (E D : Type 0) → Type 1
Sameness E D = Shared E D → Shared E D → Type 0

-- enough is lent for a work
abbrev pub Lends : {E D : Type 0} → Work E D → Public E → Lengths → Type 0
Lends (deals rest p v put) q len = q.dealer_at + 2 ≤ len.dealer
Lends (evaluates rest R) q len =
    (R.gates ≡ [])
    ⊎ ((i : Place) → (q.masks_at + length R.gates ≤ len.masks i) × (q.channels_at + length R.gates ≤ len.channels i))
Lends (opens rest read value) q len = (i : Place) → q.channels_at + 1 ≤ len.channels i

-- moduli below 2^61: items below them are 64-bit words
pub data Narrow {S : Type 0} : List (Gate S) → Type 0 where
  none : Narrow []
  more : {g : Gate S} {G : List (Gate S)} → g.modulus < 2 ^ 61 → Narrow G → Narrow (g ∷ G)

abbrev pub NarrowWork : {E D : Type 0} → Work E D → Type 0
NarrowWork (deals rest p v put) = p < 2 ^ 61
NarrowWork (evaluates rest R) = Narrow R.gates
NarrowWork (opens rest read value) = Unit {0}

-- what an opening tells of the share at a place
abbrev pub told_at : {E D : Type 0} → Work E D → (Place → D) → Place → ℕ
told_at (deals rest p v put) s i = 0
told_at (evaluates rest R) s i = 0
told_at (opens rest read value) s i = read (s i)

-- what an act owes
pub record Lawful {E D : Type 0} (Same : Sameness E D) (a : Act E D) : Type 0 where
  -- accepted, it is lent all that it takes, and what it takes is narrow
  pub lends : (q : Public E) (len : Lengths) → a.refusal q len ≡ 0 → Lends (a.work q) q len
  pub narrow : (q : Public E) (len : Lengths) → a.refusal q len ≡ 0 → NarrowWork (a.work q)
  -- what is small goes by values
  pub small : (m n : Shared E D) → Same m n → a.Small m → a.Small n
  -- accepted on data that are the same it leaves the same, whatever the tapes
  pub keeps : (m n : Shared E D) (T T' : Tapes) (c c' : Place → List ℕ) → Same m n
      → (step a m T c).refusal ≡ 0 → (step a n T' c').refusal ≡ 0 → a.Small m
      → Same (step a m T c).state (step a n T' c').state
  -- what it opens goes by values, and tells no more: that value and U's own two shares give what is read of the third. m₀ and n₀ are any
  -- data that m and n are the same as, so all that Same asks of one side holds of m and n
  pub value : (m n : Shared E D) → Same m n → value_from (a.work m.public) m.share ≡ value_from (a.work n.public) n.share
  pub third : (U : Place) (m₀ m n₀ n : Shared E D) (len : Lengths) → Same m₀ m → Same n₀ n → m.public ≡ n.public
      → a.refusal m.public len ≡ 0
      → m.share U ≡ n.share U → m.share (next U) ≡ n.share (next U)
      → value_from (a.work m.public) m.share ≡ value_from (a.work m.public) n.share
      → told_at (a.work m.public) m.share (lacked_by U) ≡ told_at (a.work m.public) n.share (lacked_by U)

-- works that differ in the number dealt alone
pub data AlikeWork {E D : Type 0} : Work E D → Work E D → Type 1 where
  same : {w : Work E D} → AlikeWork w w
  number : {rest : E} {p v v' : ℕ} {put : D → ℕ → D} → AlikeWork (deals rest p v put) (deals rest p v' put)

-- two lawful acts alike in all but a number dealt: where neither is refused for its number, both refusals are one
pub record AlikeActs {E D : Type 0} (Same : Sameness E D) (a b : Act E D) : Type 1 where
  pub works : (q : Public E) → AlikeWork (a.work q) (b.work q)
  pub refusals : (q : Public E) (len : Lengths) → (a.NumberRefused (a.refusal q len) → ⊥) → (b.NumberRefused (b.refusal q len) → ⊥)
      → a.refusal q len ≡ b.refusal q len
  pub left : Lawful Same a
  pub right : Lawful Same b

-- what party U has of the data
pub record Holding (E D : Type 0) : Type 0 where
  pub public : Public E
  pub own : D
  pub far : D

abbrev pub holding : {E D : Type 0} → Place → Shared E D → Holding E D
holding U m = record { public = m.public; own = m.share U; far = m.share (next U) }

-- acts as a protocol, from a start
abbrev pub acting : {E D : Type 0} → Sameness E D → Shared E D → Protocol {1}
acting {E} {D} Same s =
    record {
      Act = Act E D;
      State = Shared E D;
      start = s;
      step = step;
      NumberRefused = λ a m r. a.NumberRefused r;
      Small = λ a m. a.Small m;
      opening = λ a m. is_opening (a.work m.public);
      Alike = AlikeActs Same;
      Seen = Holding E D;
      seen = holding;
    }
