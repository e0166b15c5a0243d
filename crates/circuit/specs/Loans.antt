-- What a list of gates is lent, from its position on.
-- Used by the code's contracts alone: no theorem's statement speaks of it.
use Rattle.std.specs.Prelude.{ℕ, ◌+◌, ◌<◌, List, ◌≡◌, drop, length, take}
use Rattle.gate.specs.Places.{InRange, Place, Sent, p0, p1, p2, three}
use Rattle.gate.specs.declared.sharing.Sharing.{Sharing}
use Rattle.circuit.specs.Circuits.{Circuit, Gate}
use Rattle.circuit.specs.Lent.{Left, Long, Ran}
use Rattle.circuit.specs.Sharings.{items_at}
use Rattle.circuit.specs.declared.lent.Lent.{Lent}

-- the mask tapes and the channels, whole
abbrev pub tapes : Lent → Place → List ℕ
tapes v = three v.m0.now v.m1.now v.m2.now

abbrev pub channels : Lent → Place → List ℕ
channels v = three v.c0.now v.c1.now v.c2.now

-- the part of each from a position on
abbrev pub drops : ℕ → (Place → List ℕ) → Place → List ℕ
drops k r = λ i. drop k (r i)

-- n gates more have items and room
pub record Room (n : ℕ) (v : Lent) : Type 0 where
  pub masks : Long (v.at + n) v.m0.now v.m1.now v.m2.now
  pub channels : Long (v.at + n) v.c0.now v.c1.now v.c2.now

-- of the items to come, n from the k-th on are below m
pub record ItemsIn (m k n : ℕ) (v : Lent) : Type 0 where
  pub below : (j : ℕ) → j < n → InRange m (items_at (v.at + k + j) v.m0.now v.m1.now v.m2.now)

-- n gates modulo m have what they take
pub record Supplied (m n : ℕ) (v : Lent) : Type 0 where
  pub room : Room n v
  pub items : ItemsIn m 0 n v

-- the next items
abbrev pub items_next : Lent → Sharing
items_next v = items_at v.at v.m0.now v.m1.now v.m2.now

-- the same runs, the channels as they were behind the position
pub record Same (v w : Lent) : Type 0 where
  pub m0 : w.m0 ≡ v.m0
  pub m1 : w.m1 ≡ v.m1
  pub m2 : w.m2 ≡ v.m2
  pub c0 : w.c0.ghost_name ≡ v.c0.ghost_name
  pub c1 : w.c1.ghost_name ≡ v.c1.ghost_name
  pub c2 : w.c2.ghost_name ≡ v.c2.ghost_name
  pub long : (i : Place) → length (channels w i) ≡ length (channels v i)
  pub behind : (i : Place) → take v.at (channels w i) ≡ take v.at (channels v i)

-- n gates are done: P of the tapes, and of the channels before and after, all from the position on
pub record Sends (n : ℕ) (P : (T c d : Place → List ℕ) → Type 0) (v w : Lent) : Type 0 where
  pub ahead : P (drops v.at (tapes v)) (drops v.at (channels v)) (drops v.at (channels w))
  pub at : w.at ≡ v.at + n
  pub same : Same v w

-- of one gate: its words z stand at the heads
abbrev pub words_sent : Sharing → (T c d : Place → List ℕ) → Type 0
words_sent z T c d = Sent z (c p0) (c p1) (c p2) (d p0) (d p1) (d p2)

-- the gates G ran from states s to states r
abbrev pub gates_ran : {S : Type 0} → List (Gate S) → (s r : Place → S) → (T c d : Place → List ℕ) → Type 0
gates_ran G s r T c d = Ran G s T c r d

-- from sources x and y the circuit C left the sharing z
abbrev pub circuit_left : Circuit → (x y : Place → ℕ) → Sharing → (T c d : Place → List ℕ) → Type 0
circuit_left C x y z T c d = Left C x y T c z d
