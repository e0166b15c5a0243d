-- Data at three places, and the three kinds of work that an act does with it: it deals a number, evaluates gates, or opens a value.
use Rattle.std.specs.Prelude.{ℕ, ◌+◌, Bool, false, ◌||◌, List, [], ◌∷◌, leb, get_or, length}
use Rattle.gate.specs.Places.{Place, next, parts, tabled}
use Rattle.circuit.specs.Circuits.{Gate, ends, moduli, sent}
use Rattle.machine.specs.Checks.{Tapes, any_bad, left_from}
use Rattle.machine.specs.Step.{dealt_shares}

-- what is public: the three positions, and whatever else, of type E
pub record Public (E : Type 0) : Type 0 where
  pub rest : E
  pub masks_at : ℕ
  pub channels_at : ℕ
  pub dealer_at : ℕ

-- and the share that each place holds, of type D; party U has those at U and at U + 1
pub record Shared (E D : Type 0) : Type 0 where
  pub public : Public E
  pub share : Place → D

-- gates over a state that each place makes of its share, and the share that it leaves; with no gate a place works for itself
pub record Evaluation (D : Type 0) : Type 1 where
  pub State : Type 0
  pub start : D → State
  pub gates : List (Gate State)
  pub finish : Place → D → State → D

-- rest is what else is public afterwards. deals: v modulo p, its parts put into the shares; evaluates: gates; opens: what is read of each
-- share, and the value of the three
pub data Work (E D : Type 0) : Type 1 where
  deals : (rest : E) (p v : ℕ) (put : D → ℕ → D) → Work E D
  evaluates : (rest : E) (R : Evaluation D) → Work E D
  opens : (rest : E) (read : D → ℕ) (value : (Place → ℕ) → ℕ) → Work E D

-- mask items of each tape taken, words written on each channel, dealer's items taken
abbrev pub gates_in : {E D : Type 0} → Work E D → ℕ
gates_in (deals rest p v put) = 0
gates_in (evaluates rest R) = length R.gates
gates_in (opens rest read value) = 0

abbrev pub words_in : {E D : Type 0} → Work E D → ℕ
words_in (deals rest p v put) = 0
words_in (evaluates rest R) = length R.gates
words_in (opens rest read value) = 1

abbrev pub items_in : {E D : Type 0} → Work E D → ℕ
items_in (deals rest p v put) = 2
items_in (evaluates rest R) = 0
items_in (opens rest read value) = 0

abbrev pub rest_after : {E D : Type 0} → Work E D → E
rest_after (deals rest p v put) = rest
rest_after (evaluates rest R) = rest
rest_after (opens rest read value) = rest

-- what is public afterwards
abbrev pub public_after : {E D : Type 0} → Work E D → Public E → Public E
public_after w q =
    record {
      rest = rest_after w;
      masks_at = q.masks_at + gates_in w;
      channels_at = q.channels_at + words_in w;
      dealer_at = q.dealer_at + items_in w;
    }

-- what is left of the tapes, from the positions on
abbrev pub left_of : {E : Type 0} → Public E → Tapes → Tapes
left_of q T = left_from q.masks_at q.dealer_at T

-- an item that it would take is out of range
abbrev pub bad_item : {E D : Type 0} → Work E D → Tapes → Bool
bad_item (deals rest p v put) left = leb p (get_or left.dealer 0 0) || leb p (get_or left.dealer 1 0)
bad_item (evaluates rest R) left = any_bad (moduli R.gates) left.masks
bad_item (opens rest read value) left = false

-- the states before the gates
abbrev pub begun : {D : Type 0} (R : Evaluation D) → (Place → D) → Place → R.State
begun R s = tabled (λ i. R.start (s i))

-- what is read of the three shares
abbrev pub shares_read : {D : Type 0} → (Place → D) → (D → ℕ) → Place → ℕ
shares_read s read = tabled (λ i. read (s i))

-- the shares afterwards
unfoldable pub shares_after : {E D : Type 0} → Work E D → (Place → D) → Tapes → Place → D
shares_after (deals rest p v put) s left =
    let z = parts (dealt_shares p v (get_or left.dealer 0 0) (get_or left.dealer 1 0)) in
    tabled (λ i. put (s i) (z i))
shares_after (evaluates rest R) s left = tabled (λ i. R.finish i (s i) (ends R.gates (begun R s) left.masks i))
shares_after (opens rest read value) s left = s

-- the value opened, 0 where none is
abbrev pub value_from : {E D : Type 0} → Work E D → (Place → D) → ℕ
value_from (deals rest p v put) s = 0
value_from (evaluates rest R) s = 0
value_from (opens rest read value) s = value (shares_read s read)

-- the words that each party sends: of an opening, what it reads of the next share
unfoldable pub words_from : {E D : Type 0} → Work E D → (Place → D) → Tapes → Place → List ℕ
words_from (deals rest p v put) s left i = []
words_from (evaluates rest R) s left i = sent R.gates (begun R s) left.masks i
words_from (opens rest read value) s left i = read (s (next i)) ∷ []
