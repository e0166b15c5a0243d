-- "A unit uses nothing but its own pairs (a deal hands it one), its two strands, the words it has received and what is public (kinds,
-- rings, bit counts, positions, lengths)": what party U has, what an act brings it, and what it makes of both.
use Rattle.std.specs.Prelude.{ℕ, cond, List, [], ◌∷◌, eqb, get_or}
use Rattle.gate.specs.Places.{Pair, Place, held, next, pair, parts}
use Rattle.view.specs.Views.{Held, around, first, own_ends, own_sent}
use Rattle.machine.specs.Checks.{Tapes}
use Rattle.machine.specs.Step.{dealt_shares, written}
use Rattle.act.specs.Acts.{Act}
use Rattle.act.specs.Works.{Evaluation, Public, Shared, Work, deals, evaluates, gates_in, left_of, opens, public_after, words_from}

-- what party U has: what is public, its two shares, and the channels that it sends on and receives from
pub record Own (E D : Type 0) : Type 0 where
  pub public : Public E
  pub own : D
  pub far : D
  pub sends : List ℕ
  pub receives : List ℕ

abbrev pub own_of : {E D : Type 0} → Place → Shared E D → (Place → List ℕ) → Own E D
own_of U m c = record { public = m.public; own = m.share U; far = m.share (next U); sends = c U; receives = c (next U) }

-- what one act brings it: its two mask tapes from the position on, the words that it receives, and the pair that a deal hands it
pub record Brought : Type 0 where
  pub own : List ℕ
  pub far : List ℕ
  pub received : List ℕ
  pub handed : Pair

-- the pair that a deal hands U
abbrev pub handed_of : {E D : Type 0} → Place → Work E D → Tapes → Pair
handed_of U (deals rest p v put) left = held (parts (dealt_shares p v (get_or left.dealer 0 0) (get_or left.dealer 1 0))) U
handed_of U (evaluates rest R) left = pair 0 0
handed_of U (opens rest read value) left = pair 0 0

abbrev pub brought : {E D : Type 0} → Place → Work E D → (Place → D) → Tapes → Brought
brought U w s left =
    record { own = left.masks U; far = left.masks (next U); received = words_from w s left (next U); handed = handed_of U w left }

-- by an act, of the tapes lent: what is left from the positions on
abbrev pub brought_by : {E D : Type 0} → Place → Act E D → Shared E D → Tapes → Brought
brought_by U a m T = brought U (a.work m.public) m.share (left_of m.public T)

-- the states of U's two shares before the gates
abbrev pub own_starts : {D : Type 0} (R : Evaluation D) → D → D → Held R.State
own_starts R a b = record { own = R.start a; far = R.start b }

-- its two shares after an accepted act
unfoldable pub own_shares : {E D : Type 0} → Place → Work E D → D → D → Brought → Held D
own_shares U (deals rest p v put) a b B = record { own = put a B.handed.own; far = put b B.handed.far }
own_shares U (evaluates rest R) a b B =
    let end = own_ends U R.gates (own_starts R a b) B.own B.far B.received in
    record { own = R.finish U a end.own; far = R.finish (next U) b end.far }
own_shares U (opens rest read value) a b B = record { own = a; far = b }

-- the words that it sends
unfoldable pub own_words : {E D : Type 0} → Place → Work E D → D → D → Brought → List ℕ
own_words U (deals rest p v put) a b B = []
own_words U (evaluates rest R) a b B = own_sent U R.gates (own_starts R a b) B.own B.far B.received
own_words U (opens rest read value) a b B = read b ∷ []

-- all that it has after an accepted act
abbrev pub own_performed : {E D : Type 0} → Place → Work E D → Own E D → Brought → Own E D
own_performed U w P B =
    let shares = own_shares U w P.own P.far B in
    record {
      public = public_after w P.public;
      own = shares.own;
      far = shares.far;
      sends = written P.public.channels_at (own_words U w P.own P.far B) P.sends;
      receives = written P.public.channels_at B.received P.receives;
    }

-- and by the refusal answered: a refused act changes nothing
abbrev pub own_step : {E D : Type 0} → Place → Act E D → (refusal : ℕ) → Own E D → Brought → Own E D
own_step U a refusal P B = cond (eqb refusal 0) (own_performed U (a.work P.public) P B) P

-- the value that U works out: of an opening, from its own two shares and the word that it receives
abbrev pub own_value : {E D : Type 0} → Place → Work E D → Own E D → Brought → ℕ
own_value U (deals rest p v put) P B = 0
own_value U (evaluates rest R) P B = 0
own_value U (opens rest read value) P B = value (around U (read P.own) (read P.far) (first B.received))

-- what an act answers beside its refusal
pub record Answer : Type 0 where
  pub value : ℕ
  pub gates : ℕ

abbrev pub answer : ℕ → ℕ → Answer
answer value gates = record { value = value; gates = gates }

-- "A refused order answers value 0 and 0 gates. An accepted one answers value 0 unless it opens"
abbrev pub own_answer : {E D : Type 0} → Place → Act E D → (refusal : ℕ) → Own E D → Brought → Answer
own_answer U a refusal P B =
    let w = a.work P.public in
    cond (eqb refusal 0) (answer (own_value U w P B) (gates_in w)) (answer 0 0)
