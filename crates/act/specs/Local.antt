-- "A unit uses nothing but its own pairs (a deal hands it one), its two strands, the words it has received and what is public (kinds,
-- rings, bit counts, positions, lengths), and that is proved too": of every act, whatever the places hold. Proofs: proofs/LocalLaw.antt,
-- and of WorkLocal proofs/OwnLaw.antt.
use Rattle.std.specs.Prelude.{ℕ, suc, List, ◌≡◌, take}
use Rattle.gate.specs.Places.{Place}
use Rattle.machine.specs.Checks.{Tapes}
use Rattle.act.specs.Acts.{Act, performed, step}
use Rattle.act.specs.Lawful.{AlikeWork}
use Rattle.act.specs.Own.{Brought, answer, brought, brought_by, own_answer, own_of, own_performed, own_step, own_words}
use Rattle.act.specs.Works.{Shared, Work, left_of, words_from}

-- what U has after a work is done, from what it had and what the work brings it
abbrev pub WorkLocal : Type 1
WorkLocal = (E D : Type 0) (U : Place) (w : Work E D) (m : Shared E D) (left : Tapes) (c : Place → List ℕ)
    → own_of U (performed w m left c).state (performed w m left c).channels
    ≡ own_performed U w (own_of U m c) (brought U w m.share left)

-- what U has after an act, a refused one too
abbrev pub ActOwn : Type 1
ActOwn = (E D : Type 0) (U : Place) (a : Act E D) (m : Shared E D) (T : Tapes) (c : Place → List ℕ)
    → own_of U (step a m T c).state (step a m T c).channels
    ≡ own_step U a (step a m T c).refusal (own_of U m c) (brought_by U a m T)

-- and the value and the gates answered
abbrev pub ActAnswer : Type 1
ActAnswer = (E D : Type 0) (U : Place) (a : Act E D) (m : Shared E D) (T : Tapes) (c : Place → List ℕ)
    → answer (step a m T c).value (step a m T c).gates
    ≡ own_answer U a (step a m T c).refusal (own_of U m c) (brought_by U a m T)

-- what two acts bring a party is the same, but for the words received after the first k
pub record SameUpTo (k : ℕ) (B B' : Brought) : Type 0 where
  pub own : B.own ≡ B'.own
  pub far : B.far ≡ B'.far
  pub handed : B.handed ≡ B'.handed
  pub received : take k B.received ≡ take k B'.received

-- "the words it has received": the first k + 1 words that U sends in a work depend on the first k that it receives there, and on none later
abbrev pub WorkCausal : Type 1
WorkCausal = (E D : Type 0) (U : Place) (w : Work E D) (own far : D) (B B' : Brought) (k : ℕ) → SameUpTo k B B'
    → take (suc k) (own_words U w own far B) ≡ take (suc k) (own_words U w own far B')

-- the words that U sends in an accepted act
abbrev pub sent_by : {E D : Type 0} → Place → Act E D → Shared E D → Tapes → List ℕ
sent_by U a m T = words_from (a.work m.public) m.share (left_of m.public T) U

-- the same of any two acts whose works are alike, on data of which U has the same
abbrev pub ActCausal : Type 1
ActCausal = (E D : Type 0) (U : Place) (a b : Act E D) (m n : Shared E D) (T T' : Tapes) (c d : Place → List ℕ) (k : ℕ)
    → AlikeWork (a.work m.public) (b.work n.public)
    → own_of U m c ≡ own_of U n d
    → SameUpTo k (brought_by U a m T) (brought_by U b n T')
    → take (suc k) (sent_by U a m T) ≡ take (suc k) (sent_by U b n T')
