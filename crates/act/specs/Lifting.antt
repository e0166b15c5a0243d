-- An act on one part of a larger state, whose other share stands, and acts that only rewrite what each place holds, across all parts. An
-- act that evaluates gates on one part for another owes `Lawful` itself. Proofs: proofs/LiftLaw.antt.
use Rattle.std.specs.Prelude.{ℕ, cond, List, [], ◌≡◌, eqb}
use Rattle.gate.specs.Places.{Place}
use Rattle.machine.specs.Checks.{Lengths, Tapes}
use Rattle.machine.specs.Step.{lengths_of}
use Rattle.act.specs.Acts.{Act, first_nonzero, is_opening, step}
use Rattle.act.specs.Jobs.{Outcome, refused, with_state}
use Rattle.act.specs.Lawful.{AlikeActs, Lawful, Sameness}
use Rattle.act.specs.Performs.{KeepsPublic}
use Rattle.act.specs.Works.{Public, Shared, Work, deals, evaluates, gates_in, opens}

-- no gate, no word, no item: each place makes f of what it holds
abbrev pub rewriting : {E D : Type 0} → E → (D → D) → Work E D
rewriting rest f = evaluates rest (record { State = Unit {0}; start = λ a. tt; gates = []; finish = λ i a z. f a })

-- an act that only rewrites, by what is public: rest gives what else is public afterwards
abbrev pub rewrite_act : {E D : Type 0} → (Public E → Lengths → ℕ) → (Public E → E) → (Public E → D → D) → Act E D
rewrite_act refusal rest f =
    record { refusal = refusal; work = λ q. rewriting (rest q) (f q); NumberRefused = λ r. ⊥; Small = λ m. Unit {0} }

-- the data afterwards
abbrev pub rewritten : {E D : Type 0} → (Public E → E) → (Public E → D → D) → Shared E D → Shared E D
rewritten rest f m =
    let q = m.public in
    record {
      public = record { rest = rest q; masks_at = q.masks_at; channels_at = q.channels_at; dealer_at = q.dealer_at };
      share = λ i. f q (m.share i);
    }

-- what an act with refusal r answers on m if it sends nothing and, unless refused, leaves n
abbrev pub rewrote : {E D : Type 0} → ℕ → Shared E D → Shared E D → (Place → List ℕ) → Outcome (Shared E D)
rewrote r n m c = record { state = cond (eqb r 0) n m; refusal = r; value = 0; gates = 0; channels = c }

-- all that an act which rewrites does
abbrev pub RewriteStep : Type 1
RewriteStep = (E D : Type 0) (refusal : Public E → Lengths → ℕ) (rest : Public E → E) (f : Public E → D → D)
    → (m : Shared E D) (T : Tapes) (c : Place → List ℕ)
    → step (rewrite_act refusal rest f) m T c ≡ rewrote (refusal m.public (lengths_of T c)) (rewritten rest f m) m c

-- it owes that, where it is accepted, the same data stay the same
abbrev pub RewriteLawful : Type 1
RewriteLawful = (E D : Type 0) (refusal : Public E → Lengths → ℕ) (rest : Public E → E) (f : Public E → D → D)
    → (Same : Sameness E D)
    → ((m n : Shared E D) (len len' : Lengths) → Same m n → refusal m.public len ≡ 0 → refusal n.public len' ≡ 0
    → Same (rewritten rest f m) (rewritten rest f n))
    → Lawful Same (rewrite_act refusal rest f)

-- of data in two parts, the first, with the positions
abbrev pub first_public : {E E' : Type 0} → Public (E × E') → Public E
first_public q = record { rest = q.rest.0; masks_at = q.masks_at; channels_at = q.channels_at; dealer_at = q.dealer_at }

abbrev pub first_part : {E E' D D' : Type 0} → Shared (E × E') (D × D') → Shared E D
first_part m = record { public = first_public m.public; share = λ i. (m.share i).0 }

-- and the second: what is public of it, and what each place holds of it
pub record Second (E D : Type 0) : Type 0 where
  pub rest : E
  pub share : Place → D

abbrev pub second_part : {E E' D D' : Type 0} → Shared (E × E') (D × D') → Second E' D'
second_part m = record { rest = m.public.rest.1; share = λ i. (m.share i).1 }

-- both together again
abbrev pub joined : {E E' D D' : Type 0} → Shared E D → Second E' D' → Shared (E × E') (D × D')
joined m n =
    let q = m.public in
    record {
      public = record { rest = (q.rest, n.rest); masks_at = q.masks_at; channels_at = q.channels_at; dealer_at = q.dealer_at };
      share = λ i. (m.share i, n.share i);
    }

-- the same in both parts
pub record InBoth {E E' D D' : Type 0} (Same : Sameness E D) (Same' : Second E' D' → Second E' D' → Type 0)
    (m n : Shared (E × E') (D × D')) : Type 0 where
  pub first : Same (first_part m) (first_part n)
  pub second : Same' (second_part m) (second_part n)

-- a work on the first part; e: what is public of the second afterwards
abbrev pub lift_work : {E E' D D' : Type 0} → E' → Work E D → Work (E × E') (D × D')
lift_work e (deals rest p v put) = deals (rest, e) p v (λ a z. (put a.0 z, a.1))
lift_work e (evaluates rest R) =
    evaluates (rest, e)
    (record { State = R.State; start = λ a. R.start a.0; gates = R.gates; finish = λ i a z. (R.finish i a.0 z, a.1) })
lift_work e (opens rest read value) = opens (rest, e) (λ a. read a.0) value

-- an act on the first part. earlier: a refusal that comes before its own, 0 for none. after: what is public of the second part after
-- an accepted act, by the gates spent
abbrev pub lift_act : {E E' D D' : Type 0} → (Public (E × E') → Lengths → ℕ) → (Public (E × E') → ℕ → E')
    → Act E D → Act (E × E') (D × D')
lift_act earlier after a =
    record {
      refusal = λ q len. first_nonzero (earlier q len) (a.refusal (first_public q) len);
      work = λ q. let w = a.work (first_public q) in lift_work (after q (gates_in w)) w;
      NumberRefused = a.NumberRefused;
      Small = λ m. a.Small (first_part m);
    }

-- what it does to the whole, from what the act does to the first part
abbrev pub with_second : {E E' D D' : Type 0} → (ℕ → E') → Shared (E × E') (D × D')
    → Outcome (Shared E D) → Outcome (Shared (E × E') (D × D'))
with_second after m o =
    let n = second_part m in
    with_state (joined o.state (record { rest = cond (eqb o.refusal 0) (after o.gates) n.rest; share = n.share })) o

-- all that a lifted act does
abbrev pub LiftStep : Type 1
LiftStep = (E E' D D' : Type 0) (earlier : Public (E × E') → Lengths → ℕ) (after : Public (E × E') → ℕ → E') (a : Act E D)
    → (m : Shared (E × E') (D × D')) (T : Tapes) (c : Place → List ℕ)
    → step (lift_act earlier after a) m T c
    ≡ cond (eqb (earlier m.public (lengths_of T c)) 0)
    (with_second (after m.public) m (step a (first_part m) T c))
    (refused (earlier m.public (lengths_of T c)) m c)

-- the second part after an accepted act
abbrev pub second_after : {E E' D D' : Type 0} → (Public (E × E') → ℕ → E') → Act E D → Shared (E × E') (D × D') → Second E' D'
second_after after a m =
    record { rest = after m.public (gates_in (a.work (first_public m.public))); share = (second_part m).share }

-- what a lifted act owes beside what the act owes: where both parts are the same, the second parts stay so
abbrev pub KeepsSecond : {E E' D D' : Type 0} → Sameness E D → (Second E' D' → Second E' D' → Type 0)
    → (Public (E × E') → ℕ → E') → Act E D → Type 0
KeepsSecond {E} {E'} {D} {D'} Same Same' after a = (m n : Shared (E × E') (D × D')) → InBoth Same Same' m n
    → Same' (second_after after a m) (second_after after a n)

-- it owes nothing else
abbrev pub LiftLawful : Type 1
LiftLawful = (E E' D D' : Type 0) (Same : Sameness E D) (Same' : Second E' D' → Second E' D' → Type 0)
    → (earlier : Public (E × E') → Lengths → ℕ) (after : Public (E × E') → ℕ → E') (a : Act E D)
    → Lawful Same a → KeepsSecond Same Same' after a
    → Lawful (InBoth Same Same') (lift_act earlier after a)

-- and lifted acts are alike where the acts are
abbrev pub LiftAlike : Type 1
LiftAlike = (E E' D D' : Type 0) (Same : Sameness E D) (Same' : Second E' D' → Second E' D' → Type 0)
    → (earlier : Public (E × E') → Lengths → ℕ) (after : Public (E × E') → ℕ → E') (a b : Act E D)
    → AlikeActs Same a b → KeepsSecond Same Same' after a
    → AlikeActs (InBoth Same Same') (lift_act earlier after a) (lift_act earlier after b)

-- a lifted work opens where the work does
abbrev pub LiftOpening : Type 1
LiftOpening = (E E' D D' : Type 0) (e : E') (w : Work E D) → is_opening w ≡ is_opening (lift_work {D' = D'} e w)

-- the same in both parts is the same in all that is public
abbrev pub BothPublic : Type 1
BothPublic = (E E' D D' : Type 0) (Same : Sameness E D) (Same' : Second E' D' → Second E' D' → Type 0)
    → KeepsPublic Same → ((x y : Second E' D') → Same' x y → x.rest ≡ y.rest)
    → KeepsPublic (InBoth Same Same')
