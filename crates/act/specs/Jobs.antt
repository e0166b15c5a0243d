-- 01, "What demand 3 compares", for any protocol: jobs, runs, what is fair, what is opened, what one party sees, what is alike.
use Rattle.std.specs.Prelude.{ℕ, ◌<◌, ◌^◌, Bool, cond, ◌&&◌, List, [], ◌∷◌, map, ◌≡◌, eqb, get_or, length, take}
use Rattle.gate.specs.Places.{Place, next, tabled}
use Rattle.machine.specs.Checks.{Tapes}

-- what an act leaves and answers
pub record Outcome (State : Type 0) : Type 0 where
  pub state : State
  pub refusal : ℕ
  pub value : ℕ
  pub gates : ℕ
  pub channels : Place → List ℕ

-- the same outcome, of another state
abbrev pub with_state : {S S' : Type 0} → S' → Outcome S → Outcome S'
with_state m o = record { state = m; refusal = o.refusal; value = o.value; gates = o.gates; channels = o.channels }

-- a refused act changes nothing
abbrev pub refused : {S : Type 0} → ℕ → S → (Place → List ℕ) → Outcome S
refused n m c = record { state = m; refusal = n; value = 0; gates = 0; channels = c }

-- acts on states, and the words of demand 3 for one of them
pub record Protocol {ℓ} : Type (ℓ + 1) where
  pub Act : Type ℓ
  pub State : Type 0
  pub start : State
  pub step : Act → State → Tapes → (Place → List ℕ) → Outcome State
  -- such a refusal says something of the number that the act deals
  pub NumberRefused : Act → State → (refusal : ℕ) → Type 0
  -- what must be small for the act, accepted, to be fair
  pub Small : Act → State → Type 0
  -- accepted, it opens the value that it answers
  pub opening : Act → State → Bool
  -- two acts alike in all but a number dealt
  pub Alike : Act → Act → Type ℓ
  -- what party U sees of a state
  pub Seen : Type 0
  pub seen : Place → State → Seen

-- "beside each order stands how many items of each tape, from that tape's first on, it is lent"
pub record Entry {ℓ} (P : Protocol {ℓ}) : Type ℓ where
  pub act : P.Act
  pub masks_lent : Place → ℕ
  pub dealer_lent : ℕ

-- "A job is a list of orders .., the words that the three wires hold at the start, and the lengths of the four tapes"
pub record Job {ℓ} (P : Protocol {ℓ}) : Type ℓ where
  pub entries : List (Entry P)
  pub channels : Place → List ℕ
  pub masks_length : Place → ℕ
  pub dealer_length : ℕ

-- n words of 64 bits
pub record Words (n : ℕ) (l : List ℕ) : Type 0 where
  pub long : length l ≡ n
  pub below : (k : ℕ) → k < length l → get_or l k 0 < 2 ^ 64

-- "A run is a job with four tapes of those lengths"
pub record IsRun {ℓ} {P : Protocol {ℓ}} (J : Job P) (T : Tapes) : Type 0 where
  pub masks : (i : Place) → Words (J.masks_length i) (T.masks i)
  pub dealer : Words J.dealer_length T.dealer

abbrev pub lent {ℓ} : {P : Protocol {ℓ}} → Entry P → Tapes → Tapes
lent e T = record { masks = tabled (λ i. take (e.masks_lent i) (T.masks i)); dealer = take e.dealer_lent T.dealer }

-- one act of a run
abbrev pub outcome {ℓ} : {P : Protocol {ℓ}} → Entry P → P.State → Tapes → (Place → List ℕ) → Outcome P.State
outcome {P = P} e m T c = P.step e.act m (lent e T) c

-- what each act returns, "each later one the record and wires the one before returned or left"
unfoldable pub course_from {ℓ} : {P : Protocol {ℓ}} → List (Entry P) → P.State → (Place → List ℕ) → Tapes → List (Outcome P.State)
course_from [] m c T = []
course_from (e ∷ es) m c T = outcome e m T c ∷ course_from es (outcome e m T c).state (outcome e m T c).channels T

-- "Its first order gets the empty machine and those wires"
abbrev pub course {ℓ} : {P : Protocol {ℓ}} → Job P → Tapes → List (Outcome P.State)
course {P = P} J T = course_from J.entries P.start J.channels T

-- an act that is fair where it stands: not refused for its number nor for a tape item, and small where it is accepted
pub record FairAct {ℓ} {P : Protocol {ℓ}} (e : Entry P) (m : P.State) (refusal : ℕ) : Type 0 where
  pub number : P.NumberRefused e.act m refusal → ⊥
  pub item : refusal ≡ 10 → ⊥
  pub small : refusal ≡ 0 → P.Small e.act m

pub data FairFrom {ℓ} {P : Protocol {ℓ}} : List (Entry P) → P.State → (Place → List ℕ) → Tapes → Type ℓ where
  done : {m : P.State} {c : Place → List ℕ} {T : Tapes} → FairFrom [] m c T
  fair : {e : Entry P} {es : List (Entry P)} {m : P.State} {c : Place → List ℕ} {T : Tapes}
      → FairAct e m (outcome e m T c).refusal
      → FairFrom es (outcome e m T c).state (outcome e m T c).channels T
      → FairFrom (e ∷ es) m c T

abbrev pub Fair {ℓ} : {P : Protocol {ℓ}} → Job P → Tapes → Type ℓ
Fair {P = P} J T = FairFrom J.entries P.start J.channels T

-- "What a run opens is the values answered by its accepted openings, in turn"
unfoldable pub opened_from {ℓ} : {P : Protocol {ℓ}} → List (Entry P) → P.State → (Place → List ℕ) → Tapes → List ℕ
opened_from [] m c T = []
opened_from {P = P} (e ∷ es) m c T =
    let rest = opened_from es (outcome e m T c).state (outcome e m T c).channels T in
    cond (P.opening e.act m && eqb (outcome e m T c).refusal 0) ((outcome e m T c).value ∷ rest) rest

abbrev pub opens {ℓ} : {P : Protocol {ℓ}} → Job P → Tapes → List ℕ
opens {P = P} J T = opened_from J.entries P.start J.channels T

-- what U sees of the state; "all of wire U, which U sends, and of wire U+1, which it receives; refusal, value and gates answered"
pub record View (Seen : Type 0) : Type 0 where
  pub seen : Seen
  pub sends : List ℕ
  pub receives : List ℕ
  pub refusal : ℕ
  pub value : ℕ
  pub gates : ℕ

abbrev pub view : {Seen : Type 0} → Seen → (sends receives : List ℕ) → (refusal value gates : ℕ) → View Seen
view seen sends receives refusal value gates =
    record { seen = seen; sends = sends; receives = receives; refusal = refusal; value = value; gates = gates }

abbrev pub view_of {ℓ} : (P : Protocol {ℓ}) → Place → Outcome P.State → View P.Seen
view_of P U o = view (P.seen U o.state) (o.channels U) (o.channels (next U)) o.refusal o.value o.gates

-- "after every order"
abbrev pub views {ℓ} : {P : Protocol {ℓ}} → Place → Job P → Tapes → List (View P.Seen)
views {P = P} U J T = map (view_of P U) (course J T)

-- "two jobs alike in all but the numbers dealt"
pub record AlikeEntries {ℓ} {P : Protocol {ℓ}} (e f : Entry P) : Type ℓ where
  pub act : P.Alike e.act f.act
  pub masks_lent : e.masks_lent ≡ f.masks_lent
  pub dealer_lent : e.dealer_lent ≡ f.dealer_lent

pub data AlikeLists {ℓ} {P : Protocol {ℓ}} : List (Entry P) → List (Entry P) → Type ℓ where
  done : AlikeLists [] []
  more : {e f : Entry P} {es fs : List (Entry P)} → AlikeEntries e f → AlikeLists es fs → AlikeLists (e ∷ es) (f ∷ fs)

pub record Alike {ℓ} {P : Protocol {ℓ}} (J K : Job P) : Type ℓ where
  pub entries : AlikeLists J.entries K.entries
  pub channels : J.channels ≡ K.channels
  pub masks_length : J.masks_length ≡ K.masks_length
  pub dealer_length : J.dealer_length ≡ K.dealer_length
