-- What a protocol owes for demand 3: each of its steps is that of a lawful act on what its state holds.
use Rattle.std.specs.Prelude.{ℕ, List, ◌≡◌}
use Rattle.gate.specs.Places.{Place, next}
use Rattle.machine.specs.Checks.{Tapes}
use Rattle.act.specs.Acts.{Act, is_opening, step}
use Rattle.act.specs.Jobs.{Outcome, Protocol, with_state}
use Rattle.act.specs.Lawful.{AlikeActs, Sameness}
use Rattle.act.specs.Works.{Shared}

-- data the same in every value is the same in all that is public
abbrev pub KeepsPublic : {E D : Type 0} → Sameness E D → Type 0
KeepsPublic {E} {D} Same = (m n : Shared E D) → Same m n → m.public ≡ n.public

-- nothing of the tapes is taken yet
pub record AtStart {E D : Type 0} (m : Shared E D) : Type 0 where
  pub masks : m.public.masks_at ≡ 0
  pub dealer : m.public.dealer_at ≡ 0

-- an outcome as acts see it
abbrev pub outcome_by : {S E D : Type 0} → (S → Shared E D) → Outcome S → Outcome (Shared E D)
outcome_by shared o = with_state (shared o.state) o

-- shared: a state as data at three places. Good: what holds of every state of a run
pub record PerformsActs (P : Protocol {0}) (E D : Type 0) : Type 1 where
  pub shared : P.State → Shared E D
  pub Good : P.State → Type 0
  pub Same : Sameness E D
  pub same_public : KeepsPublic Same
  -- what is decided beforehand, whatever the tapes: which act comes next of several that wait, say
  pub Plan : Type 0
  pub plan : P.State → Plan
  pub onward : P.Act → Plan → Plan
  pub plan_after : (a : P.Act) (m : P.State) (T : Tapes) (c : Place → List ℕ) → Good m → plan (P.step a m T c).state ≡ onward a (plan m)
  -- each step is that of an act, and leaves a good state
  pub act : P.Act → Plan → Act E D
  pub step_is : (a : P.Act) (m : P.State) (T : Tapes) (c : Place → List ℕ) → Good m
      → step (act a (plan m)) (shared m) T c ≡ outcome_by shared (P.step a m T c)
  pub good_after : (a : P.Act) (m : P.State) (T : Tapes) (c : Place → List ℕ) → Good m → Good (P.step a m T c).state
  -- the words of demand 3 are the act's
  pub number_is : (a : P.Act) (m : P.State) (r : ℕ) → Good m → P.NumberRefused a m r ≡ (act a (plan m)).NumberRefused r
  pub small_is : (a : P.Act) (m : P.State) → Good m → P.Small a m ≡ (act a (plan m)).Small (shared m)
  pub opening_is : (a : P.Act) (m : P.State) → Good m → P.opening a m ≡ is_opening ((act a (plan m)).work (shared m).public)
  pub AlikePlans : Plan → Plan → Type 0
  pub alike : (a b : P.Act) (σ τ : Plan) → P.Alike a b → AlikePlans σ τ → AlikeActs Same (act a σ) (act b τ)
  pub alike-onward : (a b : P.Act) (σ τ : Plan) → P.Alike a b → AlikePlans σ τ → AlikePlans (onward a σ) (onward b τ)
  -- what U sees of a state goes by what it holds: what is public, and its own two shares
  pub seen_same : (U : Place) (m n : P.State) → Good m → Good n → AlikePlans (plan m) (plan n) → (shared m).public ≡ (shared n).public
      → (shared m).share U ≡ (shared n).share U → (shared m).share (next U) ≡ (shared n).share (next U) → P.seen U m ≡ P.seen U n
  -- the start
  pub start_good : Good P.start
  pub start-at : AtStart (shared P.start)
  pub start_same : Same (shared P.start) (shared P.start)
  pub start-alike : AlikePlans (plan P.start) (plan P.start)
