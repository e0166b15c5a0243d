-- What an order finds of a record is what its function asks, and its change is the step.
use Rattle.std.specs.Prelude.{Result}
use Prim.Native.Nat.{ℕ}
use mathlib.Core.Bool.{Bool}
use mathlib.Core.List.{List}
use mathlib.Core.Path.{◌≡◌, ap, subst, sym, ◌∙◌}
use lib.ListN.{get_or}
use Rattle.gate.specs.Places.{Place}
use Rattle.machine.specs.Checks.{Tapes}
use Rattle.machine.specs.Registers.{register_at, sound}
use Rattle.machine.specs.Step.{Outcome, step}
use Rattle.machine.specs.declared.orders.Order.{Order}
use Rattle.machine.specs.declared.registers.Machine.{Machine}
use Rattle.machine.specs.declared.registers.Register.{Register}
use Rattle.machine.specs.declared.answers.Done.{Done}
use Rattle.machine.specs.declared.answers.Refusal.{Refusal}
use Rattle.order.specs.Answers.{reported}
use Rattle.order.specs.Attempts.{Prepares, attempted}
use Rattle.order.specs.Changes.{Changes, answer_of, applied, changed}
use Rattle.order.specs.declared.changes.Change.{Change}
use Rattle.order.specs.declared.sources.Positions.{Positions}
use Rattle.order.specs.declared.tasks.Prepared.{Prepared}
use Rattle.exchange.specs.Exchanges.{Dealing}
use Rattle.layout.specs.Layout.{Says}
use Rattle.layout.proofs.SaysLaw.{positions-said}
use Rattle.order.specs.Sources.{GatesAt, first_source, positions_in, second_source, sources_in}
use Rattle.step.specs.Found.{found_in}
use Rattle.step.specs.Words.{Reports}
use Rattle.step.specs.declared.found.Found.{Found}

module _ (m : Machine) (o : Order) {f : Found} (is : f ≡ found_in m o) where
  pub sources_found : f.sources ≡ sources_in m o
  sources_found = ap (λ (f : Found). f.sources) is

  pub positions-at : f.at ≡ positions_in m
  positions-at = ap (λ (f : Found). f.at) is

  pub gates-at : GatesAt f.at m
  gates-at = record { masks = ap (λ (at : Positions). at.masks) positions-at; channels = ap (λ (at : Positions). at.channels) positions-at }

  pub dealing : Dealing m f.sources.sound f.at.dealer
  dealing = record { sound = ap (λ (f : Found). f.sources.sound) is; place = ap (λ (f : Found). f.at.dealer) is }

-- as the code finds it
pub found_is : (m : Machine) (o : Order) {s : Bool} {x y : ℕ} {a b : Register} → s ≡ sound m → x ≡ first_source o → a ≡ register_at m x → y ≡ second_source o → b ≡ register_at m y
    → record { sources = record { sound = s; a = a; b = b }; at = positions_in m } ≡ found_in m o
found_is m o is source first other second = rw (is, first, source, second, other)

-- and in the words of a record
pub found_in_lem : (m : Machine) (o : Order) (ws : List ℕ) {s : Bool} {x y : ℕ} {a b : Register} → Says ws m
    → s ≡ sound m → x ≡ first_source o → a ≡ register_at m x → y ≡ second_source o → b ≡ register_at m y
    → record { sources = record { sound = s; a = a; b = b }; at = record { masks = get_or ws 80 0; channels = get_or ws 81 0; dealer = get_or ws 82 0 } } ≡ found_in m o
found_in_lem m o ws says is source first other second =
    let at = positions-said says in
    rw (at.0, at.1.0, at.1.1) (found_is m o is source first other second)

-- an order taken apart by its kind is the order
pub taken : {o o' : Order} {m : Machine} {k : Result Change Refusal} {l : Place → List ℕ} (T : Tapes) (c : Place → List ℕ)
    → o ≡ o' → Changes m k l (step o' m T c) → Changes m k l (step o m T c)
taken {m = m} T c e p = record { fits = p.fits; is = p.is ∙ ap (λ (o : Order). step o m T c) (sym e) }

-- orders 2 to 8: what the record decides, attempted
pub stepped : {o : Order} {m : Machine} {d : ℕ} {t : Result Prepared Refusal} {k : Result Change Refusal} {l : Place → List ℕ} (D : List ℕ) (T c : Place → List ℕ)
    → Prepares o m d t → Changes m k l (attempted t d m T c) → Changes m k l (step o m (record { masks = T; dealer = D }) c)
stepped D T c p q = record { fits = q.fits; is = q.is ∙ sym (p.is D T c) }

-- and what applying it answers
pub answered : {x : Outcome} {k : Result Change Refusal} {l : Place → List ℕ} (o : Order) (m : Machine) (T : Tapes) (c : Place → List ℕ)
    → x ≡ applied k m l → Changes m k l (step o m T c) → x ≡ step o m T c
answered o m T c is p = is ∙ p.is

-- and what writing it does
pub written : {ws : List ℕ} {a : Result Done Refusal} {k : Result Change Refusal} {m : Machine} {c : Place → List ℕ} {x : Outcome}
    → a ≡ answer_of k → Says ws (changed k m) → Changes m k c x → Reports ws a c x
written {ws} {a} {k} {m} {c} e says p =
    subst (Reports ws a c) p.is
    (record { words = says; is = ap (λ (a : Result Done Refusal). reported (record { machine = changed k m; answer = a }) c) e })
