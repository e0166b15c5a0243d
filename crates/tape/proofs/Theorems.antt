-- The facts about preparing a tape (specs/Theorems.antt), from the course of its filling.
use Prim.Native.Nat.{ℕ, ◌≤◌, ◌<◌}
use mathlib.Core.Path.{◌≡◌, refl}
use mathlib.Core.List.{List}
use native.Mathlib.Omega.{arith}
use borrow.Author.Tests.{ne_eqb}
use lib.ListN.{length, take}
use Rattle.ring.specs.Rings.{modulus, ring_of}
use Rattle.tape.specs.Tapes.{Kind, items, other, Filled, filled, short, fill, kind_of, low_bits, prepared, prepared_as, refused, settled}
use Rattle.tape.specs.Theorems.{Codes, OtherCode, InRange, SameLength, InOrder, RunsOut, Least, Unchanged, EmptyRun, Figure, fitting}
use Rattle.tape.proofs.CourseLaw as law

pub codes : Codes
unfolding kind_of ring_of modulus
codes = (refl, refl, refl, refl)

pub other_code : OtherCode
unfolding prepared kind_of ring_of
other_code code raw run n₁ n₁₃ n₃₁ n₆₁ = rw (ne_eqb code 1, ne_eqb code 13, ne_eqb code 31, ne_eqb code 61)

-- where a preparation is accepted, its filling went through
record Accepted (e limit : ℕ) (raw run : List ℕ) : Type 0 where
  written : List ℕ
  used : ℕ
  fills : law.Fills e limit (length run) raw written used
  is : fill e limit (length run) 0 raw ≡ filled written used

accepted : (e limit : ℕ) (raw run : List ℕ) → (prepared_as (items e limit) raw run).refusal ≡ 0 → Accepted e limit raw run
accepted e limit raw run = go (law.course e limit (length run) raw)
  where
    go : law.Course e limit (length run) raw → (prepared_as (items e limit) raw run).refusal ≡ 0 → Accepted e limit raw run
    go (law.fills f) ok = record { written = _; used = _; fills = f; is = law.fills_all e limit f }
    go (law.runs_out s) ok = let wrong : ◌≡◌ {A = ℕ} 12 0 = rw (law.short_is e limit s 0) at ok in absurd (omega arith)

pub in_range : InRange
unfolding prepared
in_range code e limit raw run is =
    rw is (λ ok. let a = accepted e limit raw run ok in rw a.is (law.in_range e limit a.fills))

pub in_order : InOrder
unfolding prepared
in_order code e limit raw run is =
    rw is (λ ok. let a = accepted e limit raw run ok in rw a.is (law.in_order e limit a.fills))

pub runs_out : RunsOut
unfolding prepared
runs_out code e limit raw run is = rw is (go (law.course e limit (length run) raw))
  where
    go : law.Course e limit (length run) raw
        → (length run ≤ length (fitting e limit raw) → (prepared_as (items e limit) raw run).refusal ≡ 0)
        × (length (fitting e limit raw) < length run → (prepared_as (items e limit) raw run).refusal ≡ 12)
    go (law.fills f) = (λ many. rw (law.fills_all e limit f), λ few. absurd (omega (arith, law.many_fit e limit f)))
    go (law.runs_out s) = (λ many. absurd (omega (arith, law.few_fit e limit s)), λ few. rw (law.short_is e limit s 0))

pub same_length : SameLength
unfolding prepared
same_length code raw run = go (kind_of code)
  where
    at : (e limit : ℕ) → law.Course e limit (length run) raw → length (prepared_as (items e limit) raw run).run ≡ length run
    at e limit (law.fills f) = rw (law.fills_all e limit f) (law.as_many e limit f)
    at e limit (law.runs_out s) = rw (law.short_is e limit s 0)

    go : (k : Kind) → length (prepared_as k raw run).run ≡ length run
    go (items e limit) = at e limit (law.course e limit (length run) raw)
    go other = refl

pub least : Least
unfolding prepared
least code raw run = go (kind_of code)
  where
    go : (k : Kind) → (prepared_as k raw run).refusal ≡ 0
        → (prepared_as k (take (prepared_as k raw run).count raw) run ≡ prepared_as k raw run)
        × ((j : ℕ) → j < (prepared_as k raw run).count → prepared_as k (take j raw) run ≡ refused 12 run)
    go (items e limit) ok =
        let a = accepted e limit raw run ok in
        rw a.is (
          rw (law.fills_all e limit (law.used_fill e limit a.fills)),
          λ j few. rw (law.short_is e limit (law.fewer_short e limit a.fills j few) 0),
        )
    go other ok = absurd (omega arith)

pub unchanged : Unchanged
unfolding prepared
unchanged code raw run = go (kind_of code)
  where
    at : (f : Filled) → ((settled run f).refusal ≡ 0 → ⊥) → ((settled run f).count ≡ 0) × ((settled run f).run ≡ run)
    at (filled xs used) refusal = absurd (refusal refl)
    at short refusal = (refl, refl)

    go : (k : Kind) → ((prepared_as k raw run).refusal ≡ 0 → ⊥) → ((prepared_as k raw run).count ≡ 0) × ((prepared_as k raw run).run ≡ run)
    go (items e limit) = at (fill e limit (length run) 0 raw)
    go other = λ refusal. (refl, refl)

pub empty_run : EmptyRun
unfolding prepared fill
empty_run code e limit raw is = rw is

pub figure : Figure
unfolding prepared kind_of ring_of modulus fill low_bits
figure a b = refl
