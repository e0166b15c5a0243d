-- An act: what is public decides its refusal, but for tape items, and its work. What it leaves and answers.
use Rattle.std.specs.Prelude.{ℕ, zero, suc, Bool, cond, false, true, List, eqb}
use Rattle.gate.specs.Places.{Place, tabled}
use Rattle.machine.specs.Checks.{Lengths, Tapes}
use Rattle.machine.specs.Step.{lengths_of, written}
use Rattle.act.specs.Jobs.{Outcome, refused}
use Rattle.act.specs.Works.{Public, Shared, Work, bad_item, deals, evaluates, gates_in, left_of, opens, public_after, shares_after, value_from, words_from}

-- refusal: 0, or the first check met, by what is public; items are tested after it. NumberRefused r: r says something of the number
-- dealt. Small: the condition on values under which the work leaves what it should
pub record Act (E D : Type 0) : Type 1 where
  pub refusal : Public E → Lengths → ℕ
  pub work : Public E → Work E D
  pub NumberRefused : ℕ → Type 0
  pub Small : Shared E D → Type 0

-- an accepted act
abbrev pub performed : {E D : Type 0} → Work E D → Shared E D → Tapes → (Place → List ℕ) → Outcome (Shared E D)
performed w m left c =
    record {
      state = record { public = public_after w m.public; share = shares_after w m.share left };
      refusal = 0;
      value = value_from w m.share;
      gates = gates_in w;
      channels = tabled (λ i. written m.public.channels_at (words_from w m.share left i) (c i));
    }

-- of two refusals the first that is met
abbrev pub first_nonzero : ℕ → ℕ → ℕ
first_nonzero zero r = r
first_nonzero (suc n) r = suc n

-- "10 .. out of range" comes after all that is public
abbrev pub refusal_by : ℕ → Bool → ℕ
refusal_by r bad = first_nonzero r (cond bad 10 0)

abbrev pub refusal_of : {E D : Type 0} → Act E D → Public E → Tapes → (Place → List ℕ) → ℕ
refusal_of a q T c = refusal_by (a.refusal q (lengths_of T c)) (bad_item (a.work q) (left_of q T))

unfoldable pub step : {E D : Type 0} → Act E D → Shared E D → Tapes → (Place → List ℕ) → Outcome (Shared E D)
step a m T c =
    cond (eqb (refusal_of a m.public T c) 0)
    (performed (a.work m.public) m (left_of m.public T) c)
    (refused (refusal_of a m.public T c) m c)

abbrev pub is_opening : {E D : Type 0} → Work E D → Bool
is_opening (deals rest p v put) = false
is_opening (evaluates rest R) = false
is_opening (opens rest read value) = true
