-- Refusals' numbers: none is 0.
use Prim.Native.Nat.{ℕ}
use mathlib.Core.Bool.{false}
use mathlib.Core.Path.{◌≡◌, refl}
use lib.Dec.{eqb}
use Rattle.machine.specs.declared.answers.Refusal.{Refusal}
use Rattle.machine.specs.declared.answers.Refusal.TheVariants.{BadItem, BadLength, ChannelShort, EmptySource, NoRegister, NoRing, NotSixtyFour, OutOfRange, RingsDiffer, TapeShort, Unsound, WrongKind}
use Rattle.machine.specs.Answers.{number_of}
use Rattle.order.specs.Answers.{first_nonzero}

-- no refusal has number 0
pub numbered : (w : Refusal) → eqb (number_of w) 0 ≡ false
numbered Unsound = refl
numbered NoRegister = refl
numbered EmptySource = refl
numbered WrongKind = refl
numbered NoRing = refl
numbered RingsDiffer = refl
numbered OutOfRange = refl
numbered BadLength = refl
numbered TapeShort = refl
numbered ChannelShort = refl
numbered BadItem = refl
numbered NotSixtyFour = refl

pub first_refusal : (w : Refusal) (n : ℕ) → number_of w ≡ first_nonzero (number_of w) n
first_refusal w n = rw (numbered w)
