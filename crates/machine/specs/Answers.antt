-- 01, "Why an order is refused": each case of a refusal in numbers.
use Rattle.std.specs.Prelude.{ℕ}
use Rattle.machine.specs.declared.answers.Refusal.{Refusal}
use Rattle.machine.specs.declared.answers.Refusal.TheVariants.{BadItem, BadLength, ChannelShort, EmptySource, NoRegister, NoRing, NotSixtyFour, OutOfRange, RingsDiffer, TapeShort, Unsound, WrongKind}

-- "1 record not sound; 2 a register number above 15" and so on; 23 is 02's, P13
abbrev pub number_of : Refusal → ℕ
number_of Unsound = 1
number_of NoRegister = 2
number_of EmptySource = 3
number_of WrongKind = 4
number_of NoRing = 5
number_of RingsDiffer = 6
number_of OutOfRange = 7
number_of BadLength = 8
number_of TapeShort = 9
number_of BadItem = 10
number_of ChannelShort = 11
number_of NotSixtyFour = 23
