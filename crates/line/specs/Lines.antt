-- 01, "The job program": which lines an input has, and what a line says. A line is its bytes, without byte 10.
use Rattle.std.specs.Prelude.{ℕ, ◌+◌, ◌-◌, ◌*◌, ◌^◌, Bool, cond, true, ◌&&◌, List, [], ◌∷◌, ◌++◌, eqb, leb, ltb, length, Some, None, Option}
use Rattle.machine.specs.declared.orders.Order.{Order as AnOrder}
use Rattle.machine.specs.Orders.{of_kind}
use Rattle.machine.specs.declared.orders.Order.TheVariants as order
use Rattle.line.specs.declared.commands.Command.{Command}
use Rattle.line.specs.declared.commands.Command.TheVariants.{Dealer, Masks, Order, Unreadable}

-- "A line ends at byte 10 or at the end of input": the bytes of the line that begins here
unfoldable pub line_in : List ℕ → List ℕ
line_in [] = []
line_in (b ∷ bs) = cond (eqb b 10) [] (b ∷ line_in bs)

-- a byte before those of the first line
abbrev pub on_first : ℕ → List (List ℕ) → List (List ℕ)
on_first b [] = (b ∷ []) ∷ []
on_first b (l ∷ ls) = (b ∷ l) ∷ ls

-- "after a last byte 10 there is no further line, and empty input has none"
unfoldable pub lines_of : List ℕ → List (List ℕ)
lines_of [] = []
lines_of (b ∷ bs) = cond (eqb b 10) ([] ∷ lines_of bs) (on_first b (lines_of bs))

-- "fields .. parted by commas", byte 44: the fields from here on, where `part` is what the first has so far
unfoldable pub fields_from : List ℕ → List ℕ → List (List ℕ)
fields_from part [] = part ∷ []
fields_from part (b ∷ bs) = cond (eqb b 44) (part ∷ fields_from [] bs) (fields_from (part ++ (b ∷ [])) bs)

-- "decimal": bytes 48 to 57
abbrev pub is_digit : ℕ → Bool
is_digit b = leb 48 b && leb b 57

-- digits only, and not "another byte"
unfoldable pub all_digits : List ℕ → Bool
all_digits [] = true
all_digits (b ∷ bs) = is_digit b && all_digits bs

-- the number that digits write, behind digits that write n
unfoldable pub number_from : ℕ → List ℕ → ℕ
number_from n [] = n
number_from n (b ∷ bs) = number_from (n * 10 + (b - 48)) bs

-- digits, at most 20 of them, of no "number of 2^64 or more"
unfoldable pub fits : List ℕ → Bool
fits f = all_digits f && (leb (length f) 20 && ltb (number_from 0 f) (2 ^ 64))

-- "decimal of 1 to 20 digits": the number of a field, if it has one
unfoldable pub number_of : List ℕ → Option ℕ
number_of f = cond (leb 1 (length f) && fits f) (Some (number_from 0 f)) None

-- a number before others, if all are there
abbrev pub before : Option ℕ → Option (List ℕ) → Option (List ℕ)
before (Some n) (Some ns) = Some (n ∷ ns)
before (Some n) None = None
before None ns = None

-- the numbers of all fields, if each has one
unfoldable pub numbers_of : List (List ℕ) → Option (List ℕ)
numbers_of [] = Some []
numbers_of (f ∷ fs) = before (number_of f) (numbers_of fs)

-- "9. Open (x)"; "kind 10 adds one dealer item"; "an unknown kind"
unfoldable pub with_one : (kind a : ℕ) → Command
with_one k a = cond (eqb k 9) (Order (order.Open a)) (cond (eqb k 10) (Dealer a) Unreadable)

-- "kinds 1 to 9 are the orders"; "an unknown kind"
abbrev pub order_or : Option AnOrder → Command
order_or (Some o) = Order o
order_or None = Unreadable

-- "Kind 0 adds t0,t1,t2 to the strands", "Fields are in the order given"
unfoldable pub with_three : (kind a b c : ℕ) → Command
with_three k a b c = cond (eqb k 0) (Masks a b c) (order_or (of_kind k a b c))

-- "a wrong count of fields": one number or three beside the kind, and no other count
unfoldable pub with_numbers : List ℕ → Command
with_numbers [] = Unreadable
with_numbers (k ∷ []) = Unreadable
with_numbers (k ∷ a ∷ []) = with_one k a
with_numbers (k ∷ a ∷ b ∷ []) = Unreadable
with_numbers (k ∷ a ∷ b ∷ c ∷ []) = with_three k a b c
with_numbers (k ∷ a ∷ b ∷ c ∷ d ∷ ns) = Unreadable

-- "An empty or otherwise unreadable line"
abbrev pub if_read : Option (List ℕ) → Command
if_read (Some ns) = with_numbers ns
if_read None = Unreadable

-- what a line says: its fields, their numbers, then kind and count
unfoldable pub command_of : List ℕ → Command
command_of bs = if_read (numbers_of (fields_from [] bs))
