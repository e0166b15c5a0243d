-- The numbers that a line gives are below 2^64.
use Rattle.std.specs.Prelude.{Some, None, Option}
use Rattle.machine.specs.declared.orders.Order.{Order as AnOrder}
use Prim.Native.Nat.{ℕ, zero, suc, ◌<◌, ◌^◌}
use mathlib.Core.List.{List, [], ◌∷◌}
use mathlib.Core.Bool.{◌&&◌}
use native.Mathlib.Omega.{arith}
use lib.Dec.{eqb, leb}
use lib.ListN.{get_or, length}
use Rattle.machine.specs.Orders.{of_kind}
use Rattle.line.specs.Lines.{before, command_of, fields_from, fits, if_read, number_of, numbers_of, order_or, with_numbers, with_one, with_three}
use Rattle.line.specs.Theorems.{ItemsBelow, ItemsFit}
use Rattle.line.proofs.FieldLaw.{right_true, split, true_fit}

abbrev pub Below : List ℕ → Type 0
Below ns = (j : ℕ) → get_or ns j 0 < 2 ^ 64

abbrev OneBelow : Option ℕ → Type 0
OneBelow (Some n) = n < 2 ^ 64
OneBelow None = Unit {0}

abbrev AllBelow : Option (List ℕ) → Type 0
AllBelow (Some ns) = Below ns
AllBelow None = Unit {0}

number_below : (f : List ℕ) → OneBelow (number_of f)
unfolding number_of
number_below f = split (leb 1 (length f) && fits f) (λ e. rw e (true_fit f (right_true (leb 1 (length f)) _ e)).below) (λ e. rw e tt)

pub one-before : (n : ℕ) (ns : List ℕ) → n < 2 ^ 64 → Below ns → Below (n ∷ ns)
one-before n ns h hs zero = h
one-before n ns h hs (suc j) = hs j

all-before : (n : Option ℕ) (ns : Option (List ℕ)) → OneBelow n → AllBelow ns → AllBelow (before n ns)
all-before (Some n) (Some ns) h hs = one-before n ns h hs
all-before (Some n) None h hs = tt
all-before None ns h hs = tt

numbers_below : (fs : List (List ℕ)) → AllBelow (numbers_of fs)
unfolding numbers_of
numbers_below [] = λ j. omega arith
numbers_below (f ∷ fs) = all-before (number_of f) (numbers_of fs) (number_below f) (numbers_below fs)

order-fits : (o : Option AnOrder) → ItemsFit (order_or o)
order-fits (Some o) = tt
order-fits None = tt

one-fits : (k a : ℕ) → a < 2 ^ 64 → ItemsFit (with_one k a)
unfolding with_one
one-fits k a h = split (eqb k 9) (λ e. rw e tt) (λ e. rw e (split (eqb k 10) (λ e. rw e h) (λ e. rw e tt)))

three_fit : (k a b c : ℕ) → a < 2 ^ 64 → b < 2 ^ 64 → c < 2 ^ 64 → ItemsFit (with_three k a b c)
unfolding with_three
three_fit k a b c x y z = split (eqb k 0) (λ e. rw e (x, y, z)) (λ e. rw e (order-fits (of_kind k a b c)))

items_fit : (ns : List ℕ) → Below ns → ItemsFit (with_numbers ns)
unfolding with_numbers
items_fit [] h = tt
items_fit (k ∷ []) h = tt
items_fit (k ∷ a ∷ []) h = one-fits k a (h 1)
items_fit (k ∷ a ∷ b ∷ []) h = tt
items_fit (k ∷ a ∷ b ∷ c ∷ []) h = three_fit k a b c (h 1) (h 2) (h 3)
items_fit (k ∷ a ∷ b ∷ c ∷ d ∷ ns) h = tt

read_fit : (ns : Option (List ℕ)) → AllBelow ns → ItemsFit (if_read ns)
read_fit (Some ns) h = items_fit ns h
read_fit None h = tt

pub items_below : ItemsBelow
unfolding command_of
items_below bs = read_fit (numbers_of (fields_from [] bs)) (numbers_below (fields_from [] bs))
