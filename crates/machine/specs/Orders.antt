-- 01, "The nine orders": each by its number.
use Rattle.std.specs.Prelude.{ℕ, cond, eqb, Some, None, Option}
use Rattle.machine.specs.declared.orders.Order.{Order}
use Rattle.machine.specs.declared.orders.Order.TheVariants.{Add, Compose, Convert, Deal, Decompose, Multiply, Scale, Shift}

-- orders 1 to 8 have three fields, "in the order given"; an opening, 9, has one
unfoldable pub of_kind : (kind a b c : ℕ) → Option Order
of_kind k a b c =
    cond (eqb k 1) (Some (Deal a b c))
    (cond (eqb k 2) (Some (Add a b c))
    (cond (eqb k 3) (Some (Scale a b c))
    (cond (eqb k 4) (Some (Multiply a b c))
    (cond (eqb k 5) (Some (Decompose a b c))
    (cond (eqb k 6) (Some (Convert a b c))
    (cond (eqb k 7) (Some (Shift a b c))
    (cond (eqb k 8) (Some (Compose a b c)) None)))))))
