-- Two lists of lines alike in all but the numbers dealt.
use Rattle.std.specs.Prelude.{ℕ, List, [], ◌∷◌}
use Rattle.machine.specs.declared.orders.Order.TheVariants.{Add, Deal, Open}
use Rattle.line.specs.declared.commands.Command.{Command}
use Rattle.line.specs.declared.commands.Command.TheVariants.{Dealer, Order}

-- four dealer's items, two deals, their sum, and its opening
abbrev pub dealing : ℕ → ℕ → List Command
dealing a b =
    Dealer 1
    ∷ Dealer 2
    ∷ Dealer 3
    ∷ Dealer 4
    ∷ Order (Deal 0 13 a)
    ∷ Order (Deal 1 13 b)
    ∷ Order (Add 2 0 1)
    ∷ Order (Open 2)
    ∷ []
