-- Two jobs alike in all but the numbers dealt (01, "What demand 3 compares"), with orders of all nine kinds, and a run of each.
use Rattle.std.specs.Prelude.{ℕ, List, [], ◌∷◌, replicate}
use Rattle.gate.specs.Places.{three}
use Rattle.machine.specs.Checks.{Tapes}
use Rattle.machine.specs.declared.orders.Order.{Order}
use Rattle.machine.specs.declared.orders.Order.TheVariants.{Add, Compose, Convert, Deal, Decompose, Multiply, Open, Scale, Shift}
use Rattle.act.specs.Jobs.{Entry, Job}
use Rattle.protocol.specs.Orders.{orders}

-- an order that is lent the first n items of each mask tape, and all of the dealer's
abbrev lending : ℕ → Order → Entry orders
lending n o = record { act = o; masks_lent = three n n n; dealer_lent = 5 }

-- the orders after two deals. Register 9 is empty, and the first shift is lent too few items: both are refused. Opened are two numbers
-- and, in register 10, bits
unfoldable pub after_deals : List (Entry orders)
after_deals =
    lending 70 (Add 2 0 1)
    ∷ lending 70 (Open 2)
    ∷ lending 70 (Scale 3 0 300)
    ∷ lending 70 (Multiply 4 0 1)
    ∷ lending 20 (Decompose 5 0 3)
    ∷ lending 70 (Open 9)
    ∷ lending 70 (Convert 6 0 31)
    ∷ lending 30 (Shift 7 3 10)
    ∷ lending 70 (Shift 7 3 10)
    ∷ lending 70 (Compose 8 5 13)
    ∷ lending 70 (Open 7)
    ∷ lending 70 (Decompose 10 2 3)
    ∷ lending 70 (Open 10)
    ∷ []

-- the job that deals a and b
unfoldable pub dealing : ℕ → ℕ → Job orders
dealing a b =
    record {
      entries = lending 70 (Deal 0 13 a) ∷ lending 70 (Deal 1 13 b) ∷ after_deals;
      channels = three (replicate 72 3) (replicate 72 1) (replicate 72 4);
      masks_length = three 70 70 70;
      dealer_length = 5;
    }

abbrev pub first_job : Job orders
first_job = dealing 5 7

abbrev pub second_job : Job orders
second_job = dealing 4 8

-- mask tapes: a line, or some of one length, for each order that takes items, and one for those that nothing takes
abbrev tape₀ : List ℕ
tape₀ =
    4640
    ∷ 1 ∷ 1 ∷ 0 ∷ 0 ∷ 1 ∷ 1 ∷ 1 ∷ 0 ∷ 1 ∷ 0
    ∷ 1 ∷ 976971716 ∷ 1138335978 ∷ 936228566 ∷ 358704907
    ∷ 1 ∷ 1 ∷ 1 ∷ 1 ∷ 0 ∷ 0 ∷ 0 ∷ 0 ∷ 0 ∷ 0 ∷ 1 ∷ 1 ∷ 0 ∷ 1 ∷ 1 ∷ 1 ∷ 0 ∷ 0
    ∷ 0 ∷ 1 ∷ 1 ∷ 1 ∷ 1 ∷ 1 ∷ 1 ∷ 1 ∷ 0 ∷ 1 ∷ 1 ∷ 1 ∷ 0 ∷ 0 ∷ 1 ∷ 1 ∷ 2472 ∷ 1077
    ∷ 2667 ∷ 7700 ∷ 3224 ∷ 718 ∷ 4972 ∷ 1273
    ∷ 1 ∷ 1 ∷ 1 ∷ 0 ∷ 1 ∷ 1 ∷ 1 ∷ 0 ∷ 0 ∷ 0
    ∷ 18446744073709551615 ∷ 0 ∷ []

abbrev tape₁ : List ℕ
tape₁ =
    4656
    ∷ 0 ∷ 0 ∷ 1 ∷ 1 ∷ 1 ∷ 1 ∷ 0 ∷ 1 ∷ 1 ∷ 1
    ∷ 0 ∷ 1394972896 ∷ 474106498 ∷ 907815356 ∷ 1905176175
    ∷ 1 ∷ 1 ∷ 1 ∷ 0 ∷ 0 ∷ 1 ∷ 1 ∷ 0 ∷ 0 ∷ 1 ∷ 1 ∷ 0 ∷ 1 ∷ 1 ∷ 0 ∷ 0 ∷ 1 ∷ 1
    ∷ 1 ∷ 0 ∷ 0 ∷ 1 ∷ 1 ∷ 0 ∷ 1 ∷ 1 ∷ 0 ∷ 0 ∷ 1 ∷ 1 ∷ 0 ∷ 0 ∷ 1 ∷ 0 ∷ 3881 ∷ 4608
    ∷ 5682 ∷ 6062 ∷ 7946 ∷ 3909 ∷ 1776 ∷ 1612
    ∷ 0 ∷ 0 ∷ 0 ∷ 0 ∷ 0 ∷ 1 ∷ 1 ∷ 0 ∷ 0 ∷ 0
    ∷ 6 ∷ 18446744073709551615 ∷ []

abbrev tape₂ : List ℕ
tape₂ =
    5421
    ∷ 0 ∷ 0 ∷ 0 ∷ 1 ∷ 1 ∷ 1 ∷ 1 ∷ 1 ∷ 0 ∷ 1
    ∷ 1 ∷ 1785298274 ∷ 541191472 ∷ 526958682 ∷ 1095240742
    ∷ 0 ∷ 1 ∷ 0 ∷ 0 ∷ 1 ∷ 0 ∷ 0 ∷ 1 ∷ 0 ∷ 0 ∷ 1 ∷ 1 ∷ 0 ∷ 0 ∷ 1 ∷ 0 ∷ 0 ∷ 0
    ∷ 0 ∷ 0 ∷ 0 ∷ 1 ∷ 0 ∷ 0 ∷ 0 ∷ 0 ∷ 1 ∷ 1 ∷ 0 ∷ 0 ∷ 0 ∷ 0 ∷ 1 ∷ 0 ∷ 6798 ∷ 7516
    ∷ 2391 ∷ 554 ∷ 2503 ∷ 5974 ∷ 7131 ∷ 3302
    ∷ 0 ∷ 1 ∷ 0 ∷ 0 ∷ 0 ∷ 0 ∷ 0 ∷ 0 ∷ 0 ∷ 1
    ∷ 7 ∷ 8 ∷ []

-- the tapes of a run of first_job, and of one of second_job
unfoldable pub first_tapes : Tapes
first_tapes = record { masks = three tape₀ tape₁ tape₂; dealer = 8000 ∷ 100 ∷ 4000 ∷ 8000 ∷ 18446744073709551615 ∷ [] }

unfoldable pub second_tapes : Tapes
second_tapes = record { masks = three tape₁ tape₂ tape₀; dealer = 1 ∷ 2 ∷ 8190 ∷ 8190 ∷ 0 ∷ [] }
