-- 01, "The nine orders": how the code carries an order out.
-- Used by the code's contracts alone: no theorem's statement speaks of it.
use Rattle.std.specs.Prelude.{◌≡◌}
use Rattle.machine.specs.declared.orders.Order.{Order}
use Rattle.machine.specs.declared.orders.Order.TheVariants as orders
use Rattle.machine.specs.declared.registers.Machine.{Machine}
use Rattle.order.specs.Attempts.{Prepares}
use Rattle.step.specs.declared.ways.Way.{Way}
use Rattle.step.specs.declared.ways.Way.TheVariants.{Attempt, Deal, Open}

-- a deal and an opening are themselves, orders 2 to 8 what the record decides
abbrev pub Takes : Order → Machine → Way → Type 0
Takes o m (Deal d e v) = o ≡ orders.Deal d e v
Takes o m (Attempt d t) = Prepares o m d t
Takes o m (Open x) = o ≡ orders.Open x
