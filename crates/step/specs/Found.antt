-- 01, "The nine orders": what an order reads of the record.
-- Used by the code's contracts alone: no theorem's statement speaks of it.
use Rattle.machine.specs.declared.orders.Order.{Order}
use Rattle.machine.specs.declared.registers.Machine.{Machine}
use Rattle.order.specs.Sources.{positions_in, sources_in}
use Rattle.step.specs.declared.found.Found.{Found}

-- its sources, whether it is sound, and the positions
abbrev pub found_in : Machine → Order → Found
found_in m o = record { sources = sources_in m o; at = positions_in m }
