-- 01, "The nine orders": what an order reads of the record.
-- Used by the code's contracts alone: no theorem's statement speaks of it.
use Rattle.std.specs.Prelude.{ℕ, [], ◌≡◌}
use Rattle.machine.specs.Registers.{Public, register_at, sound}
use Rattle.machine.specs.declared.orders.Order.{Order}
use Rattle.machine.specs.declared.orders.Order.TheVariants.{Add, Compose, Convert, Deal, Decompose, Multiply, Open, Scale, Shift}
use Rattle.machine.specs.declared.registers.Machine.{Machine}
use Rattle.order.specs.declared.sources.Positions.{Positions}
use Rattle.order.specs.declared.sources.Sources.{Sources}

-- the number of an order's source x; a deal has none, which 16 stands for
abbrev pub first_source : Order → ℕ
first_source (Deal d e v) = 16
first_source (Add d x y) = x
first_source (Scale d x c) = x
first_source (Multiply d x y) = x
first_source (Decompose d x l) = x
first_source (Convert d x f) = x
first_source (Shift d x s) = x
first_source (Compose d x f) = x
first_source (Open x) = x

-- and of its source y
abbrev pub second_source : Order → ℕ
second_source (Deal d e v) = 16
second_source (Add d x y) = y
second_source (Scale d x c) = 16
second_source (Multiply d x y) = y
second_source (Decompose d x l) = 16
second_source (Convert d x f) = 16
second_source (Shift d x s) = 16
second_source (Compose d x f) = 16
second_source (Open x) = 16

-- whether a record is sound, and those registers
abbrev pub sources_in : Machine → Order → Sources
sources_in m o =
    record { sound = sound m; a = register_at m (first_source o); b = register_at m (second_source o) }

-- the positions of a record
abbrev pub positions_in : Machine → Positions
positions_in m = record { masks = m.masks_at; channels = m.channels_at; dealer = m.dealer_at }

-- those that gates go by are a record's: the dealer's tape takes no part
pub record GatesAt (at : Positions) (m : Machine) : Type 0 where
  pub masks : at.masks ≡ m.masks_at
  pub channels : at.channels ≡ m.channels_at

-- and all that checks 8, 9 and 11 read of one
abbrev pub public_at : Positions → Public
public_at at = record { kinds = []; masks_at = at.masks; channels_at = at.channels; dealer_at = at.dealer }
