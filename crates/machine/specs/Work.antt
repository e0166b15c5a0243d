-- 01, "The nine orders": what an order does once it is accepted, by what is public.
use Rattle.std.specs.Prelude.{ℕ, Some, None, Option}
use Rattle.ring.specs.declared.rings.Ring.{Ring}
use Rattle.ring.specs.Rings.{modulus, ring_of}
use Rattle.circuit.specs.Circuits.{Circuit}
use Rattle.circuit.specs.Orders.{addition, composition, conversion, decomposition, multiplication, scaling, shifting}
use Rattle.machine.specs.Registers.{Kind, Public, bits, count_at, empty, kind_at, number, width_at}
use Rattle.machine.specs.declared.orders.Order.{Order}
use Rattle.machine.specs.declared.orders.Order.TheVariants.{Add, Compose, Convert, Deal, Decompose, Multiply, Open, Scale, Shift}

-- a circuit C from registers x and y leaves a register of that kind in d: place by place, or with gates
pub data Work : Type 1 where
  deals : (d e v : ℕ) → Work
  adjusts : (C : Circuit) (d x y : ℕ) (kind : Kind) → Work
  computes : (C : Circuit) (d x y : ℕ) (kind : Kind) → Work
  opens : (x : ℕ) → Work

-- the kind of a number in the ring of a width
abbrev pub number_kind : Option Ring → Kind
number_kind (Some r) = number r
number_kind None = empty

-- p of a register
abbrev pub modulus_at : Public → ℕ → ℕ
modulus_at p x = modulus (width_at (kind_at p x))

abbrev pub work_of : Order → Public → Work
work_of (Deal d e v) p = deals d e v
work_of (Add d x y) p = adjusts (addition (modulus_at p x)) d x y (kind_at p x)
work_of (Scale d x c) p = adjusts (scaling (modulus_at p x) c) d x x (kind_at p x)
work_of (Multiply d x y) p = computes (multiplication (modulus_at p x)) d x y (kind_at p x)
work_of (Decompose d x l) p = computes (decomposition (width_at (kind_at p x)) l) d x x (bits l)
work_of (Convert d x f) p = computes (conversion (width_at (kind_at p x)) f) d x x (number_kind (ring_of f))
work_of (Shift d x s) p = computes (shifting (width_at (kind_at p x)) s) d x x (kind_at p x)
work_of (Compose d x f) p = computes (composition f (count_at (kind_at p x))) d x x (number_kind (ring_of f))
work_of (Open x) p = opens x
