-- How a machine record, an order and an answer are laid out in 64-bit words.
use Rattle.std.specs.Prelude.{ℕ, zero, suc, cond, Bool, ◌&&◌, List, [], ◌∷◌, ◌++◌, ◌≡◌, eqb, drop, get_or, length, Some, None, Option, Result}
use Rattle.ring.specs.declared.rings.Ring.{Ring}
use Rattle.ring.specs.Rings.{ring_of, width_of}
use Rattle.gate.specs.declared.sharing.Sharing.{Sharing}
use Rattle.machine.specs.Orders.{of_kind}
use Rattle.machine.specs.Registers.{sound}
use Rattle.machine.specs.declared.answers.Done.{Done}
use Rattle.machine.specs.declared.answers.Refusal.{Refusal}
use Rattle.machine.specs.declared.orders.Order.{Order}
use Rattle.machine.specs.declared.orders.Order.TheVariants.{Add, Compose, Convert, Deal, Decompose, Multiply, Open, Scale, Shift}
use Rattle.machine.specs.declared.registers.Machine.{Machine}
use Rattle.machine.specs.declared.registers.Register.{Register}
use Rattle.machine.specs.declared.registers.Register.TheVariants.{Bits, Empty, Number}
use Rattle.order.specs.Answers.{gates_of, refusal_of, value_of}

-- a register: tag, ring width or bit count, three sub-shares
abbrev pub register_words : Register → List ℕ
register_words Empty = 0 ∷ 0 ∷ 0 ∷ 0 ∷ 0 ∷ []
register_words (Number r x) = 1 ∷ width_of r ∷ x.s0 ∷ x.s1 ∷ x.s2 ∷ []
register_words (Bits l x) = 2 ∷ l ∷ x.s0 ∷ x.s1 ∷ x.s2 ∷ []

unfoldable pub slots_words : List Register → List ℕ
slots_words [] = []
slots_words (r ∷ rs) = register_words r ++ slots_words rs

-- a record: registers 0 to 15, then the positions of mask tapes, channels and dealer's tape
unfoldable pub machine_words : Machine → List ℕ
machine_words m = slots_words m.slots ++ (m.masks_at ∷ m.channels_at ∷ m.dealer_at ∷ [])

-- an order: its kind, then its fields in 01's order
abbrev pub order_words : Order → List ℕ
order_words (Deal d e v) = 1 ∷ d ∷ e ∷ v ∷ []
order_words (Add d x y) = 2 ∷ d ∷ x ∷ y ∷ []
order_words (Scale d x c) = 3 ∷ d ∷ x ∷ c ∷ []
order_words (Multiply d x y) = 4 ∷ d ∷ x ∷ y ∷ []
order_words (Decompose d x l) = 5 ∷ d ∷ x ∷ l ∷ []
order_words (Convert d x f) = 6 ∷ d ∷ x ∷ f ∷ []
order_words (Shift d x s) = 7 ∷ d ∷ x ∷ s ∷ []
order_words (Compose d x f) = 8 ∷ d ∷ x ∷ f ∷ []
order_words (Open x) = 9 ∷ x ∷ 0 ∷ 0 ∷ []

-- an answer: refusal number or 0, value, gates
abbrev pub answer_words : Result Done Refusal → List ℕ
answer_words a = refusal_of a ∷ value_of a ∷ gates_of a ∷ []

-- tag 0: an empty register has no other word than 0
abbrev pub empty_from : ℕ → Sharing → Option Register
empty_from n x = cond (eqb n 0 && (eqb x.s0 0 && (eqb x.s1 0 && eqb x.s2 0))) (Some Empty) None

-- tag 1: a number has the width of a ring
abbrev pub number_from : Option Ring → Sharing → Option Register
number_from (Some r) x = Some (Number r x)
number_from None x = None

unfoldable pub register_from : (tag n : ℕ) → Sharing → Option Register
register_from tag n x =
    cond (eqb tag 0) (empty_from n x)
    (cond (eqb tag 1) (number_from (ring_of n) x)
    (cond (eqb tag 2) (Some (Bits n x)) None))

-- the register that the first five words say
unfoldable pub register_of : List ℕ → Option Register
register_of ws =
    register_from (get_or ws 0 0) (get_or ws 1 0) (record { s0 = get_or ws 2 0; s1 = get_or ws 3 0; s2 = get_or ws 4 0 })

-- registers before those of a record
abbrev pub joined : List Register → Option Machine → Option Machine
joined p (Some m) =
    Some
    (record {
      slots = p ++ m.slots;
      masks_at = m.masks_at;
      channels_at = m.channels_at;
      dealer_at = m.dealer_at;
    })
joined p None = None

abbrev pub before : Option Register → Option Machine → Option Machine
before (Some r) m = joined (r ∷ []) m
before None m = None

-- n registers, then the positions
unfoldable pub machine_from : ℕ → List ℕ → Option Machine
machine_from zero ws =
    Some (record { slots = []; masks_at = get_or ws 0 0; channels_at = get_or ws 1 0; dealer_at = get_or ws 2 0 })
machine_from (suc n) ws = before (register_of ws) (machine_from n (drop 5 ws))

-- the record that words say, where they say one
unfoldable pub machine_of : List ℕ → Option Machine
machine_of ws = cond (eqb (length ws) 83) (machine_from 16 ws) None

-- words that are laid out as a record
pub record Says (ws : List ℕ) (m : Machine) : Type 0 where
  pub words : ws ≡ machine_words m
  pub registers : length m.slots ≡ 16

-- whether words say a record, and "sound" of that
abbrev pub seen_of : Option Machine → Option Bool
seen_of (Some m) = Some (sound m)
seen_of None = None

-- an opening's last two words are 0
abbrev pub open_from : (x a b : ℕ) → Option Order
open_from x a b = cond (eqb a 0 && eqb b 0) (Some (Open x)) None

unfoldable pub order_from : (kind a b c : ℕ) → Option Order
order_from k a b c = cond (eqb k 9) (open_from a b c) (of_kind k a b c)

-- the order that words say, where they say one
unfoldable pub order_of : List ℕ → Option Order
order_of ws = cond (eqb (length ws) 4) (order_from (get_or ws 0 0) (get_or ws 1 0) (get_or ws 2 0) (get_or ws 3 0)) None
