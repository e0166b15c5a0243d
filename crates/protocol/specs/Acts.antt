-- The nine orders as acts: the record as data at three places, and the work of an order on it.
use Rattle.std.specs.Prelude.{ℕ, List, get_or, set}
use Rattle.ring.specs.Rings.{modulus, ring_of}
use Rattle.gate.specs.Places.{Place, sharing}
use Rattle.circuit.specs.Circuits.{Circuit}
use Rattle.machine.specs.Checks.{first_met, public_checks}
use Rattle.machine.specs.Registers.{Kind, bits, empty, kind_at, number, public_of, register_of, width_at}
use Rattle.machine.specs.Registers as registers
use Rattle.machine.specs.Step.{value_of}
use Rattle.machine.specs.Work.{number_kind, work_of}
use Rattle.machine.specs.Work as works
use Rattle.machine.specs.declared.orders.Order.{Order}
use Rattle.machine.specs.declared.registers.Machine.{Machine}
use Rattle.act.specs.Acts.{Act}
use Rattle.act.specs.Works.{Evaluation, Public, Shared, Work, deals, evaluates, opens, shares_read}
use Rattle.protocol.specs.Orders.{Lifts, RefusedNumber, Small, column}

-- what is public beside the positions, and what a place holds: a sub-share of each register
abbrev pub Kinds : Type 0
Kinds = List Kind

abbrev pub Column : Type 0
Column = List ℕ

abbrev pub public_for : registers.Public → Public Kinds
public_for p = record { rest = p.kinds; masks_at = p.masks_at; channels_at = p.channels_at; dealer_at = p.dealer_at }

abbrev pub public_from : Public Kinds → registers.Public
public_from q = record { kinds = q.rest; masks_at = q.masks_at; channels_at = q.channels_at; dealer_at = q.dealer_at }

abbrev pub shared_of : Machine → Shared Kinds Column
shared_of m = record { public = public_for (public_of m); share = column m }

-- the sub-share of register x, and the value of three
abbrev pub share_at : ℕ → Column → ℕ
share_at x a = get_or a x 0

abbrev pub value_in : Kind → (Place → ℕ) → ℕ
value_in kind z = value_of (register_of kind (sharing z))

-- what a register of that kind keeps of a sub-share: an empty one has none
abbrev pub kept_as : Kind → ℕ → ℕ
kept_as empty v = 0
kept_as (number r) v = v
kept_as (bits l) v = v

-- a circuit from registers x and y to register d
abbrev pub evaluation_of : Circuit → (d x y : ℕ) → Kind → Evaluation Column
evaluation_of C d x y kind =
    record {
      State = C.State;
      start = λ a. C.start (share_at x a) (share_at y a);
      gates = C.gates;
      finish = λ i a z. set a d (kept_as kind (C.finish i z));
    }

abbrev pub work_for : registers.Public → works.Work → Work Kinds Column
work_for p (works.deals d e v) =
    deals (set p.kinds d (number_kind (ring_of e))) (modulus e) v (λ a z. set a d (kept_as (number_kind (ring_of e)) z))
work_for p (works.adjusts C d x y kind) = evaluates (set p.kinds d kind) (evaluation_of C d x y kind)
work_for p (works.computes C d x y kind) = evaluates (set p.kinds d kind) (evaluation_of C d x y kind)
work_for p (works.opens x) = opens p.kinds (share_at x) (value_in (kind_at p x))

-- 4a is below p, of the number that an order decomposes, converts or shifts
abbrev pub SmallIn : Order → Shared Kinds Column → Type 0
SmallIn o s =
    (x : ℕ) → Lifts o x
    → (let kind = kind_at (public_from s.public) x in
    Small (value_in kind (shares_read s.share (share_at x))) (modulus (width_at kind)))

abbrev pub act_of : Order → Act Kinds Column
act_of o =
    record {
      refusal = λ q len. first_met (public_checks o (public_from q) len);
      work = λ q. work_for (public_from q) (work_of o (public_from q));
      NumberRefused = RefusedNumber o;
      Small = SmallIn o;
    }
