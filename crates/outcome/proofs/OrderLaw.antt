-- Facts about the checks and the work of each order.
use mathlib.Core.Bool.{true}
use mathlib.Core.Path.{◌≡◌, refl}
use Rattle.circuit.specs.Orders.{addition, scaling}
use Rattle.machine.specs.Checks.{Lengths, public_checks}
use Rattle.machine.specs.Registers.{Public}
use Rattle.machine.specs.Work.{work_of}
use Rattle.machine.specs.declared.orders.Order.{Order}
use Rattle.machine.specs.declared.orders.Order.TheVariants.{Add, Compose, Convert, Deal, Decompose, Multiply, Open, Scale, Shift}
use Rattle.outcome.specs.Theorems.{destination}
use Rattle.outcome.proofs.CheckLaw.{numbered}
use Rattle.outcome.proofs.WorkLaw.{Light, target}

-- every check has a number
pub numbered_public : (o : Order) (p : Public) (len : Lengths) → numbered (public_checks o p len) ≡ true
unfolding public_checks
numbered_public (Deal d e v) p len = refl
numbered_public (Add d x y) p len = refl
numbered_public (Scale d x k) p len = refl
numbered_public (Multiply d x y) p len = refl
numbered_public (Decompose d x l) p len = refl
numbered_public (Convert d x f) p len = refl
numbered_public (Shift d x s) p len = refl
numbered_public (Compose d x f) p len = refl
numbered_public (Open x) p len = refl

-- addition and scaling have no gates
pub light : (o : Order) (p : Public) → Light (work_of o p)
unfolding addition scaling
light (Deal d e v) p = tt
light (Add d x y) p = refl
light (Scale d x c) p = refl
light (Multiply d x y) p = tt
light (Decompose d x l) p = tt
light (Convert d x f) p = tt
light (Shift d x s) p = tt
light (Compose d x f) p = tt
light (Open x) p = tt

-- the register that an order's work writes
pub target_is : (o : Order) (p : Public) → target (work_of o p) ≡ destination o
target_is (Deal d e v) p = refl
target_is (Add d x y) p = refl
target_is (Scale d x c) p = refl
target_is (Multiply d x y) p = refl
target_is (Decompose d x l) p = refl
target_is (Convert d x f) p = refl
target_is (Shift d x s) p = refl
target_is (Compose d x f) p = refl
target_is (Open x) p = refl
