-- Layouts and what they lay out are one to one. Proofs: proofs/Theorems.antt.
use Rattle.std.specs.Prelude.{ℕ, List, ◌≡◌, length, replicate, Some}
use Rattle.machine.specs.Registers.{empty_machine}
use Rattle.machine.specs.declared.orders.Order.{Order}
use Rattle.machine.specs.declared.registers.Machine.{Machine}
use Rattle.layout.specs.Layout.{machine_of, machine_words, order_of, order_words}

-- reading what was written gives it back
abbrev pub MachineBack : Type 0
MachineBack = (m : Machine) → length m.slots ≡ 16 → machine_of (machine_words m) ≡ Some m

abbrev pub OrderBack : Type 0
OrderBack = (o : Order) → order_of (order_words o) ≡ Some o

-- what is read was so written, and a record that is read has 16 registers
abbrev pub MachineWritten : Type 0
MachineWritten = (ws : List ℕ) (m : Machine) → machine_of ws ≡ Some m → (machine_words m ≡ ws) × (length m.slots ≡ 16)

abbrev pub OrderWritten : Type 0
OrderWritten = (ws : List ℕ) (o : Order) → order_of ws ≡ Some o → order_words o ≡ ws

-- a record has 83 words
abbrev pub MachineLength : Type 0
MachineLength = (m : Machine) → length m.slots ≡ 16 → length (machine_words m) ≡ 83

-- and all are 0 where it is the empty machine
abbrev pub EmptyIsZeros : Type 0
EmptyIsZeros = machine_words empty_machine ≡ replicate 83 0
