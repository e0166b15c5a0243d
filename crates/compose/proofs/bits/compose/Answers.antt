-- All bits, from bit 0 on, are the order's circuit.
use Rattle.circuit.proofs.LoanLaw.{sends_said}
use Rattle.compose.proofs.SumLaw.{composed}
use Rattle.compose.proofs.bits.compose.Goals as goal

pub returns-clause-is : goal.returns-clause-is
returns-clause-is c = sends_said c.compose_bits.ensures.is (λ h. composed _ _ h)
