-- How long the runs are that an order is lent, as the checks say it.
-- Used by the code's contracts alone: no theorem's statement speaks of it.
use Rattle.gate.specs.Places.{three}
use Rattle.machine.specs.Checks as checks
use Rattle.order.specs.Attempts.{lengths_in}
use Rattle.attempt.specs.declared.lengths.Lengths.{Lengths}

-- place by place
abbrev pub lengths_told : Lengths → checks.Lengths
lengths_told n = lengths_in (three n.m0 n.m1 n.m2) (three n.c0 n.c1 n.c2)
