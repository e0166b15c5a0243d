use Prim.Native.Nat.{◌<◌}
use Rattle.compose.proofs.TurnLaw.{Reached}
use Rattle.compose.proofs.bits.sum_bits.Given as goal

abbrev pub invariant-loop-k : goal.invariant-loop-k
invariant-loop-k l = Reached l.p l.from l.w l.initial.lent l.k l.power l.sum l.lent × (l.power < l.e)
