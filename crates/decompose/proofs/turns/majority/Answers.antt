use Rattle.circuit.specs.Loans.{items_next}
use Rattle.circuit.proofs.LoanLaw.{next_below}
use Rattle.gate.specs.Places.{InRange}
use Rattle.gate.specs.Words.{BitWords}
use Rattle.std.proofs.Common.{rules}
use native.Mathlib.Omega.{arith}
use Rattle.decompose.proofs.GateLaw.{majority_is, xor_bits}
use Rattle.decompose.proofs.turns.majority.Goals as goal

pub returns : goal.returns
returns c =
    let t = items_next c.args.lent.now in
    let left = xor_bits c.bitxor-left.ensures c.requires.first c.requires.third in
    let right = xor_bits c.bitxor-right.ensures c.requires.second c.requires.third in
    let words : InRange 2 c.bitxor-left.result → InRange 2 c.bitxor-right.result → InRange 2 t → BitWords c.bitxor-left.result c.bitxor-right.result t c.gate-z.result
    = search rules in
    let word = words left.1 right.1 (next_below (omega arith) c.requires.supplied) in
    let all = xor_bits c.bitxor.ensures c.requires.third word.below in
    let both = majority_is c.args.x c.args.y c.args.c t left.0 right.0 word.is c.gate-z.ensures.sent all.0 in
    record { is = both.0; below = all.1; sent = both.1 }
