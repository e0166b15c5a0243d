-- Each bit is known at one place, and what it has at the others is what no sharing has.
use mathlib.Core.Path.{◌≡◌, refl, subst}
use Rattle.gate.specs.declared.sharing.Sharing.{Sharing}
use Rattle.circuit.specs.Loans.{Sends, items_next, words_sent}
use Rattle.circuit.proofs.LoanLaw.{turn_sent}
use Rattle.decompose.specs.Turns.{majority_words}
use Rattle.decompose.specs.Words.{bits_xor}
use Rattle.decompose.proofs.GateLaw.{carry_turned}
use Rattle.decompose.proofs.turns.carry_turn.Goals as goal

abbrev third : (b n : Sharing) → Sharing
third b n = record { s0 = n.s0; s1 = n.s1; s2 = b.s2 }

abbrev carry_words : (b t n : Sharing) → Sharing
carry_words b t n = majority_words (record { s0 = b.s0; s1 = n.s1; s2 = n.s2 }) (record { s0 = n.s0; s1 = b.s1; s2 = n.s2 }) (third b n) t

pub returns-clause-ran : goal.returns-clause-ran
returns-clause-ran c =
    let b = c.bits-b in
    let t = items_next c.args.lent.now in
    let carry = c.majority-carry in
    let is = subst (λ (n : Sharing). carry.result ≡ bits_xor (third b.result n) (carry_words b.result t n)) c.zeros-none.ensures carry.ensures.is in
    let sent = subst (λ (n : Sharing). Sends 1 (words_sent (carry_words b.result t n)) c.args.lent.now carry.new.lent) c.zeros-none.ensures carry.ensures.sent in
    turn_sent refl c.requires.supplied.room sent (λ c₀ c₁ c₂ d₀ d₁ d₂ sent. carry_turned _ b.ensures.is is sent c.store.ensures.is)
