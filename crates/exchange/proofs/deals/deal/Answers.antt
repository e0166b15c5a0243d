use Rattle.order.proofs.CheckLaw.{fine_first, refused-first}
use Rattle.order.proofs.StepLaw.{passed_change}
use Rattle.exchange.proofs.DealLaw.{deal_done, deal_refused}
use Rattle.exchange.proofs.deals.deal.Goals as goal

pub returns-in_err-begin : goal.returns-in_err-begin
returns-in_err-begin c = λ m of M channels.
    passed_change m _ _ c.from_residual.ensures.1 (deal_refused m _ _ _ _ of M channels _ (refused-first _ _ tt _ c.in_err-begin.ensures))

pub returns-in_err-register : goal.returns-in_err-register
returns-in_err-register c = λ m of M channels.
    passed_change m _ _ c.from_residual-in_err-register.ensures.1
    (deal_refused m _ _ _ _ of M channels _ (fine_first _ _ tt c.in_ok-begin.ensures c.in_err-register.ensures.refusal))

pub returns : goal.returns
returns c = λ m of M channels.
    deal_done m _ _ _ _ of M channels (fine_first _ _ tt c.in_ok-begin.ensures c.in_ok-register.ensures.refusal) c.in_ok-register.ensures.left
