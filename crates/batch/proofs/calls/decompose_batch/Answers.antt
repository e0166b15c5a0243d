-- Each way out of a call is what the definition leaves.
use mathlib.Core.Path.{refl, sym, ◌∙◌}
use Rattle.order.proofs.PrepareLaw.{parsed, unparsed}
use Rattle.batch.proofs.CodeLaw.{figures-left, length_met, passed_answer, ring_met}
use Rattle.batch.proofs.calls.decompose_batch.Goals as goal

pub returns-then-not_count : goal.returns-then-not_count
returns-then-not_count c =
    record {
      is = length_met _ _ _ _ _ _ c.not_count.ensures c.not_count-2.ensures c.if-not_count.true;
      lent = (refl, refl, refl, refl, refl, refl);
    }

pub returns-in_err-r : goal.returns-in_err-r
returns-in_err-r c =
    let none = unparsed c.batch_ring.result _ _ (sym c.ok_or.ensures.value ∙ c.in_err-r.was) in
    record {
      is = passed_answer _ _ c.from_residual.ensures.1
          (rw none.1 (ring_met _ _ _ _ _ _ c.not_count.ensures c.not_count-2.ensures c.if-not_count.false
          (sym c.batch_ring.ensures ∙ none.0)));
      lent = (refl, refl, refl, refl, refl, refl);
    }

pub returns : goal.returns
returns c =
    record {
      is = figures-left _ _ _ _ _ _ c.not_count.ensures c.not_count-2.ensures
          c.if-not_count.false (sym c.batch_ring.ensures ∙ parsed c.batch_ring.result _ (sym c.ok_or.ensures.value ∙ c.in_ok-r.was)) c.in_ring.ensures;
      lent = (refl, refl, refl, refl, refl, refl);
    }
