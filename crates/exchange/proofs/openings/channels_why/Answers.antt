use mathlib.Core.Path.{sym, ◌∙◌}
use Rattle.exchange.proofs.OpenLaw.{channel_fits, channel_short, lengths_bad}
use Rattle.exchange.proofs.openings.channels_why.Goals as goal

pub returns-then-uneven : goal.returns-then-uneven
returns-then-uneven c =
    let a = c.args in lengths_bad a.l0 a.l1 a.l2 a.at (sym c.uneven.ensures ∙ c.if-uneven.true)

pub returns-then-l0-at : goal.returns-then-l0-at
returns-then-l0-at c =
    let a = c.args in channel_short a.l0 a.l1 a.l2 a.at (sym c.uneven.ensures ∙ c.if-uneven.false) c.if-l0-at.true

pub returns : goal.returns
returns c =
    let a = c.args in channel_fits a.l0 a.l1 a.l2 a.at (sym c.uneven.ensures ∙ c.if-uneven.false) c.if-l0-at.false
