use Rattle.exchange.proofs.OpenLaw.{all-written}
use Rattle.exchange.proofs.openings.open_words.Goals as goal

pub returns : goal.returns
returns c =
    all-written _ _ _ _ _ (c.requires.zero, (c.requires.one, c.requires.two)) c.send.ensures
