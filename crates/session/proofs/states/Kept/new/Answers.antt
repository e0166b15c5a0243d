use mathlib.Core.Path.{refl}
use Rattle.session.specs.Outputs.{started}
use Rattle.session.proofs.states.Kept.new.Goals as goal

pub returns : goal.returns
unfolding started
returns c = rw (c.empty.ensures, c.new.ensures) refl
