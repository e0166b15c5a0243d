use mathlib.Core.Path.{ap, ◌∙◌}
use Rattle.machine.specs.declared.registers.Machine.{Machine}
use Rattle.layout.proofs.SaysLaw.{positions-said}
use Rattle.session.proofs.records.SoundRecord.channels_at.Goals as goal

pub returns : goal.returns
returns c = (positions-said c.self.invariant.says).1.0 ∙ ap (λ (m : Machine). m.channels_at) c.self.view_is
