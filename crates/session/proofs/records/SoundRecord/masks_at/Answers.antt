use mathlib.Core.Path.{ap, ◌∙◌}
use Rattle.machine.specs.declared.registers.Machine.{Machine}
use Rattle.layout.proofs.SaysLaw.{positions-said}
use Rattle.session.proofs.records.SoundRecord.masks_at.Goals as goal

pub returns : goal.returns
returns c = (positions-said c.self.invariant.says).0 ∙ ap (λ (m : Machine). m.masks_at) c.self.view_is
