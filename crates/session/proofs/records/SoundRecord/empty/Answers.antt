-- 83 zero words say the empty record.
use Rattle.session.proofs.RecordLaw.{empty_fits, empty_in}
use Rattle.session.proofs.records.SoundRecord.empty.Goals as goal

pub invariant_of-result : goal.invariant_of-result
invariant_of-result c = empty_fits

pub returns : goal.returns
returns c = empty_in
