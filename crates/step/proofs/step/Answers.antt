use mathlib.Core.Path.{refl}
use Rattle.step.proofs.StepLaw.{answered, found_is}
use Rattle.step.proofs.step.Goals as goal

pub returns : goal.returns
returns c =
    let a = c.args in
    let found = found_is a.m a.o c.is_sound.ensures c.source.ensures c.register.ensures c.other.ensures c.register-2.ensures in
    record {
      is = answered a.o a.m _ _ (c.apply.ensures _) (c.decide.ensures a.m found);
      lent = (refl, refl, refl, refl);
    }
