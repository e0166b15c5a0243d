-- What is lent stays the same from line to line.
use mathlib.Core.Path.{◌∙◌}
use Rattle.session.specs.Kept.{SameLent}
use Rattle.session.specs.declared.lent.LentJob.{LentJob}

pub same_then : {u v w : LentJob} → SameLent u v → SameLent v w → SameLent u w
same_then f g =
    record {
      machine = g.machine ∙ f.machine;
      tapes = g.tapes ∙ f.tapes;
      c0 = g.c0 ∙ f.c0;
      c1 = g.c1 ∙ f.c1;
      c2 = g.c2 ∙ f.c2;
      long = λ i. g.long i ∙ f.long i;
    }
