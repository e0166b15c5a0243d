-- The digits are those of std's decimal.
use mathlib.Core.Path.{◌≡◌, ◌∙◌, sym}
use native.Mathlib.Omega.{arith}
use borrow.Author.Rules.{rules}
use Rattle.line.specs.Printed.{decimal}
use Rattle.line.proofs.DecimalLaw.{decimal_is}
use Rattle.line.proofs.PrintLaw.{put}
use Rattle.line.proofs.printing.put_field.Goals as goal

pub returns-clause-writes : goal.returns-clause-writes
returns-clause-writes c =
    let digits : c.as_bytes-digits.result.now ≡ decimal c.args.n = c.as_bytes-digits.ensures.value ∙ c.format.ensures.text ∙ sym (decimal_is c.args.n (search rules)) in
    rw (c.copy_from_slice.ensures.after, ← digits) (put c.args.at c.args.end c.as_bytes-digits.result.now c.args.out.now (omega arith))
