use Rattle.std.specs.Option.{unwrap_or}
use Rattle.std.specs.Prelude.{Option}
use mathlib.Core.Path.{◌≡◌, ap, ◌∙◌}
use native.Mathlib.Omega.{arith}
use lib.ListN.{length, length-drop}
use Rattle.circuit.proofs.LentLaw.{part_is}
use Rattle.machine.specs.declared.registers.Register.{Register}
use Rattle.machine.specs.declared.registers.Register.TheVariants.{Empty}
use Rattle.layout.proofs.SaysLaw.{past_said, register_said, says_length}
use Rattle.layout.proofs.records.register_at.Goals as goal

pub returns-then-k-gt15 : goal.returns-then-k-gt15
returns-then-k-gt15 c = λ m says. past_said says _ c.if-k-gt15.true

pub read_register-requires : goal.read_register-requires
read_register-requires c =
    let long : length c.args.words.now ≡ 83 = says_length c.requires.1 in
    rw (part_is, length-drop) (omega arith)

pub returns : goal.returns
returns c = λ m says.
    c.unwrap_or.ensures
    ∙ ap (λ (o : Option Register). unwrap_or o Empty) (c.read_register.ensures ∙ register_said says _ c.if-k-gt15.false)
