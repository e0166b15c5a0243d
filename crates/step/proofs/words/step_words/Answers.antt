-- What is found in the words is decided, and the change is written to them.
use Prim.Native.Nat.{ℕ}
use mathlib.Core.Bool.{Bool}
use mathlib.Core.List.{List}
use mathlib.Core.Path.{◌≡◌, refl}
use lib.ListN.{get_or}
use Rattle.machine.specs.Registers.{register_at, sound}
use Rattle.machine.specs.Step.{step}
use Rattle.machine.specs.declared.orders.Order.{Order}
use Rattle.machine.specs.declared.registers.Machine.{Machine}
use Rattle.machine.specs.declared.registers.Register.{Register}
use Rattle.layout.specs.Layout.{Says}
use Rattle.order.specs.Sources.{first_source, second_source}
use Rattle.step.specs.Found.{found_in}
use Rattle.step.proofs.StepLaw.{found_in_lem, written}
use Rattle.step.proofs.words.step_words.Goals as goal

-- what is found of a record that the words say
finds : {s : Bool} (o : Order) {ws : List ℕ} {x y : ℕ} {a b : Register}
    → x ≡ first_source o → ((m : Machine) → Says ws m → a ≡ register_at m x)
    → y ≡ second_source o → ((m : Machine) → Says ws m → b ≡ register_at m y)
    → (m : Machine) → Says ws m → s ≡ sound m
    → record { sources = record { sound = s; a = a; b = b }; at = record { masks = get_or ws 80 0; channels = get_or ws 81 0; dealer = get_or ws 82 0 } } ≡ found_in m o
finds {s} o {ws} ex ha ey hb m says is = found_in_lem m o ws says is ex (ha m says) ey (hb m says)

pub decide-k-requires : goal.decide-k-requires
decide-k-requires c =
    let given = c.requires in
    (given.0, finds c.args.o c.source.ensures c.register_at.ensures c.other.ensures c.register_at-2.ensures given.0 given.1 given.2)

pub write_change-requires : goal.write_change-requires
write_change-requires c =
    let given = c.requires in (
      given.0,
      given.1,
      (c.decide-k.ensures given.0
          (finds c.args.o c.source.ensures c.register_at.ensures c.other.ensures c.register_at-2.ensures given.0 given.1 given.2)).fits,
    )

pub returns : goal.returns
returns c =
    record {
      is = (λ m says is.
          let told = c.decide-k.ensures m (finds c.args.o c.source.ensures c.register_at.ensures c.other.ensures
          c.register_at-2.ensures m says is) in
          written {x = step _ m _ _} c.answer.ensures (c.write_change.ensures m says told.fits) told);
      lent = (refl, refl, refl, refl);
    }
