use Prim.Native.Nat.{◌*◌, ◌-◌, ◌<◌}
use mathlib.Core.Path.{◌≡◌}
use native.Mathlib.Omega.{arith}
use borrow.Rule.Slice.PartMut.{put_mid}
use lib.ListN.{length, length-drop}
use Rattle.circuit.proofs.LentLaw.{part_is}
use Rattle.machine.specs.Registers.{with_register}
use Rattle.machine.specs.declared.registers.Machine.{Machine}
use Rattle.order.specs.Changes.{Makes}
use Rattle.order.specs.declared.changes.Change.{Change}
use Rattle.order.specs.declared.changes.Change.TheVariants.{Stored}
use Rattle.layout.specs.Layout.{Says}
use Rattle.layout.proofs.SaysLaw.{positions-said, register_changed, rises, says_length}
use Rattle.layout.proofs.records.write_made.Goals as goal

fits_as : (m : Machine) {k l : Change} → k ≡ l → Makes m k → Makes m l
fits_as m e h = rw e at h

fits-stored : (c : goal.In-Stored)
    → Makes c.requires.0 (Stored c.in-Stored.d c.in-Stored.register c.in-Stored.gates c.in-Stored.items)
fits-stored c = fits_as c.requires.0 c.in-Stored.is c.requires.2

pub slice_bounds-write_register-count : goal.slice_bounds-write_register-count
slice_bounds-write_register-count c = let seat = (fits-stored c).0 in let long = says_length c.requires.1 in omega arith

pub slice_bounds-write_register-start : goal.slice_bounds-write_register-start
slice_bounds-write_register-start c = let seat = (fits-stored c).0 in let long = says_length c.requires.1 in omega arith

pub write_register-requires : goal.write_register-requires
write_register-requires c =
    let fits-stored : Makes c.requires.0 (Stored c.in-Stored.d c.in-Stored.register c.in-Stored.gates c.in-Stored.items)
    = fits_as c.requires.0 c.in-Stored.is c.requires.2 in
    let seat = fits-stored.0 in
    let long = says_length c.requires.1 in
    rw (part_is, length-drop) (omega arith)

pub rise-requires : goal.rise-requires
unfolding with_register
rise-requires c =
    let fits-stored : Makes c.requires.0 (Stored c.in-Stored.d c.in-Stored.register c.in-Stored.gates c.in-Stored.items)
    = fits_as c.requires.0 c.in-Stored.is c.requires.2 in
    let stored : (m : Machine)
    → let ws = c.args.words.now in
    Says ws m → c.in-Stored.d < 16 → Says (put_mid (5 * c.in-Stored.d) (length ws - 5 * c.in-Stored.d) ws
    c.write_register.new.words) (with_register m c.in-Stored.d c.in-Stored.register) = λ m says h. register_changed says _ _ h
    c.write_register.ensures in
    let fits = fits-stored in
    let seat = fits.0 in
    let few = fits.1 in
    let taken = fits.2 in
    let whole = rises (stored c.requires.0 c.requires.1 seat.register) c.in-Stored.gates c.in-Stored.gates c.in-Stored.items (omega arith) (omega arith) (omega arith) in record {
      long = whole.0;
      masks = whole.1.0;
      channels = whole.1.1.0;
      dealer = whole.1.1.1;
    }

pub rise-requires-in-Opened-clause-long : goal.rise-requires-in-Opened-clause-long
rise-requires-in-Opened-clause-long c = says_length c.requires.1

pub rise-requires-in-Opened-clause-channels : goal.rise-requires-in-Opened-clause-channels
rise-requires-in-Opened-clause-channels c =
    let fits = fits_as c.requires.0 c.in-Opened.is c.requires.2 in
    let at = positions-said c.requires.1 in
    omega (arith, fits, at)

pub returns-in-Stored : goal.returns-in-Stored
unfolding with_register
returns-in-Stored c =
    let stored : (m : Machine)
    → let ws = c.args.words.now in
    Says ws m → c.in-Stored.d < 16 → Says (put_mid (5 * c.in-Stored.d) (length ws - 5 * c.in-Stored.d) ws
    c.write_register.new.words) (with_register m c.in-Stored.d c.in-Stored.register) = λ m says h. register_changed says _ _ h
    c.write_register.ensures in
    λ m says fits.
    let h = fits_as m c.in-Stored.is fits in
    rw c.in-Stored.is (c.rise.ensures _ (stored m says h.0.register))
