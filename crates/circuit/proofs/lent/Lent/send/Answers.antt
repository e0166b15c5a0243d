-- Each word stands at the position, and what is before it stays.
use Prim.Native.Nat.{ℕ}
use mathlib.Core.List.{List}
use mathlib.Core.Path.{◌≡◌, refl}
use native.Mathlib.Nat.{add-zero}
use lib.ListN.{drop, length-set, set}
use Rattle.std.proofs.lemmas.List.{drop-set-add, take-set}
use Rattle.gate.proofs.PlaceLaw.{each}
use Rattle.circuit.proofs.lent.Lent.send.Goals as goal

head : (k : ℕ) (l : List ℕ) (z : ℕ) → drop k (set l k z) ≡ set (drop k l) 0 z
head k l z = rw add-zero at (drop-set-add k l 0 z)

pub returns : goal.returns
returns c =
    let v = c.args.self.now in record {
      ahead = record { zero = head v.at v.c0.now c.args.z.s0; one = head v.at v.c1.now c.args.z.s1; two = head v.at v.c2.now c.args.z.s2 };
      at = refl;
      same = record {
        m0 = refl;
        m1 = refl;
        m2 = refl;
        c0 = refl;
        c1 = refl;
        c2 = refl;
        long = each _ (length-set v.c0.now v.at _) (length-set v.c1.now v.at _) (length-set v.c2.now v.at _);
        behind = each _ (take-set v.c0.now v.at _) (take-set v.c1.now v.at _) (take-set v.c2.now v.at _);
      };
    }
