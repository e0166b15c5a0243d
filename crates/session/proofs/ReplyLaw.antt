-- Nothing written, and the same bytes written.
use Prim.Native.Nat.{ℕ}
use mathlib.Core.List.{List, []}
use mathlib.Core.Path.{◌≡◌, subst, sym}
use native.Mathlib.Nat.{add-zero}
use lib.ListN.{take-append-drop}
use Rattle.line.specs.Printed.{Wrote}

-- nothing written
pub wrote_none : (at : ℕ) (out : List ℕ) → Wrote at [] out out at
wrote_none at out = record { after = sym (add-zero at); run = sym (rw (add-zero at) (take-append-drop at out)) }

pub wrote_same : {at next : ℕ} {u v entry exit : List ℕ} → u ≡ v → Wrote at v entry exit next → Wrote at u entry exit next
wrote_same {at} {next} {u} {v} {entry} {exit} e = subst (λ (bytes : List ℕ). Wrote at bytes entry exit next) (sym e)
