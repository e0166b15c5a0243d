-- A preparation and the lines of its items.
use Rattle.std.specs.Prelude.{Ok, Err, Result}
use Prim.Native.Nat.{ℕ, ◌-◌, ◌*◌, ◌/◌, ◌≤◌}
use mathlib.Core.Path.{◌≡◌, refl, sym, ◌∙◌}
use mathlib.Core.List.{List}
use native.Mathlib.Nat.{sub-zero}
use lib.ListN.{length, length-replicate, replicate, take}
use lib.Seq.{length-take-le}
use Rattle.line.specs.Printed.{Wrote}
use Rattle.tape.specs.Tapes.{Filled, Kind as Items, Outcome, fill, filled, items, kind_of, other, outcome, prepared, prepared_as, settled, short}
use Rattle.tape.specs.declared.tapes.Refused.{Refused}
use Rattle.tape.specs.declared.tapes.Refused.TheVariants.{NoRing, RawEnded}
use Rattle.drawing.specs.Draws.{Drew, drawn, drawn_by}
use Rattle.drawing.specs.Lines.{lines_of, per_line}
use Rattle.drawing.specs.Raws.{raw_words}
use Rattle.drawing.specs.declared.kinds.Kind.{Kind}

module _ (kind : Kind) (n : ℕ) {o : Outcome} {run : List ℕ} where
  pub nothing-drawn : (out : List ℕ) (w : Refused) → outcome (Err w) run ≡ o → Drew (drawn_by kind n o) out out (Err w)
  unfolding drawn_by
  nothing-drawn out NoRing is = rw (← is) (record { refusal = refl; writes = record { after = refl; run = refl } })
  nothing-drawn out RawEnded is = rw (← is) (record { refusal = refl; writes = record { after = refl; run = refl } })

  pub lines-drawn : {out exit : List ℕ} {used len : ℕ} → outcome (Ok used) run ≡ o → Wrote 0 (lines_of kind n run) out exit len
      → Drew (drawn_by kind n o) out exit (Ok len)
  unfolding drawn_by
  lines-drawn is w = rw (← is) (record { refusal = refl; writes = w })

-- what a run held does not matter
settled_same : (kind : Kind) (n : ℕ) (a b : List ℕ) (f : Filled) → drawn_by kind n (settled a f) ≡ drawn_by kind n (settled b f)
unfolding drawn_by
settled_same kind n a b (filled xs used) = refl
settled_same kind n a b short = refl

kind_same : (kind : Kind) (n : ℕ) (k : Items) (ws a b : List ℕ) → length a ≡ length b
    → drawn_by kind n (prepared_as k ws a) ≡ drawn_by kind n (prepared_as k ws b)
unfolding drawn_by
kind_same kind n (items e limit) ws a b h = rw h (settled_same kind n a b (fill e limit (length b) 0 ws))
kind_same kind n other ws a b h = refl

-- the items lent
pub items-lent : (m : ℕ) (run : List ℕ) {k : ℕ} → m ≡ k → m ≤ length run → length (take (m - 0) run) ≡ k
items-lent m run is room = rw sub-zero (length-take-le m run room ∙ is)

pub drawn_is : (code n : ℕ) (kind : Kind) (raw ws run : List ℕ) {entry exit : List ℕ} {r : Result ℕ Refused}
    → ws ≡ raw_words (length raw / 8) raw → length run ≡ per_line kind * n
    → Drew (drawn_by kind n (prepared code ws run)) entry exit r → Drew (drawn code n kind raw) entry exit r
unfolding drawn prepared
drawn_is code n kind raw ws run is long d =
    let zeros : List ℕ = replicate (per_line kind * n) 0 in
    let same : length run ≡ length zeros = long ∙ sym (length-replicate (per_line kind * n) 0) in
    rw (is, kind_same kind n (kind_of code) _ run zeros same) at d
