-- Writing a decimal and the byte after it, and fields one after the other.
use Prim.Native.Nat.{ℕ, suc, ◌+◌, ◌-◌, ◌≤◌, ◌<◌}
use mathlib.Core.Path.{◌≡◌, sym, ap, ◌∙◌}
use mathlib.Core.List.{List, [], ◌∷◌, ◌++◌, append_assoc}
use native.Mathlib.Nat.{add_assoc}
use native.Mathlib.Omega.{arith}
use borrow.Rule.Slice.PartMut.{put_mid}
use lib.ListN.{drop, get_or, length, length-append, set, take}
use lib.Seq.{drop_at, drop-cons, drop-drop, set-append_seam, take_at, length-take-le}
use Rattle.machine.specs.Step.{written}
use Rattle.line.specs.Printed.{Wrote}

-- digits put into a run at `at`, and a byte behind them
pub put : (at end : ℕ) (digits out : List ℕ) → at + length digits < length out
    → Wrote at (digits ++ (end ∷ [])) out (set (put_mid at (at + length digits - at) out digits) (at + length digits) end) (at + length digits + 1)
put at end digits out inside =
    let s : ℕ = at + length digits in
    let front : List ℕ = take at out ++ digits in
    let many : at + length digits - at ≡ length digits = omega arith in
    let long : length front ≡ s = rw (length-append, length-take-le at out (omega arith)) in
    let rest : drop (length digits) (drop at out) ≡ get_or out s 0 ∷ drop (suc s) out = drop-drop (length digits) at out ∙ drop-cons out s 0 inside in
    let next : at + length (digits ++ (end ∷ [])) ≡ suc s = rw length-append (omega arith) in
    let held : put_mid at (s - at) out digits ≡ front ++ (get_or out s 0 ∷ drop (suc s) out) =
    rw (many, rest) (sym (append_assoc (take at out) digits _)) in
    let stored : set (front ++ (get_or out s 0 ∷ drop (suc s) out)) s end ≡ front ++ (end ∷ drop (suc s) out) =
    ap (λ (i : ℕ). set (front ++ (get_or out s 0 ∷ drop (suc s) out)) i end) (sym long) ∙ set-append_seam front _ _ end in
    record { after = rw length-append (omega arith); run = rw (held, stored, next) (simp append_assoc) }

written_twice : (at : ℕ) (u v out : List ℕ) → at + length u ≤ length out
    → written (at + length u) v (written at u out) ≡ written at (u ++ v) out
written_twice at u v out inside =
    let n : ℕ = at + length u in
    let p : List ℕ = take at out ++ u in
    let long : length p ≡ n = rw (length-append, length-take-le at out (omega arith)) in
    let joined : written at u out ≡ p ++ drop n out = sym (append_assoc (take at out) u (drop n out)) in
    let rest : drop (n + length v) (p ++ drop n out) ≡ drop (n + length v) out =
    sym (drop-drop (length v) n (p ++ drop n out)) ∙ ap (drop (length v)) (drop_at p (drop n out) n long) ∙ drop-drop (length v) n out in
    rw joined (rw (take_at p (drop n out) n long, rest, length-append, ← add_assoc, append_assoc (take at out) u, append_assoc u v))

-- bytes after bytes
pub also : {at next next' : ℕ} {u v entry between exit : List ℕ} → Wrote at u entry between next → Wrote next v between exit next'
    → next ≤ length entry → Wrote at (u ++ v) entry exit next'
also {at} {next} {next'} {u} {v} {entry} f g room =
    let inside : at + length u ≤ length entry = rw f.after at room in
    record {
      after = rw length-append (omega (arith, f.after, g.after));
      run = g.run ∙ rw (f.after, f.run) (written_twice at u v entry inside);
    }
