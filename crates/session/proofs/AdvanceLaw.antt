-- Parts of a chunk, put together to the chunk.
use Prim.Native.Nat.{ℕ, suc, ◌+◌, ◌≤◌, ◌<◌}
use mathlib.Core.List.{List, [], ◌++◌, append_assoc, append-nil}
use mathlib.Core.Path.{◌≡◌, ap, sym, ◌∙◌}
use native.Mathlib.Omega.{arith}
use lib.ListN.{drop, drop_of_length-le, length, length-drop}
use lib.Seq.{drop-drop}
use Rattle.line.specs.Lines.{line_in}
use Rattle.line.specs.Printed.{Wrote}
use Rattle.line.specs.Readings.{read_on}
use Rattle.line.proofs.PrintLaw.{also}
use Rattle.line.specs.declared.readings.Reading.{Reading}
use Rattle.session.specs.Standings.{Advanced, Standing, after_bytes, after_end, printed_at, printed_by, read_to}
use Rattle.session.proofs.ChunkLaw.{line_closed, line_open, line-within}
use Rattle.session.proofs.ReplyLaw.{wrote_none, wrote_same}

module _ (w : Standing) (buf : List ℕ) (i stop : ℕ) (r : Reading) (read : r ≡ read_on w.reading (line_in (drop i buf))) (there : stop ≡ i + length (line_in (drop i buf))) where
  pub stop_within : i < length buf → stop ≤ length buf
  stop_within h = grind (arith, line-within, length-drop)

  -- no line ends in the rest of the chunk
  pub advanced_open : (at : ℕ) (out : List ℕ) → length buf ≤ stop → Advanced w (drop i buf) (read_to w r) (drop stop buf) at out out at
  unfolding printed_by after_bytes
  advanced_open at out h =
      let all : length (drop i buf) ≤ length (line_in (drop i buf)) = omega (arith, there, length-drop i buf) in
      let unended = line_open w (drop i buf) all in
      record {
        bytes = [];
        printed = rw (drop_of_length-le buf h) unended.0;
        after = rw (drop_of_length-le buf h, read) unended.1;
        wrote = wrote_none at out;
      }

  -- a line ends at byte `stop`
  pub advanced_closed : {v : Standing} {at next : ℕ} {entry exit : List ℕ} → v ≡ after_end (read_to w r)
      → Wrote at (printed_at (read_to w r)) entry exit next → stop < length buf → i < length buf
      → Advanced w (drop i buf) v (drop (stop + 1) buf) at entry exit next
  advanced_closed {v} e wrote h inside =
      let ends : length (line_in (drop i buf)) < length (drop i buf) = omega (arith, there, length-drop i buf) in
      let closed = line_closed w (drop i buf) ends in
      let same : i + suc (length (line_in (drop i buf))) ≡ stop + 1 = omega (arith, there) in
      let rest : drop (suc (length (line_in (drop i buf)))) (drop i buf) ≡ drop (stop + 1) buf
      = drop-drop (suc (length (line_in (drop i buf)))) i buf ∙ ap (λ (n : ℕ). drop n buf) same in
      record {
        bytes = printed_at (read_to w r);
        printed = rw (e, read, ← rest) closed.0;
        after = rw (e, read, ← rest) closed.1;
        wrote = wrote;
      }

-- one more
pub advanced_on : {w v u : Standing} {xs ys zs entry between exit : List ℕ} {at next last : ℕ}
    → Advanced w xs v ys at entry between next → Advanced v ys u zs next between exit last → next ≤ length entry
    → Advanced w xs u zs at entry exit last
advanced_on {u = u} {zs = zs} f g room =
    record {
      bytes = f.bytes ++ g.bytes;
      printed = f.printed ∙ ap (λ (l : List ℕ). f.bytes ++ l) g.printed ∙ sym (append_assoc f.bytes g.bytes (printed_by u zs));
      after = f.after ∙ g.after;
      wrote = also f.wrote g.wrote room;
    }

-- all of the chunk
pub advanced_all : {w v : Standing} {xs ys entry exit : List ℕ} {at next : ℕ} → Advanced w xs v ys at entry exit next → ys ≡ []
    → (v ≡ after_bytes w xs) × Wrote at (printed_by w xs) entry exit next
unfolding printed_by after_bytes
advanced_all {v = v} {ys = ys} f none =
    let same : f.bytes ++ printed_by v ys ≡ f.bytes = ap (λ (l : List ℕ). f.bytes ++ printed_by v l) none ∙ append-nil f.bytes in
    (sym (f.after ∙ ap (after_bytes v) none), wrote_same (f.printed ∙ same) f.wrote)
