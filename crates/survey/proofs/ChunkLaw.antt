-- A chunk by its bytes, and the end of input.
use Prim.Native.Nat.{ℕ}
use mathlib.Core.Bool.{false, true}
use mathlib.Core.List.{List}
use mathlib.Core.Path.{◌≡◌, refl}
use Rattle.std.specs.Prelude.{Err}
use Rattle.line.specs.Printed.{Wrote}
use Rattle.session.specs.Standings.{Standing, after_bytes, after_last, printed_by, printed_last}
use Rattle.session.proofs.ReplyLaw.{wrote_none}
use Rattle.survey.specs.Chunks.{Answered, Ran, Reached, Took, able}
use Rattle.survey.specs.declared.chunks.Failure.TheVariants.{Unread}

-- a chunk that could not be read
pub took_none : (w : Standing) (got : Answered) (buf out : List ℕ) → got ≡ Err Unread → Took w w got buf out out
unfolding printed_by after_bytes
took_none w got buf out e = rw e (record { after = refl; prints = (wrote_none 0 out).run })

-- all chunks, and the end of input by whether they could be read and written
module _ {v : Standing} {got : Answered} {buf : List ℕ} (reached : Reached v got buf) where
  pub ran_all : {u : Standing} {entry exit : List ℕ} {next : ℕ} → able got ≡ true → u ≡ after_last v
      → Wrote 0 (printed_last v) entry exit next → Ran u got buf exit
  ran_all {entry = entry} e after wrote =
      record { last = v; out = entry; reached = reached; after = rw e after; prints = rw e wrote.run }

  pub ran_cut : (out : List ℕ) → able got ≡ false → Ran v got buf out
  ran_cut out e = record { last = v; out = out; reached = reached; after = rw e refl; prints = rw e (wrote_none 0 out).run }
