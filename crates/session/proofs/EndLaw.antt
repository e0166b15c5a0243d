-- The end of a line, up to line 1,000,000 and after it.
use Prim.Native.Nat.{ℕ, ◌+◌, ◌≤◌, ◌<◌}
use mathlib.Core.Bool.{false, true}
use mathlib.Core.List.{[]}
use mathlib.Core.Path.{◌≡◌, ap, refl, sym, ◌∙◌}
use Rattle.std.specs.Prelude.{None, Some}
use borrow.Author.Tests.{le-ltb, lt-ltb}
use Rattle.machine.specs.Registers.{million}
use Rattle.line.specs.Printed.{printed}
use Rattle.line.specs.Readings.{command_in, started}
use Rattle.line.specs.declared.commands.Command.{Command}
use Rattle.session.specs.Outputs.{Turned, replied, taken}
use Rattle.session.specs.declared.replies.Reply.{Reply}
use Rattle.session.specs.Standings.{Standing, after_end, after_last, line_taken, printed_at, printed_last, standing}

module _ (w : Standing) where
  pub late_after : million ≤ w.lines → standing w.state w.lines started ≡ after_end w
  unfolding after_end
  late_after h = rw (le-ltb w.lines million h) refl

  pub late_printed : million ≤ w.lines → printed_at w ≡ []
  unfolding printed_at
  late_printed h = rw (le-ltb w.lines million h) refl

  pub line_after : (t : Turned) → t ≡ line_taken w → w.lines < million → standing t.state (w.lines + 1) started ≡ after_end w
  unfolding after_end
  line_after t e h = rw (lt-ltb w.lines million h) (ap (λ (x : Turned). standing x.state (w.lines + 1) started) e)

  pub line-printed : (t : Turned) → t ≡ line_taken w → w.lines < million → printed_at w ≡ replied (w.lines + 1) t.state.machine t.reply
  unfolding printed_at
  line-printed t e h =
      rw (lt-ltb w.lines million h) (ap (λ (x : Turned). replied (w.lines + 1) x.state.machine x.reply) (sym e))

  -- the end of input
  pub last-seen : w.reading.seen ≡ true → (after_end w ≡ after_last w) × (printed_last w ≡ printed_at w)
  unfolding after_last printed_last
  last-seen e = rw e (refl, refl)

  pub last_unseen : w.reading.seen ≡ false → (w ≡ after_last w) × (printed_last w ≡ [])
  unfolding after_last printed_last
  last_unseen e = rw e (refl, refl)

-- a line up to line 1,000,000, by the command that was read: where the job stands then, and what is printed of no reply and of one
module _ (w : Standing) {k : Command} {t : Turned} (reads : k ≡ command_in w.reading) (does : t ≡ taken w.state k) (early : w.lines < million) where
  is : t ≡ line_taken w
  is = does ∙ ap (taken w.state) reads

  pub line_kept : standing t.state (w.lines + 1) started ≡ after_end w
  line_kept = line_after w t is early

  pub none-printed : t.reply ≡ None → printed_at w ≡ []
  none-printed none = line-printed w t is early ∙ ap (replied (w.lines + 1) t.state.machine) none

  pub reply-printed : {r : Reply} {masks_at channels_at : ℕ} → t.reply ≡ Some r
      → masks_at ≡ t.state.machine.masks_at → channels_at ≡ t.state.machine.channels_at
      → printed_at w ≡ printed (w.lines + 1) r.refusal r.value masks_at channels_at
  reply-printed some masks channels =
      rw (masks, channels) (line-printed w t is early ∙ ap (replied (w.lines + 1) t.state.machine) some)
