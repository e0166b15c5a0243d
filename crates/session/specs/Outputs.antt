-- 01, "The job program": what each line does, and the bytes that are printed for any bytes of input.
use Rattle.std.specs.Prelude.{ℕ, ◌+◌, cond, List, [], ◌∷◌, ◌++◌, ltb, None, Option, Some, length, replicate, take}
use Rattle.gate.specs.Places.{Place, p0, p1, p2, three}
use Rattle.machine.specs.Checks.{Tapes}
use Rattle.machine.specs.Registers.{empty_machine, million}
use Rattle.machine.specs.Step.{step}
use Rattle.machine.specs.declared.orders.Order as orders
use Rattle.machine.specs.declared.registers.Machine.{Machine}
use Rattle.line.specs.Lines.{command_of, lines_of}
use Rattle.line.specs.Printed.{printed}
use Rattle.line.specs.declared.commands.Command.{Command}
use Rattle.line.specs.declared.commands.Command.TheVariants.{Dealer, Masks, Order, Unreadable}
use Rattle.session.specs.declared.replies.Reply.{Reply}

-- "An order sees the tape lines above it": what the lines so far leave
pub record State : Type 0 where
  pub machine : Machine
  pub tapes : Tapes
  pub channels : Place → List ℕ

abbrev pub state : Machine → Tapes → (Place → List ℕ) → State
state m T c = record { machine = m; tapes = T; channels = c }

abbrev pub tapes : (t₀ t₁ t₂ dealer : List ℕ) → Tapes
tapes t₀ t₁ t₂ dealer = record { masks = three t₀ t₁ t₂; dealer = dealer }

-- "wires of 1,024 words", zero before the first order
abbrev pub zero_words : List ℕ
zero_words = replicate 1024 0

-- no line yet
abbrev pub no_tapes : Tapes
no_tapes = tapes [] [] [] []

unfoldable pub started : State
started = state empty_machine no_tapes (three zero_words zero_words zero_words)

-- "refusal or 0, value opened or 0"
abbrev pub says : (refusal value : ℕ) → Option Reply
says refusal value = Some (record { refusal = refusal; value = value })

-- what a line leaves, and what it is answered; a tape line that is taken gets no reply
pub record Turned : Type 0 where
  pub state : State
  pub reply : Option Reply

abbrev pub turned : State → Option Reply → Turned
turned s r = record { state = s; reply = r }

-- "prints 13 as refusal and changes nothing"
abbrev pub declined13 : Option Reply
declined13 = says 13 0

abbrev pub declined : State → Turned
declined s = turned s declined13

-- "At most 512 lines of each tape kind"
abbrev pub most : ℕ
most = 512

-- "Kind 0 adds t0,t1,t2 to the strands"
unfoldable pub masks_taken : State → (t₀ t₁ t₂ : ℕ) → Turned
masks_taken s t₀ t₁ t₂ =
    let T = s.tapes in
    let with-masks = tapes (T.masks p0 ++ (t₀ ∷ [])) (T.masks p1 ++ (t₁ ∷ [])) (T.masks p2 ++ (t₂ ∷ [])) T.dealer in
    cond (ltb (length (T.masks p0)) most) (turned (state s.machine with-masks s.channels) None) (declined s)

-- "kind 10 adds one dealer item"
unfoldable pub item_taken : State → ℕ → Turned
item_taken s item =
    let T = s.tapes in
    let with_item : Tapes = record { masks = T.masks; dealer = T.dealer ++ (item ∷ []) } in
    cond (ltb (length T.dealer) most) (turned (state s.machine with_item s.channels) None) (declined s)

-- "kinds 1 to 9 are the orders", each answered "refusal or 0, value opened or 0"
unfoldable pub ordered : State → orders.Order → Turned
ordered s o =
    let r = step o s.machine s.tapes s.channels in
    turned (state r.machine s.tapes r.channels) (says r.refusal r.value)

-- what a line does
abbrev pub taken : State → Command → Turned
taken s (Masks t₀ t₁ t₂) = masks_taken s t₀ t₁ t₂
taken s (Dealer item) = item_taken s item
taken s (Order o) = ordered s o
taken s Unreadable = declined s

-- "For each order it prints: line number .., refusal or 0, value opened or 0, strand position, wire position"
abbrev pub replied : (line : ℕ) → Machine → Option Reply → List ℕ
replied line m None = []
replied line m (Some r) = printed line r.refusal r.value m.masks_at m.channels_at

-- the lines from number n on
unfoldable pub output_from : (n : ℕ) → State → List (List ℕ) → List ℕ
output_from n s [] = []
output_from n s (l ∷ ls) =
    let t = taken s (command_of l) in
    replied n t.state.machine t.reply ++ output_from (n + 1) t.state ls

-- "line number (from 1, every line counted)"; "Reading stops after line 1,000,000"
unfoldable pub output : List ℕ → List ℕ
output bytes = output_from 1 started (take million (lines_of bytes))
