-- 01, "What demand 3 compares", of the lines of a job: its orders, what each is lent, its tapes; what is printed of its course; the same
-- lines with other tapes, and what one party would see instead.
use Rattle.std.specs.Prelude.{ℕ, suc, ◌+◌, cond, ◌≡◌, ltb, None, Option, get_or, length, take}
use mathlib.Core.List.{List, [], ◌∷◌, ◌++◌, flatten, map}
use Rattle.gate.specs.Places.{Place, next, p0, p1, p2, tabled, three}
use Rattle.machine.specs.Checks.{Tapes}
use Rattle.machine.specs.Registers.{empty_machine, million}
use Rattle.machine.specs.Step as steps
use Rattle.machine.specs.Step.{step}
use Rattle.machine.specs.declared.registers.Machine.{Machine}
use Rattle.act.specs.Jobs.{Entry, Fair, IsRun, Job, Outcome, course, views}
use Rattle.protocol.specs.Orders.{orders, without_number}
use Rattle.line.specs.Lines.{command_of, lines_of}
use Rattle.line.specs.declared.commands.Command.{Command}
use Rattle.line.specs.declared.commands.Command.TheVariants.{Dealer, Masks, Order, Unreadable}
use Rattle.session.specs.Outputs.{State, declined13, most, replied, says, taken, zero_words}
use Rattle.session.specs.declared.replies.Reply.{Reply}

-- what each of some lines says
abbrev pub said : List (List ℕ) → List Command
said ls = map command_of ls

-- and of those that are read of some bytes: "Reading stops after line 1,000,000"
abbrev pub said_by : List ℕ → List Command
said_by bytes = said (take million (lines_of bytes))

-- "Kind 0 adds t0,t1,t2 to the strands": to strand i
abbrev pub mask_of : Place → Command → List ℕ
mask_of i (Masks t₀ t₁ t₂) = three t₀ t₁ t₂ i ∷ []
mask_of i (Dealer item) = []
mask_of i (Order o) = []
mask_of i Unreadable = []

-- "kind 10 adds one dealer item"
abbrev pub item_of : Command → List ℕ
item_of (Masks t₀ t₁ t₂) = []
item_of (Dealer item) = item ∷ []
item_of (Order o) = []
item_of Unreadable = []

-- "At most 512 lines of each tape kind": the tapes that lines give
unfoldable pub tapes_of : List Command → Tapes
tapes_of ks =
    record {
      masks = tabled (λ i. take most (flatten (map (mask_of i) ks)));
      dealer = take most (flatten (map item_of ks));
    }

-- "beside each order stands how many items of each tape .. it is lent": "An order sees the tape lines above it"
abbrev pub entry_of : (above : List Command) → Command → List (Entry orders)
entry_of above (Masks t₀ t₁ t₂) = []
entry_of above (Dealer item) = []
entry_of above (Order o) =
    record { act = o; masks_lent = λ i. length ((tapes_of above).masks i); dealer_lent = length (tapes_of above).dealer } ∷ []
entry_of above Unreadable = []

unfoldable pub entries_from : (above ks : List Command) → List (Entry orders)
entries_from above [] = []
entries_from above (k ∷ ks) = entry_of above k ++ entries_from (above ++ (k ∷ [])) ks

-- "a list of orders .., the words that the three wires hold at the start, and the lengths of the four tapes"
abbrev pub job_of : List Command → Job orders
job_of ks =
    record {
      entries = entries_from [] ks;
      channels = three zero_words zero_words zero_words;
      masks_length = λ i. length ((tapes_of ks).masks i);
      dealer_length = length (tapes_of ks).dealer;
    }

-- two lines "alike in all but the numbers dealt" and the items of tape lines
pub data AlikeCommands : Command → Command → Type 0 where
  masks : {t₀ t₁ t₂ u₀ u₁ u₂ : ℕ} → AlikeCommands (Masks t₀ t₁ t₂) (Masks u₀ u₁ u₂)
  dealer : {t u : ℕ} → AlikeCommands (Dealer t) (Dealer u)
  order : {o o' : orders.Act} → without_number o ≡ without_number o' → AlikeCommands (Order o) (Order o')
  unreadable : AlikeCommands Unreadable Unreadable

-- as many lines, alike place by place
pub data AlikeSaid : List Command → List Command → Type 0 where
  done : AlikeSaid [] []
  more : {k k' : Command} {ks ks' : List Command} → AlikeCommands k k' → AlikeSaid ks ks' → AlikeSaid (k ∷ ks) (k' ∷ ks')

-- what each order returns where the job program gives it
abbrev pub outcome_of : State → Command → List steps.Outcome
outcome_of s (Masks t₀ t₁ t₂) = []
outcome_of s (Dealer item) = []
outcome_of s (Order o) = step o s.machine s.tapes s.channels ∷ []
outcome_of s Unreadable = []

unfoldable pub outcomes_from : State → List Command → List steps.Outcome
outcomes_from s [] = []
outcomes_from s (k ∷ ks) = outcome_of s k ++ outcomes_from (taken s k).state ks

-- "a tape line after 512 taken of its kind prints 13": one after n taken
abbrev pub tape_reply : ℕ → Option Reply
tape_reply n = cond (ltb n most) None declined13

-- What lines print, by the lines above them, the record m that the last order above returned, and what their own orders return, in turn:
-- "line number (from 1, every line counted), refusal or 0, value opened or 0, strand position, wire position"
unfoldable pub printed_of : (above : List Command) → Machine → List Command → List (Outcome Machine) → List ℕ
printed_of above m [] xs = []
printed_of above m (Masks t₀ t₁ t₂ ∷ ks) xs =
    replied (length above + 1) m (tape_reply (length ((tapes_of above).masks p0)))
    ++ printed_of (above ++ (Masks t₀ t₁ t₂ ∷ [])) m ks xs
printed_of above m (Dealer item ∷ ks) xs =
    replied (length above + 1) m (tape_reply (length (tapes_of above).dealer)) ++ printed_of (above ++ (Dealer item ∷ [])) m ks xs
printed_of above m (Order o ∷ ks) [] = []
printed_of above m (Order o ∷ ks) (x ∷ xs) =
    replied (length above + 1) x.state (says x.refusal x.value) ++ printed_of (above ++ (Order o ∷ [])) x.state ks xs
printed_of above m (Unreadable ∷ ks) xs =
    replied (length above + 1) m declined13 ++ printed_of (above ++ (Unreadable ∷ [])) m ks xs

-- what all lines of a job print, by the course of their own run
abbrev pub printed_run : List Command → List ℕ
printed_run ks = printed_of [] empty_machine ks (course (job_of ks) (tapes_of ks))

-- "A run is a job with four tapes": the same lines with the items of T. A tape line with n of its kind above it takes T's items n; where T has
-- none, as after 512, it stays, and so do all other lines. Above these lines stand n mask lines and d dealer lines.
unfoldable pub relined_from : (n d : ℕ) → Tapes → List Command → List Command
relined_from n d T [] = []
relined_from n d T (Masks t₀ t₁ t₂ ∷ ks) =
    Masks (get_or (T.masks p0) n t₀) (get_or (T.masks p1) n t₁) (get_or (T.masks p2) n t₂) ∷ relined_from (suc n) d T ks
relined_from n d T (Dealer item ∷ ks) = Dealer (get_or T.dealer d item) ∷ relined_from n (suc d) T ks
relined_from n d T (Order o ∷ ks) = Order o ∷ relined_from n d T ks
relined_from n d T (Unreadable ∷ ks) = Unreadable ∷ relined_from n d T ks

-- and all lines of a job
abbrev pub relined : Tapes → List Command → List Command
relined T ks = relined_from 0 0 T ks

-- Lines that deal the numbers of ks' and look to U like ks.
pub record Instead (U : Place) (ks ks' : List Command) : Type 0 where
  pub lines : List Command
  -- they differ from ks in the numbers dealt and the tapes' items alone
  pub alike : AlikeSaid ks lines
  -- the orders are those of ks', each lent as many items
  pub entries : entries_from [] lines ≡ entries_from [] ks'
  -- "U's two strands, which it leaves alone"
  pub own : (tapes_of lines).masks U ≡ (tapes_of ks).masks U
  pub far : (tapes_of lines).masks (next U) ≡ (tapes_of ks).masks (next U)
  -- "a fair run"
  pub run : IsRun (job_of lines) (tapes_of lines)
  pub fair : Fair (job_of lines) (tapes_of lines)
  -- "these are equal after every order"
  pub sees : views U (job_of ks) (tapes_of ks) ≡ views U (job_of lines) (tapes_of lines)
  -- and so is what is printed
  pub prints : printed_run ks ≡ printed_run lines
