-- What the two runs answer and hold, the change of one pair of hidden tapes, and what it shows of views. The numbers are those of
-- tests/example. Proofs: proofs/Example.antt, proofs/Image.antt and proofs/Views.antt.
use Rattle.std.specs.Prelude.{ℕ, List, [], ◌∷◌, ◌++◌, map, replicate}
use Rattle.ring.specs.declared.rings.Ring.TheVariants.{R13}
use Rattle.gate.specs.Places.{Place, next}
use Rattle.view.specs.Views.{lacked_by}
use Rattle.machine.specs.Checks.{Tapes}
use Rattle.machine.specs.Registers.{empty, empty_machine, number}
use Rattle.machine.specs.Step.{value_of}
use Rattle.machine.specs.declared.orders.Order.{Order}
use Rattle.machine.specs.declared.orders.Order.TheVariants.{Add, Compose, Convert, Deal, Decompose, Multiply, Open, Scale, Shift}
use Rattle.machine.specs.declared.registers.Machine.{Machine}
use Rattle.act.specs.Jobs.{Entry, Job, Outcome, View, course, view}
use Rattle.act.specs.Secrecy.{Hidden, tapes_with}
use Rattle.protocol.specs.Orders.{Seen, column, orders}
use Rattle.example.specs.Example.{first_tapes}

-- 01, "The nine orders": the number of each kind
abbrev kind_number : Order → ℕ
kind_number (Deal d e v) = 1
kind_number (Add d x y) = 2
kind_number (Scale d x c) = 3
kind_number (Multiply d x y) = 4
kind_number (Decompose d x l) = 5
kind_number (Convert d x f) = 6
kind_number (Shift d x s) = 7
kind_number (Compose d x f) = 8
kind_number (Open x) = 9

-- an order's kind and its answer: refusal or 0, value opened or 0, gates
pub record Line : Type 0 where
  pub kind : ℕ
  pub refusal : ℕ
  pub value : ℕ
  pub gates : ℕ

abbrev line : (kind refusal value gates : ℕ) → Line
line kind refusal value gates = record { kind = kind; refusal = refusal; value = value; gates = gates }

unfoldable pub lines_from : List (Entry orders) → List (Outcome Machine) → List Line
lines_from [] os = []
lines_from (e ∷ es) [] = []
lines_from (e ∷ es) (o ∷ os) = line (kind_number e.act) o.refusal o.value o.gates ∷ lines_from es os

abbrev pub lines : Job orders → Tapes → List Line
lines first_job first_tapes = lines_from first_job.entries (course first_job first_tapes)

-- the lines of either run: every kind is accepted, one opening meets 3 and one shift 9
abbrev pub table : List Line
table =
    line 1 0 0 0
    ∷ line 1 0 0 0
    ∷ line 2 0 0 0
    ∷ line 9 0 12 0
    ∷ line 3 0 0 0
    ∷ line 4 0 0 1
    ∷ line 5 0 0 10
    ∷ line 9 3 0 0
    ∷ line 6 0 0 5
    ∷ line 7 9 0 0
    ∷ line 7 0 0 36
    ∷ line 8 0 0 6
    ∷ line 9 0 1 0
    ∷ line 5 0 0 10
    ∷ line 9 0 4 0
    ∷ []

-- the values of the 16 registers after the last order
unfoldable pub values_from : Machine → List (Outcome Machine) → List ℕ
values_from m [] = map value_of m.slots
values_from m (o ∷ os) = values_from o.state os

abbrev pub values : Job orders → Tapes → List ℕ
values first_job first_tapes = values_from empty_machine (course first_job first_tapes)

abbrev pub values_j : List ℕ
values_j = 5 ∷ 7 ∷ 12 ∷ 1500 ∷ 35 ∷ 5 ∷ 5 ∷ 1 ∷ 5 ∷ 0 ∷ 4 ∷ 0 ∷ 0 ∷ 0 ∷ 0 ∷ 0 ∷ []

abbrev pub values_k : List ℕ
values_k = 4 ∷ 8 ∷ 12 ∷ 1200 ∷ 32 ∷ 4 ∷ 4 ∷ 1 ∷ 4 ∷ 0 ∷ 4 ∷ 0 ∷ 0 ∷ 0 ∷ 0 ∷ 0 ∷ []

-- what party U sees of the tapes of the run of first_job, and what it does not
abbrev pub own : Place → List ℕ
own U = first_tapes.masks U

abbrev pub far : Place → List ℕ
far U = first_tapes.masks (next U)

abbrev pub hidden : Place → Hidden
hidden U = record { dealer = first_tapes.dealer; lacked = first_tapes.masks (lacked_by U) }

-- the tapes with others in the place of those that it does not see
abbrev pub with_hidden : Place → Hidden → Tapes
with_hidden U h = tapes_with U (own U) (far U) h

-- what the change makes of what party 1 does not see. It is handed 100 and 96 of 5 as 8000, 100, 96 in first_job, of 4 as 7999, 100, 96 in second_job
unfoldable pub image : Hidden
image =
    record {
      dealer = 7999 ∷ 100 ∷ 4001 ∷ 8000 ∷ 18446744073709551615 ∷ [];
      lacked =
          742
          ∷ 1 ∷ 1 ∷ 0 ∷ 0 ∷ 1 ∷ 1 ∷ 0 ∷ 0 ∷ 0 ∷ 0
          ∷ 1 ∷ 976971716 ∷ 1138335978 ∷ 936228566 ∷ 358704907
          ∷ 1 ∷ 0 ∷ 0 ∷ 1 ∷ 0 ∷ 0 ∷ 0 ∷ 0 ∷ 0 ∷ 1 ∷ 1 ∷ 1 ∷ 1 ∷ 0 ∷ 0 ∷ 0 ∷ 0 ∷ 0
          ∷ 0 ∷ 0 ∷ 1 ∷ 0 ∷ 0 ∷ 1 ∷ 0 ∷ 1 ∷ 0 ∷ 0 ∷ 0 ∷ 0 ∷ 1 ∷ 0 ∷ 1 ∷ 1 ∷ 2472 ∷ 1077
          ∷ 2667 ∷ 7699 ∷ 3224 ∷ 718 ∷ 4972 ∷ 1273
          ∷ 1 ∷ 1 ∷ 1 ∷ 0 ∷ 1 ∷ 1 ∷ 1 ∷ 0 ∷ 0 ∷ 0
          ∷ 18446744073709551615 ∷ 0 ∷ [];
    }

-- what party U lacks after each order: the third sub-share of every register, and the channel on which it neither sends nor receives
abbrev pub lacked_shares : Place → Job orders → Tapes → List (List ℕ)
lacked_shares U first_job first_tapes = map (λ (o : Outcome Machine). column o.state (lacked_by U)) (course first_job first_tapes)

abbrev pub lacked_channels : Place → Job orders → Tapes → List (List ℕ)
lacked_channels U first_job first_tapes = map (λ (o : Outcome Machine). o.channels (lacked_by U)) (course first_job first_tapes)

-- what party 1 sees after the sixth order, the multiplication: its two sub-shares of every register, channels 1 and 2
abbrev pub own_then : List ℕ
own_then = 100 ∷ 8000 ∷ 8100 ∷ 5427 ∷ 870 ∷ 0 ∷ 0 ∷ 0 ∷ 0 ∷ 0 ∷ 0 ∷ 0 ∷ 0 ∷ 0 ∷ 0 ∷ 0 ∷ []

abbrev pub far_then : List ℕ
far_then = 96 ∷ 4389 ∷ 4485 ∷ 4227 ∷ 7219 ∷ 0 ∷ 0 ∷ 0 ∷ 0 ∷ 0 ∷ 0 ∷ 0 ∷ 0 ∷ 0 ∷ 0 ∷ 0 ∷ []

abbrev pub sends_then : List ℕ
sends_then = 4485 ∷ 870 ∷ replicate 70 1

abbrev pub receives_then : List ℕ
receives_then = 3809 ∷ 7219 ∷ replicate 70 4

abbrev pub view_then : View Seen
view_then =
    record {
      seen = record {
        public = record {
          kinds = replicate 5 (number R13) ++ replicate 11 empty;
          masks_at = 1;
          channels_at = 2;
          dealer_at = 4;
        };
        own = own_then;
        far = far_then;
      };
      sends = sends_then;
      receives = receives_then;
      refusal = 0;
      value = 0;
      gates = 1;
    }

-- a view without the words received
abbrev pub without_received : View Seen → View Seen
without_received v = view v.seen v.sends [] v.refusal v.value v.gates

-- another mask tape 0: party 1, which lacks it, receives one other word at the gates, and sees nothing else of it
unfoldable pub other : List ℕ
other =
    4640
    ∷ 1 ∷ 1 ∷ 0 ∷ 0 ∷ 1 ∷ 1 ∷ 1 ∷ 0 ∷ 1 ∷ 0
    ∷ 1 ∷ 976971716 ∷ 1138335978 ∷ 936228566 ∷ 358704907
    ∷ 1 ∷ 1 ∷ 1 ∷ 1 ∷ 0 ∷ 1 ∷ 0 ∷ 0 ∷ 0 ∷ 0 ∷ 1 ∷ 1 ∷ 0 ∷ 1 ∷ 1 ∷ 1 ∷ 0 ∷ 1
    ∷ 0 ∷ 1 ∷ 1 ∷ 1 ∷ 1 ∷ 1 ∷ 1 ∷ 1 ∷ 0 ∷ 1 ∷ 0 ∷ 1 ∷ 0 ∷ 0 ∷ 1 ∷ 1 ∷ 2472 ∷ 1077
    ∷ 2667 ∷ 7700 ∷ 3224 ∷ 718 ∷ 4972 ∷ 1273
    ∷ 1 ∷ 1 ∷ 1 ∷ 0 ∷ 1 ∷ 1 ∷ 1 ∷ 0 ∷ 0 ∷ 0
    ∷ 18446744073709551615 ∷ 0 ∷ []

-- where it shows: the order and the word received, counted from 0
abbrev pub told_after : ℕ
told_after = 10

abbrev pub told_word : ℕ
told_word = 22
