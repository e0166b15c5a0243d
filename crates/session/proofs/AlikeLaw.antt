-- Lines that are alike make jobs that are alike, and print the same where one party sees the same (specs/Course.antt).
use Prim.Native.Nat.{ℕ, suc, ◌+◌}
use mathlib.Core.List.{List, [], ◌∷◌, ◌++◌, cons≢nil, flatten, head-eq_of_cons-eq, map, nil≢cons, tail-eq_of_cons-eq}
use Rattle.std.specs.Prelude.{None, Option, Some}
use mathlib.Core.Path.{◌≡◌, ap, ap₂, fun_ext, refl}
use lib.ListN.{length, length-append, length-take, take}
use Rattle.gate.specs.Places.{Place, p0}
use Rattle.gate.proofs.PlaceLaw.{tabled-at}
use Rattle.machine.specs.Registers.{empty_machine}
use Rattle.machine.specs.declared.registers.Machine.{Machine}
use Rattle.act.specs.Jobs.{AlikeLists, Outcome, View, view_of}
use Rattle.protocol.specs.Orders.{Seen, orders, seen_by}
use Rattle.line.specs.declared.commands.Command.{Command}
use Rattle.session.specs.Course.{AlikeCommands, AlikeSaid, entries_from, item_of, mask_of, printed_of, tape_reply, tapes_of}
use Rattle.session.specs.Outputs.{declined13, most, replied, says}
use Rattle.session.specs.Theorems as theorem
use Rattle.session.specs.declared.replies.Reply.{Reply}

-- one more line
pub one_more : {ks ks' : List Command} {k k' : Command} → AlikeSaid ks ks' → AlikeCommands k k'
    → AlikeSaid (ks ++ (k ∷ [])) (ks' ++ (k' ∷ []))
one_more AlikeSaid.done a = AlikeSaid.more a AlikeSaid.done
one_more (AlikeSaid.more b rest) a = AlikeSaid.more b (one_more rest a)

lines_long : {ks ks' : List Command} → AlikeSaid ks ks' → length ks ≡ length ks'
lines_long AlikeSaid.done = refl
lines_long (AlikeSaid.more a rest) = ap suc (lines_long rest)

-- a tape to which lines that are alike add as many items
module _ (f : Command → List ℕ) (long : (k k' : Command) → AlikeCommands k k' → length (f k) ≡ length (f k')) where
  added_long : {ks ks' : List Command} → AlikeSaid ks ks' → length (flatten (map f ks)) ≡ length (flatten (map f ks'))
  unfolding flatten
  added_long AlikeSaid.done = refl
  added_long (AlikeSaid.more {k = k} {k' = k'} a rest) = simp (length-append, long k k' a, added_long rest)

  first_long : {ks ks' : List Command} → AlikeSaid ks ks'
      → length (take most (flatten (map f ks))) ≡ length (take most (flatten (map f ks')))
  first_long a = simp (length-take, added_long a)

mask_long : (i : Place) (k k' : Command) → AlikeCommands k k' → length (mask_of i k) ≡ length (mask_of i k')
mask_long i k k' AlikeCommands.masks = refl
mask_long i k k' AlikeCommands.dealer = refl
mask_long i k k' (AlikeCommands.order e) = refl
mask_long i k k' AlikeCommands.unreadable = refl

item_long : (k k' : Command) → AlikeCommands k k' → length (item_of k) ≡ length (item_of k')
item_long k k' AlikeCommands.masks = refl
item_long k k' AlikeCommands.dealer = refl
item_long k k' (AlikeCommands.order e) = refl
item_long k k' AlikeCommands.unreadable = refl

module _ {ks ks' : List Command} (a : AlikeSaid ks ks') where
  pub masks_long : (i : Place) → length ((tapes_of ks).masks i) ≡ length ((tapes_of ks').masks i)
  unfolding tapes_of
  masks_long i =
      rw (tabled-at (λ j. take most (flatten (map (mask_of j) ks))) i, tabled-at (λ j. take most (flatten (map (mask_of j) ks'))) i)
      (first_long (mask_of i) (mask_long i) a)

  pub dealer_long : length (tapes_of ks).dealer ≡ length (tapes_of ks').dealer
  unfolding tapes_of
  dealer_long = first_long item_of item_long a

-- the lines below some others
entries_alike : {above above' ks ks' : List Command} → AlikeSaid above above' → AlikeSaid ks ks'
    → AlikeLists (entries_from above ks) (entries_from above' ks')
unfolding entries_from
entries_alike over AlikeSaid.done = AlikeLists.done
entries_alike over (AlikeSaid.more AlikeCommands.masks rest) = entries_alike (one_more over AlikeCommands.masks) rest
entries_alike over (AlikeSaid.more AlikeCommands.dealer rest) = entries_alike (one_more over AlikeCommands.dealer) rest
entries_alike over (AlikeSaid.more (AlikeCommands.order e) rest) =
    AlikeLists.more
    (record { act = e; masks_lent = fun_ext (masks_long over); dealer_lent = dealer_long over })
    (entries_alike (one_more over (AlikeCommands.order e)) rest)
entries_alike over (AlikeSaid.more AlikeCommands.unreadable rest) = entries_alike (one_more over AlikeCommands.unreadable) rest

pub alike_read : theorem.AlikeRead
alike_read ks ks' a =
    record {
      entries = entries_alike AlikeSaid.done a;
      channels = refl;
      masks_length = fun_ext (masks_long a);
      dealer_length = dealer_long a;
    }

module _ (U : Place) where
  -- lines below some others print the same where U sees the same
  abbrev PrintSame : (above above' ks ks' : List Command) → Type 0
  PrintSame above above' ks ks' =
      (m n : Machine) → seen_by U m ≡ seen_by U n → (xs ys : List (Outcome Machine)) → map (view_of orders U) xs ≡ map (view_of orders U) ys
      → printed_of above m ks xs ≡ printed_of above' n ks' ys

  module _ {above above' : List Command} (over : AlikeSaid above above') where
    replied-seen : (m n : Machine) → seen_by U m ≡ seen_by U n → (r : Option Reply) → replied (length above + 1) m r ≡ replied (length above' + 1) n r
    replied-seen m n same None = refl
    replied-seen m n same (Some r) =
        rw (lines_long over, ap (λ (s : Seen). s.public.masks_at) same, ap (λ (s : Seen). s.public.channels_at) same) refl

    printed-one : (ks ks' : List Command) {k k' : Command} → AlikeCommands k k'
        → PrintSame (above ++ (k ∷ [])) (above' ++ (k' ∷ [])) ks ks' → PrintSame above above' (k ∷ ks) (k' ∷ ks')
    unfolding printed_of
    printed-one ks ks' AlikeCommands.masks onward m n same xs ys views =
        rw (masks_long over p0)
        (ap₂ ◌++◌ (replied-seen m n same (tape_reply (length ((tapes_of above').masks p0)))) (onward m n same xs ys views))
    printed-one ks ks' AlikeCommands.dealer onward m n same xs ys views =
        rw (dealer_long over)
        (ap₂ ◌++◌ (replied-seen m n same (tape_reply (length (tapes_of above').dealer))) (onward m n same xs ys views))
    printed-one ks ks' (AlikeCommands.order e) onward m n same [] [] views = refl
    printed-one ks ks' (AlikeCommands.order e) onward m n same [] (y ∷ ys) views = absurd (nil≢cons views)
    printed-one ks ks' (AlikeCommands.order e) onward m n same (x ∷ xs) [] views = absurd (cons≢nil views)
    printed-one ks ks' (AlikeCommands.order e) onward m n same (x ∷ xs) (y ∷ ys) views =
        let first = head-eq_of_cons-eq views in
        let seen = ap (λ (v : View Seen). v.seen) first in
        rw (ap (λ (v : View Seen). v.refusal) first, ap (λ (v : View Seen). v.value) first)
        (ap₂ ◌++◌ (replied-seen x.state y.state seen (says y.refusal y.value))
        (onward x.state y.state seen xs ys (tail-eq_of_cons-eq views)))
    printed-one ks ks' AlikeCommands.unreadable onward m n same xs ys views =
        ap₂ ◌++◌ (replied-seen m n same declined13) (onward m n same xs ys views)

  printed_from : {above above' ks ks' : List Command} → AlikeSaid above above' → AlikeSaid ks ks' → PrintSame above above' ks ks'
  unfolding printed_of
  printed_from over AlikeSaid.done = λ m n same xs ys views. refl
  printed_from over (AlikeSaid.more {ks = ks} {ks' = ks'} a rest) = printed-one over ks ks' a (printed_from (one_more over a) rest)

pub printed-seen : theorem.PrintedSeen
printed-seen U ks ks' a = printed_from U AlikeSaid.done a empty_machine empty_machine refl
