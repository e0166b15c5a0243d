-- What the lines do is the course of the job and the tapes read off them (specs/Course.antt).
use Prim.Native.Nat.{ℕ, suc, ◌+◌, ◌≤◌, ◌<◌, ◌^◌}
use mathlib.Core.Bool.{false, true}
use mathlib.Core.List.{List, [], ◌∷◌, ◌++◌, append_assoc, append-nil, flatten, map}
use mathlib.Core.Path.{◌≡◌, ap, refl, ◌∙◌}
use native.Mathlib.Omega.{arith}
use lib.Dec.{ltb}
use lib.ListN.{length, length-append, length-take, take}
use lib.Seq.{get_or-take, take_all, take-append-le, take-take}
use Rattle.gate.specs.Places.{Place, p0, p1, p2, tabled, three}
use Rattle.gate.proofs.PlaceLaw.{each, tabled-at}
use Rattle.machine.specs.Registers.{empty_machine}
use Rattle.machine.specs.Step.{step}
use Rattle.machine.specs.declared.orders.Order as orders
use Rattle.machine.specs.declared.registers.Machine.{Machine}
use Rattle.act.specs.Jobs.{Outcome, Words, course_from}
use Rattle.protocol.specs.Orders.{returned}
use Rattle.line.specs.Lines.{command_of}
use Rattle.line.specs.Theorems.{ItemsFit}
use Rattle.line.specs.declared.commands.Command.{Command}
use Rattle.line.specs.declared.commands.Command.TheVariants.{Dealer, Masks, Order, Unreadable}
use Rattle.line.proofs.FieldLaw.{split}
use Rattle.line.proofs.ItemLaw.{Below, one-before}
use Rattle.line.proofs.Theorems.{items_below}
use Rattle.session.specs.Course.{entries_from, item_of, mask_of, outcomes_from, printed_of, said, tape_reply, tapes_of}
use Rattle.session.specs.Outputs.{item_taken, masks_taken, most, ordered, output_from, replied, started, state, taken, turned, zero_words}
use Rattle.session.specs.Theorems as theorem

-- what some lines add, and then others
added : (f : Command → List ℕ) (ks js : List Command) → flatten (map f (ks ++ js)) ≡ flatten (map f ks) ++ flatten (map f js)
unfolding flatten
added f [] js = refl
added f (k ∷ ks) js = rw (added f ks js, append_assoc) refl

-- "At most 512": the first n, of which later ones take nothing away
first_kept : (n : ℕ) (xs ys : List ℕ) → take (length (take n xs)) (take n (xs ++ ys)) ≡ take n xs
first_kept n xs ys = grind (arith, length-take, take-take, take-append-le, take_all)

-- one more, where there is room
one_more : (n : ℕ) (xs : List ℕ) (x : ℕ) → length xs < n → take n (xs ++ (x ∷ [])) ≡ take n xs ++ (x ∷ [])
one_more n xs x h = grind (arith, take_all, length-append)

module _ (n : ℕ) (xs : List ℕ) where
  room : ltb (length (take n xs)) n ≡ true → length xs < n
  room e = grind (arith, length-take)

  no_room : ltb (length (take n xs)) n ≡ false → n ≤ length xs
  no_room e = grind (arith, length-take)

-- the three mask tapes have the same length
even : (i : Place) (ks : List Command) → length (flatten (map (mask_of i) ks)) ≡ length (flatten (map (mask_of p0) ks))
unfolding flatten
even i [] = refl
even i (Masks t₀ t₁ t₂ ∷ ks) = ap suc (even i ks)
even i (Dealer item ∷ ks) = even i ks
even i (Order o ∷ ks) = even i ks
even i (Unreadable ∷ ks) = even i ks

-- a job with some lines above
module _ (above : List Command) where
  -- an order lent as many items as the tapes had above it is lent those
  lent_above : (ks : List Command)
      → record {
        masks = tabled (λ i. take (length ((tapes_of above).masks i)) ((tapes_of (above ++ ks)).masks i));
        dealer = take (length (tapes_of above).dealer) (tapes_of (above ++ ks)).dealer;
      }
      ≡ tapes_of above
  unfolding tapes_of
  lent_above ks = simp (added, first_kept)

  -- lines that add nothing
  order_adds : (o : orders.Order) → tapes_of (above ++ (Order o ∷ [])) ≡ tapes_of above
  unfolding tapes_of flatten
  order_adds o = simp (added, append-nil)

  unreadable_adds : tapes_of (above ++ (Unreadable ∷ [])) ≡ tapes_of above
  unfolding tapes_of flatten
  unreadable_adds = simp (added, append-nil)

  -- a tape line, taken or not
  module _ (m : Machine) (c : Place → List ℕ) where
    masks-read : (t₀ t₁ t₂ : ℕ)
        → masks_taken (state m (tapes_of above) c) t₀ t₁ t₂
        ≡ turned (state m (tapes_of (above ++ (Masks t₀ t₁ t₂ ∷ []))) c) (tape_reply (length ((tapes_of above).masks p0)))
    unfolding masks_taken tapes_of flatten
    masks-read t₀ t₁ t₂ =
        let a : Place → List ℕ = λ i. flatten (map (mask_of i) above) in
        split (ltb (length (take most (a p0))) most)
        (λ e.
        let h : (i : Place) → length (a i) < most = λ i. omega (arith, even i above, room most (a p0) e) in
        simp (e, added, one_more most (a p0) t₀ (h p0), one_more most (a p1) t₁ (h p1), one_more most (a p2) t₂ (h p2), append-nil))
        (λ e.
        let h : (i : Place) → most ≤ length (a i) = λ i. omega (arith, even i above, no_room most (a p0) e) in
        simp (
          e,
          added,
          take-append-le most (a p0) (t₀ ∷ []) (h p0),
          take-append-le most (a p1) (t₁ ∷ []) (h p1),
          take-append-le most (a p2) (t₂ ∷ []) (h p2),
          append-nil,
        ))

    item-read : (item : ℕ)
        → item_taken (state m (tapes_of above) c) item
        ≡ turned (state m (tapes_of (above ++ (Dealer item ∷ []))) c) (tape_reply (length (tapes_of above).dealer))
    unfolding item_taken tapes_of flatten
    item-read item =
        let a : List ℕ = flatten (map item_of above) in
        split (ltb (length (take most a)) most)
        (λ e. simp (e, added, one_more most a item (room most a e), append-nil))
        (λ e. simp (e, added, take-append-le most a (item ∷ []) (no_room most a e), append-nil))

-- the lines below some others
course_from_lem : (above ks : List Command) (m : Machine) (c : Place → List ℕ)
    → map returned (outcomes_from (state m (tapes_of above) c) ks) ≡ course_from (entries_from above ks) m c (tapes_of (above ++ ks))
unfolding outcomes_from entries_from course_from ordered
course_from_lem above [] m c = refl
course_from_lem above (Masks t₀ t₁ t₂ ∷ ks) m c =
    let k : Command = Masks t₀ t₁ t₂ in
    rw (masks-read above m c t₀ t₁ t₂, ← append_assoc above (k ∷ []) ks) (course_from_lem (above ++ (k ∷ [])) ks m c)
course_from_lem above (Dealer item ∷ ks) m c =
    let k : Command = Dealer item in
    rw (item-read above m c item, ← append_assoc above (k ∷ []) ks) (course_from_lem (above ++ (k ∷ [])) ks m c)
course_from_lem above (Order o ∷ ks) m c =
    let x = step o m (tapes_of above) c in
    let onward = course_from_lem (above ++ (Order o ∷ [])) ks x.machine x.channels in
    rw (lent_above above (Order o ∷ ks))
    (ap (λ (xs : List (Outcome Machine)). returned x ∷ xs) (rw (order_adds above o, append_assoc above (Order o ∷ []) ks) at onward))
course_from_lem above (Unreadable ∷ ks) m c =
    let onward = course_from_lem (above ++ (Unreadable ∷ [])) ks m c in
    rw (unreadable_adds above, append_assoc above (Unreadable ∷ []) ks) at onward

pub course-read : theorem.CourseRead
unfolding started tapes_of flatten
course-read ks = course_from_lem [] ks empty_machine (three zero_words zero_words zero_words)

-- lines below some others print by what their orders return
abbrev PrintBy : (above : List Command) → List (List ℕ) → Machine → (Place → List ℕ) → Type 0
PrintBy above ls m c =
    output_from (length above + 1) (state m (tapes_of above) c) ls
    ≡ printed_of above m (said ls) (map returned (outcomes_from (state m (tapes_of above) c) (said ls)))

-- one more line, of which only what it says matters
module _ (above : List Command) (ls : List (List ℕ)) (m : Machine) (c : Place → List ℕ) where
  printed-one : (k : Command) → ((n : Machine) (d : Place → List ℕ) → PrintBy (above ++ (k ∷ [])) ls n d)
      → (let t = taken (state m (tapes_of above) c) k in
      replied (length above + 1) t.state.machine t.reply ++ output_from (length above + 1 + 1) t.state ls)
      ≡ printed_of above m (k ∷ said ls) (map returned (outcomes_from (state m (tapes_of above) c) (k ∷ said ls)))
  unfolding outcomes_from printed_of ordered
  printed-one (Masks t₀ t₁ t₂) onward =
      rw (masks-read above m c t₀ t₁ t₂, ← length-append above (Masks t₀ t₁ t₂ ∷ []), onward m c) refl
  printed-one (Dealer item) onward = rw (item-read above m c item, ← length-append above (Dealer item ∷ []), onward m c) refl
  printed-one (Order o) onward =
      let x = step o m (tapes_of above) c in
      let after = rw (order_adds above o, length-append above (Order o ∷ [])) at (onward x.machine x.channels) in
      rw after refl
  printed-one Unreadable onward =
      let after = rw (unreadable_adds above, length-append above (Unreadable ∷ [])) at (onward m c) in
      rw after refl

printed_from : (above : List Command) (ls : List (List ℕ)) (m : Machine) (c : Place → List ℕ) → PrintBy above ls m c
unfolding output_from printed_of
printed_from above [] m c = refl
printed_from above (l ∷ ls) m c = printed-one above ls m c (command_of l) (printed_from (above ++ (command_of l ∷ [])) ls)

pub printed-read : theorem.PrintedRead
unfolding started tapes_of flatten
printed-read ls =
    printed_from [] ls empty_machine (three zero_words zero_words zero_words)
    ∙ ap (printed_of [] empty_machine (said ls)) (course-read (said ls))

-- what lines add are 64-bit words
append_below : (xs ys : List ℕ) → Below xs → Below ys → Below (xs ++ ys)
append_below [] ys h g = g
append_below (x ∷ xs) ys h g = one-before x (xs ++ ys) (h 0) (append_below xs ys (λ j. h (suc j)) g)

added_below : (f : Command → List ℕ) → ((k : Command) → ItemsFit k → Below (f k)) → (ls : List (List ℕ))
    → Below (flatten (map f (said ls)))
unfolding flatten
added_below f h [] = λ j. omega arith
added_below f h (l ∷ ls) =
    append_below (f (command_of l)) (flatten (map f (said ls))) (h (command_of l) (items_below l)) (added_below f h ls)

mask_below : (i : Place) (k : Command) → ItemsFit k → Below (mask_of i k)
mask_below i (Masks t₀ t₁ t₂) h =
    one-before (three t₀ t₁ t₂ i) [] (each (λ i. three t₀ t₁ t₂ i < 2 ^ 64) h.0 h.1 h.2 i) (λ j. omega arith)
mask_below i (Dealer item) h = λ j. omega arith
mask_below i (Order o) h = λ j. omega arith
mask_below i Unreadable h = λ j. omega arith

item_below : (k : Command) → ItemsFit k → Below (item_of k)
item_below (Masks t₀ t₁ t₂) h = λ j. omega arith
item_below (Dealer item) h = one-before item [] h (λ j. omega arith)
item_below (Order o) h = λ j. omega arith
item_below Unreadable h = λ j. omega arith

-- and so the first n of them
words-taken : (n : ℕ) (xs : List ℕ) → Below xs → Words (length (take n xs)) (take n xs)
words-taken n xs h =
    record {
      long = refl;
      below = λ j few. grind (arith, h j, length-take, get_or-take);
    }

pub run-read : theorem.RunRead
unfolding tapes_of
run-read ls =
    let masks : Place → List ℕ = λ i. flatten (map (mask_of i) (said ls)) in
    record {
      masks =
          λ i. rw (tabled-at (λ j. take most (masks j)) i) (words-taken most (masks i) (added_below (mask_of i) (mask_below i) ls));
      dealer = words-taken most (flatten (map item_of (said ls))) (added_below item_of item_below ls);
    }
