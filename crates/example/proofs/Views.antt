-- The view shows no more than demand 3 allows, and no less than 01 asks: what a party lacks differs between a run and its image, and the
-- words received tell two runs apart that nothing else does.
use Prim.Native.Nat.{ℕ}
use mathlib.Core.List.{List, [], ◌∷◌, map}
use mathlib.Core.Path.{◌≡◌, ap, refl}
use borrow.Author.Tests.{eqb-false}
use lib.ListN.{drop, get_or, take}
use Rattle.gate.specs.Places.{p1}
use Rattle.machine.specs.Checks.{Tapes}
use Rattle.act.specs.Jobs.{View, views}
use Rattle.protocol.specs.Orders.{Seen}
use Rattle.example.specs.Example.{first_job, second_job, first_tapes}
use Rattle.example.specs.Figures.{Line, image, lacked_channels, lacked_shares, other, table, told_after, told_word, view_then, with_hidden, without_received}
use Rattle.example.proofs.Example.{course_open}

-- word k of list n
abbrev at : (n k : ℕ) → List (List ℕ) → ℕ
at n k ls = get_or (get_or ls n []) k 0

-- what party 1 sees is what 01 lists, in numbers: after the multiplication, and what every order answers
pub sees_this : take 1 (drop 5 (views p1 first_job first_tapes)) ≡ view_then ∷ []
unfolding course_open
sees_this = refl

pub sees_answers : map (λ (v : View Seen). v.refusal ∷ v.value ∷ v.gates ∷ []) (views p1 first_job first_tapes)
    ≡ map (λ (l : Line). l.refusal ∷ l.value ∷ l.gates ∷ []) table
unfolding course_open
sees_answers = refl

-- a view that showed the third sub-share would differ: of register 0 after the first deal
pub shares_differ : lacked_shares p1 first_job first_tapes ≡ lacked_shares p1 second_job (with_hidden p1 image) → ⊥
unfolding course_open image
shares_differ e = eqb-false _ _ refl (ap (at 0 0) e)

-- so would one that showed the third channel: its word of the multiplication
pub channels_differ : lacked_channels p1 first_job first_tapes ≡ lacked_channels p1 second_job (with_hidden p1 image) → ⊥
unfolding course_open image
channels_differ e = eqb-false _ _ refl (ap (at 5 1) e)

-- the run of first_job with the other mask tape 0
abbrev otherwise : Tapes
otherwise = with_hidden p1 (record { dealer = first_tapes.dealer; lacked = other })

-- without the words received party 1 could not tell it from the run with its own
pub same_but_received : map without_received (views p1 first_job first_tapes) ≡ map without_received (views p1 first_job otherwise)
unfolding course_open other
same_but_received = refl

-- with them it can: at the word that is another
pub received_tells : views p1 first_job first_tapes ≡ views p1 first_job otherwise → ⊥
unfolding course_open other
received_tells e = eqb-false _ _ refl (ap (λ (vs : List (View Seen)). at told_after told_word (map (λ (v : View Seen). v.receives) vs)) e)
