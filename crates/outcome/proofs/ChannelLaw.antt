-- What an accepted order writes on a channel: all else there stays.
use Prim.Native.Nat.{ℕ, ◌+◌, ◌-◌, ◌≤◌, ◌<◌}
use mathlib.Core.Bool.{false}
use mathlib.Core.List.{List, [], ◌∷◌}
use mathlib.Core.Path.{◌≡◌, ap, refl, sym, ◌∙◌}
use native.Mathlib.Omega.{arith}
use lib.Dec.{ltb}
use lib.ListN.{get_or-append, get_or, length, length-append, length-drop, length-take, take}
use lib.Seq.{get_or-append-add, get_or-drop, get_or-take}
use borrow.Author.Tests.{ltb-false}
use Rattle.gate.specs.Places.{Place, p0}
use Rattle.gate.proofs.PlaceLaw.{tabled-at}
use Rattle.circuit.specs.Circuits.{Circuit, channelled, gates_of, starts}
use Rattle.circuit.proofs.RunLaw.{length-sent}
use Rattle.machine.specs.Checks.{Tapes, length_checks, uneven}
use Rattle.machine.specs.Registers.{public_of}
use Rattle.machine.specs.Step.{computed, dealt, lengths_of, opened, opening_word, performed, written}
use Rattle.machine.specs.Work.{Work, adjusts, computes, deals, opens}
use Rattle.machine.specs.declared.registers.Machine.{Machine}
use Rattle.machine.proofs.KindLaw.{neither}
use Rattle.machine.proofs.WrittenLaw.{empty_of, nothing_written}
use Rattle.outcome.specs.Theorems.{words_in}
use Rattle.outcome.proofs.CheckLaw.{Passed}
use Rattle.outcome.proofs.RegisterLaw.{shares_at}
use Rattle.outcome.proofs.WorkLaw.{Light, even}

-- a channel, but for n words from a position on
abbrev pub Stands : (at n : ℕ) (old new : List ℕ) → Type 0
Stands at n old new =
    (length new ≡ length old)
    × ((k : ℕ) → k < at → get_or new k 0 ≡ get_or old k 0)
    × ((k : ℕ) → at + n ≤ k → get_or new k 0 ≡ get_or old k 0)

pub stands : (at n : ℕ) (c : List ℕ) → Stands at n c c
stands at n c = (refl, λ k h. refl, λ k h. refl)

written_stands : (at n : ℕ) (ws c : List ℕ) → length ws ≡ n → at + n ≤ length c → Stands at n c (written at ws c)
written_stands at n ws c long room =
    let head : length (take at c) ≡ at = simp length-take (omega arith) in (
      simp (length-append, length-drop) (omega arith),
      λ k h. get_or-append (take at c) _ 0 k (omega arith) ∙ get_or-take at c k 0 h,
      λ k h.
          let j = k - at - n in
          let here : length (take at c) + (length ws + j) ≡ k = omega arith in
          let there : at + length ws + j ≡ k = omega arith in
          ap (λ (i : ℕ). get_or (written at ws c) i 0) (sym here)
          ∙ get_or-append-add (take at c) _ (length ws + j) 0
          ∙ get_or-append-add ws _ j 0
          ∙ get_or-drop (at + length ws) c j 0
          ∙ ap (λ (i : ℕ). get_or c i 0) there,
    )

module _ (m : Machine) (T left : Tapes) (c : Place → List ℕ) (i : Place) where
  abbrev at : ℕ
  at = m.channels_at

  -- lengths that pass their check: each channel has room for what the first has room for
  room : (n : ℕ) → uneven (lengths_of T c).channels ≡ false → ltb (length (c p0)) (at + n) ≡ false → at + n ≤ length (c i)
  room n h few =
      let same = (even (lengths_of T c).channels h).same i in
      omega (arith, ltb-false (length (c p0)) (at + n) few, tabled-at (λ j. length (c j)) i)

  abbrev words_from : Circuit → (x y : ℕ) → List ℕ
  words_from C x y = channelled C (shares_at m x) (shares_at m y) left.masks i

  length-words : (C : Circuit) (x y : ℕ) → length (words_from C x y) ≡ gates_of C
  unfolding channelled
  length-words C x y = length-sent C.gates (starts C (shares_at m x) (shares_at m y)) left.masks i

  pub channels_kept : (w : Work) → Light w → Passed (length_checks w (public_of m) (lengths_of T c))
      → Stands at (words_in w) (c i) ((performed w m left c).channels i)
  unfolding dealt computed opened
  channels_kept (deals d e v) l h = stands at 0 (c i)
  channels_kept (adjusts C d x y kind) none h =
      rw (
        tabled-at (λ j. written at (channelled C (shares_at m x) (shares_at m y) left.masks j) (c j)) i,
        empty_of (words_from C x y) (length-words C x y ∙ none),
        nothing_written at (c i),
      )
      (stands at (gates_of C) (c i))
  channels_kept (computes C d x y kind) l h =
      rw (tabled-at (λ j. written at (channelled C (shares_at m x) (shares_at m y) left.masks j) (c j)) i)
      (written_stands at (gates_of C) (words_from C x y) (c i) (length-words C x y)
      (room (gates_of C) (neither (uneven (lengths_of T c).masks) _ h.0).1 h.1.1.0))
  channels_kept (opens x) l h =
      rw (tabled-at (λ j. written at (opening_word x m j ∷ []) (c j)) i)
      (written_stands at 1 (opening_word x m i ∷ []) (c i) refl (room 1 h.0 h.1.0))
