-- Used by the proof of demand 3 alone: no statement speaks of it.
-- How the tapes that party U does not see are changed, act by act: the items that K takes are those which bring U the same words and
-- the same dealt pairs as J's bring it.
use Rattle.std.specs.Prelude.{ℕ, List, [], ◌∷◌, ◌++◌, ◌≡◌, drop}
use Rattle.ring.specs.Modular.{diff}
use Rattle.gate.specs.Places.{Pair, Place, next, p0, p1}
use Rattle.view.specs.Views.{around, decode}
use Rattle.machine.specs.Checks.{Tapes}
use Rattle.act.specs.Acts.{performed}
use Rattle.act.specs.Jobs.{Entry, Outcome, lent, outcome}
use Rattle.act.specs.Lawful.{Sameness, acting}
use Rattle.act.specs.Own.{handed_of}
use Rattle.act.specs.Secrecy.{Hidden, tapes_with}
use Rattle.act.specs.Works.{Shared, Work, begun, deals, evaluates, left_of, opens, words_from}

abbrev pub nothing : Hidden
nothing = record { dealer = []; lacked = [] }

-- the shares that a deal of v makes where U is handed that pair
abbrev pub dealt_around : Place → ℕ → ℕ → Pair → Place → ℕ
dealt_around U p v h = around U h.own h.far (diff p (diff p v h.own) h.far)

-- the hidden items with which an act brings U those words, or that pair
unfoldable pub decoded : {E D : Type 0} → Place → Work E D → (Place → D) → (own far received : List ℕ) → Pair → Hidden
decoded U (deals rest p v put) n t t' W h =
    record { dealer = dealt_around U p v h p0 ∷ dealt_around U p v h p1 ∷ []; lacked = [] }
decoded U (evaluates rest R) n t t' W h = record { dealer = []; lacked = decode U R.gates (begun R n) t t' W }
decoded U (opens rest read value) n t t' W h = nothing

-- what is left of the hidden tapes
abbrev pub rest_of : {E D : Type 0} → Shared E D → Hidden → Hidden
rest_of m h = record { dealer = drop m.public.dealer_at h.dealer; lacked = drop m.public.masks_at h.lacked }

abbrev pub before : Hidden → Hidden → Hidden
before a b = record { dealer = a.dealer ++ b.dealer; lacked = a.lacked ++ b.lacked }

module _ {E D : Type 0} {Same : Sameness E D} {s : Shared E D} where
  -- one act of J at m and its partner of K at n, on J's hidden tapes h
  module _ (U : Place) (own far : List ℕ) (h : Hidden) (e f : Entry (acting Same s)) (m n : Shared E D) (c d : Place → List ℕ) where
    abbrev pub outcome_j : Outcome (Shared E D)
    outcome_j = outcome e m (tapes_with U own far h) c

    -- K's act, tested on the same tapes
    abbrev pub outcome_k : Outcome (Shared E D)
    outcome_k = outcome f n (tapes_with U own far h) d

    abbrev pub work_j : Work E D
    work_j = e.act.work m.public

    abbrev pub work_k : Work E D
    work_k = f.act.work n.public

    abbrev pub left_j : Tapes
    left_j = left_of m.public (lent e (tapes_with U own far h))

    -- the items that K takes
    abbrev pub items_k : Hidden
    items_k =
        decoded U work_k n.share (left_j.masks U) (left_j.masks (next U)) (words_from work_j m.share left_j (next U)) (handed_of U work_j left_j)

    -- K's tapes at this act, as far as it takes them
    abbrev pub left_k : Tapes
    left_k = tapes_with U (left_j.masks U) (left_j.masks (next U)) items_k

    abbrev pub next_k : Outcome (Shared E D)
    next_k = performed work_k n left_k d

-- the changed tapes, from the positions on. It stops where the two acts differ in their refusal, or an item is refused.
pub data Changed {E D : Type 0} {Same : Sameness E D} {s : Shared E D} (U : Place) (own far : List ℕ) (h : Hidden)
    : List (Entry (acting Same s)) → List (Entry (acting Same s)) → Shared E D → Shared E D → (Place → List ℕ) → (Place → List ℕ) → Hidden
    → Type 1 where
  end : {m n : Shared E D} {c d : Place → List ℕ} → Changed U own far h [] [] m n c d (rest_of m h)
  differ : {e f : Entry (acting Same s)} {es fs : List (Entry (acting Same s))} {m n : Shared E D} {c d : Place → List ℕ}
      → ((outcome_j U own far h e f m n c d).refusal ≡ (outcome_k U own far h e f m n c d).refusal → ⊥)
      → Changed U own far h (e ∷ es) (f ∷ fs) m n c d (rest_of m h)
  item : {e f : Entry (acting Same s)} {es fs : List (Entry (acting Same s))} {m n : Shared E D} {c d : Place → List ℕ}
      → (outcome_j U own far h e f m n c d).refusal ≡ 10
      → Changed U own far h (e ∷ es) (f ∷ fs) m n c d (rest_of m h)
  skip : {e f : Entry (acting Same s)} {es fs : List (Entry (acting Same s))} {m n : Shared E D} {c d : Place → List ℕ} {out : Hidden}
      → (outcome_j U own far h e f m n c d).refusal ≡ (outcome_k U own far h e f m n c d).refusal
      → ((outcome_j U own far h e f m n c d).refusal ≡ 10 → ⊥)
      → ((outcome_j U own far h e f m n c d).refusal ≡ 0 → ⊥)
      → Changed U own far h es fs m n c d out
      → Changed U own far h (e ∷ es) (f ∷ fs) m n c d out
  go : {e f : Entry (acting Same s)} {es fs : List (Entry (acting Same s))} {m n : Shared E D} {c d : Place → List ℕ} {out : Hidden}
      → (outcome_j U own far h e f m n c d).refusal ≡ 0
      → (outcome_k U own far h e f m n c d).refusal ≡ 0
      → Changed U own far h es fs
      (outcome_j U own far h e f m n c d).state (next_k U own far h e f m n c d).state
      (outcome_j U own far h e f m n c d).channels (next_k U own far h e f m n c d).channels out
      → Changed U own far h (e ∷ es) (f ∷ fs) m n c d (before (items_k U own far h e f m n c d) out)
