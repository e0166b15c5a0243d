-- What the inner functions promise, said by the definition of a filling.
-- Used by the code's contracts alone: no theorem's statement speaks of it.
use Rattle.std.specs.Prelude.{ℕ, suc, ◌≡◌, Bool, true, false, List, drop, Some, None, Option}
use Rattle.tape.specs.declared.draws.Draw.{Draw}
use Rattle.tape.specs.Tapes.{Filled, filled, fill, short, taken}

-- the item of a draw, and n more from the next raw word on
abbrev pub onward : Option Draw → ℕ → ℕ → ℕ → List ℕ → Filled
onward (Some d) e limit n raw = taken d.item (fill e limit n d.next (drop d.next raw))
onward None e limit n raw = short

-- r is the draw at raw word `at`: n + 1 items from there on are its item and n more
pub record Drew (e limit at : ℕ) (raw : List ℕ) (r : Option Draw) : Type 0 where
  pub goes : (n : ℕ) → fill e limit (suc n) at (drop at raw) ≡ onward r e limit n raw

-- the raw words suffice
unfoldable pub suffices : Filled → Bool
suffices (filled xs used) = true
suffices short = false
