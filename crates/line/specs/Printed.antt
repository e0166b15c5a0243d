-- 01, "The job program": the line that is printed for an order.
use Rattle.std.specs.Prelude.{ℕ, zero, suc, ◌+◌, ◌/◌, ◌%◌, cond, List, [], ◌∷◌, ◌++◌, ◌≡◌, ltb, length}
use Rattle.machine.specs.Step.{written}

-- the digits of n, the lowest last, where there are no more than the steps
unfoldable pub decimal_by : (steps n : ℕ) → List ℕ
decimal_by zero n = []
decimal_by (suc k) n = cond (ltb n 10) ((48 + n) ∷ []) (decimal_by k (n / 10) ++ ((48 + n % 10) ∷ []))

-- "All numbers are decimal", and 0 is printed as one digit: no other decimal has a zero in front
unfoldable pub decimal : ℕ → List ℕ
decimal n = decimal_by (suc n) n

-- a decimal, and the byte after it
abbrev pub field : (n end : ℕ) → List ℕ
field n end = decimal n ++ (end ∷ [])

-- bytes written from a place on, where all else stays, and the place after them
pub record Wrote (at : ℕ) (bytes entry exit : List ℕ) (next : ℕ) : Type 0 where
  pub after : next ≡ at + length bytes
  pub run : exit ≡ written at bytes entry

-- "it prints: line number .., refusal or 0, value opened or 0, strand position, wire position": with commas, and byte 10 at the end
unfoldable pub printed : (line refusal value masks_at channels_at : ℕ) → List ℕ
printed line refusal value masks_at channels_at =
    field line 44 ++ (field refusal 44 ++ (field value 44 ++ (field masks_at 44 ++ field channels_at 10)))
