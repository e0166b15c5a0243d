-- Facts about lines, for all bytes and numbers. Proofs: proofs/Theorems.antt.
use Rattle.std.specs.Prelude.{ℕ, suc, ◌≤◌, ◌<◌, ◌^◌, false, true, List, [], ◌∷◌, ◌++◌, ◌≡◌, drop, get_or, length, replicate, Some}
use Rattle.machine.specs.declared.orders.Order.TheVariants as order
use Rattle.line.specs.Lines.{command_of, line_in, lines_of, number_of}
use Rattle.line.specs.Printed.{decimal, printed}
use Rattle.line.specs.Readings.{command_in, read, read_on}
use Rattle.line.specs.declared.commands.Command.{Command}
use Rattle.line.specs.declared.commands.Command.TheVariants.{Dealer, Masks, Order, Unreadable}
use Rattle.line.specs.declared.readings.Reading.{Reading}

-- read byte by byte, a line says what its fields say
abbrev pub Reads : Type 0
Reads = (bs : List ℕ) → command_in (read bs) ≡ command_of bs

-- a line may come in chunks
abbrev pub InChunks : Type 0
InChunks = (r : Reading) (xs ys : List ℕ) → read_on r (xs ++ ys) ≡ read_on (read_on r xs) ys

-- a line is there once a byte of it was seen
abbrev pub SeenAny : Type 0
SeenAny = ((read []).seen ≡ false) × ((b : ℕ) (bs : List ℕ) → (read (b ∷ bs)).seen ≡ true)

-- "A line ends at byte 10 or at the end of input": the first line, and the lines behind its end
abbrev pub FirstLine : Type 0
FirstLine = (b : ℕ) (bs : List ℕ)
    → lines_of (b ∷ bs) ≡ line_in (b ∷ bs) ∷ lines_of (drop (suc (length (line_in (b ∷ bs)))) (b ∷ bs))

-- a line that ends in a chunk, and one that goes on in the next
abbrev pub LineInChunks : Type 0
LineInChunks = (xs ys : List ℕ)
    → (length (line_in xs) < length xs → line_in (xs ++ ys) ≡ line_in xs)
    × (length (line_in xs) ≡ length xs → line_in (xs ++ ys) ≡ xs ++ line_in ys)

-- a number printed reads back
abbrev pub ReadsBack : Type 0
ReadsBack = (n : ℕ) → n < 2 ^ 64 → number_of (decimal n) ≡ Some n

-- it has 1 to 20 digits
abbrev pub AtMost20 : Type 0
AtMost20 = (n : ℕ) → n < 2 ^ 64 → (1 ≤ length (decimal n)) × (length (decimal n) ≤ 20)

-- and no zero in front
abbrev pub NoLeadingZero : Type 0
NoLeadingZero = (n : ℕ) → 1 ≤ n → 49 ≤ get_or (decimal n) 0 0

-- no "number of 2^64 or more": the items of a tape line are 64-bit words
abbrev pub ItemsFit : Command → Type 0
ItemsFit (Masks t₀ t₁ t₂) = (t₀ < 2 ^ 64) × (t₁ < 2 ^ 64) × (t₂ < 2 ^ 64)
ItemsFit (Dealer item) = item < 2 ^ 64
ItemsFit (Order o) = Unit {0}
ItemsFit Unreadable = Unit {0}

abbrev pub ItemsBelow : Type 0
ItemsBelow = (bs : List ℕ) → ItemsFit (command_of bs)

-- "1844674407370955161", the digits of 2^64 but for the last
abbrev pub tenths : List ℕ
tenths =
    49 ∷ 56 ∷ 52 ∷ 52 ∷ 54 ∷ 55 ∷ 52 ∷ 52 ∷ 48 ∷ 55 ∷ 51 ∷ 55 ∷ 48 ∷ 57 ∷ 53 ∷ 53 ∷ 49 ∷ 54 ∷ 49 ∷ []

-- 01's example, and the bounds: a last byte 10, an empty line, a comma at the end, 20 digits and 21, 2^64 - 1 and 2^64
abbrev pub Figures : Type 0
Figures =
    (lines_of (49 ∷ 10 ∷ 10 ∷ 50 ∷ []) ≡ (49 ∷ []) ∷ [] ∷ (50 ∷ []) ∷ [])
    × (lines_of (49 ∷ 10 ∷ []) ≡ (49 ∷ []) ∷ [])
    × (command_of [] ≡ Unreadable)
    × (command_of (49 ∷ 48 ∷ 44 ∷ 49 ∷ []) ≡ Dealer 1)
    × (command_of (49 ∷ 44 ∷ 48 ∷ 44 ∷ 49 ∷ 51 ∷ 44 ∷ 53 ∷ []) ≡ Order (order.Deal 0 13 5))
    × (command_of (57 ∷ 44 ∷ 51 ∷ []) ≡ Order (order.Open 3))
    × (command_of (57 ∷ 44 ∷ 51 ∷ 44 ∷ []) ≡ Unreadable)
    × (command_of (57 ∷ 44 ∷ (replicate 19 48 ++ (51 ∷ []))) ≡ Order (order.Open 3))
    × (command_of (57 ∷ 44 ∷ (replicate 20 48 ++ (51 ∷ []))) ≡ Unreadable)
    × (command_of (57 ∷ 44 ∷ (tenths ++ (53 ∷ []))) ≡ Order (order.Open 18_446_744_073_709_551_615))
    × (command_of (57 ∷ 44 ∷ (tenths ++ (54 ∷ []))) ≡ Unreadable)
    × (printed 4 0 5 0 1 ≡ 52 ∷ 44 ∷ 48 ∷ 44 ∷ 53 ∷ 44 ∷ 48 ∷ 44 ∷ 49 ∷ 10 ∷ [])
