-- 01, "Preparing a tape".
use Rattle.std.specs.Prelude.{ℕ, zero, suc, ◌%◌, ◌^◌, cond, List, [], ◌∷◌, eqb, ltb, length, Some, None, Option, Ok, Err, Result}
use Rattle.ring.specs.declared.rings.Ring.{Ring}
use Rattle.ring.specs.Rings.{modulus_of, ring_of}
use Rattle.ring.specs.Rings as rings
use Rattle.tape.specs.declared.items.Items.{Items}
use Rattle.tape.specs.declared.items.Items.TheVariants.{Bits, Numbers}
use Rattle.tape.specs.declared.tapes.Refused.{Refused}
use Rattle.tape.specs.declared.tapes.Refused.TheVariants.{NoRing, RawEnded}

-- what a ring code asks for: items of `width` bits that lie below `limit`, or nothing
pub data Kind : Type 0 where
  items : (width limit : ℕ) → Kind
  other : Kind

-- "For a ring the low e bits .., all ones being dropped": all ones is p itself
abbrev pub kind_of_ring : Option Ring → Kind
kind_of_ring (Some r) = items (rings.width_of r) (modulus_of r)
kind_of_ring None = other

-- "for bits (ring code 1) the lowest bit": each of the two fits
unfoldable pub kind_of : ℕ → Kind
kind_of code = cond (eqb code 1) (items 1 2) (kind_of_ring (ring_of code))

-- "the low e bits"
unfoldable pub low_bits : ℕ → ℕ → ℕ
low_bits e w = w % 2 ^ e

-- the same, as the code has it
abbrev pub width_of : Items → ℕ
width_of Bits = 1
width_of (Numbers r) = rings.width_of r

abbrev pub limit_of : Items → ℕ
limit_of Bits = 2
limit_of (Numbers r) = modulus_of r

abbrev pub asked : Option Items → Kind
asked (Some i) = items (width_of i) (limit_of i)
asked None = other

-- the items, with the count of raw words used for them; or too few raw words
pub data Filled : Type 0 where
  filled : List ℕ → ℕ → Filled
  short : Filled

-- x before the other items
abbrev pub taken : ℕ → Filled → Filled
taken x (filled xs used) = filled (x ∷ xs) used
taken x short = short

-- n items, where `used` raw words are gone: "drawn again from the next raw word until one fits"
unfoldable pub fill : ℕ → ℕ → ℕ → ℕ → List ℕ → Filled
fill e limit zero used raw = filled [] used
fill e limit (suc n) used [] = short
fill e limit (suc n) used (w ∷ raw) =
    cond (ltb (low_bits e w) limit) (taken (low_bits e w) (fill e limit n (suc used) raw)) (fill e limit (suc n) (suc used) raw)

-- what becomes of a preparation: 01's refusal number or 0, the count, and the run
pub record Outcome : Type 0 where
  pub refusal : ℕ
  pub count : ℕ
  pub run : List ℕ

-- "Either leaves the run unchanged, with count 0"
abbrev pub refused : ℕ → List ℕ → Outcome
refused number run = record { refusal = number; count = 0; run = run }

-- "Accepted: the count of raw words used"; "12 raw words run out"
abbrev pub settled : List ℕ → Filled → Outcome
settled run (filled xs used) = record { refusal = 0; count = used; run = xs }
settled run short = refused 12 run

-- "5 other ring code": also where the run is empty
abbrev pub prepared_as : Kind → List ℕ → List ℕ → Outcome
prepared_as (items e limit) raw run = settled run (fill e limit (length run) 0 raw)
prepared_as other raw run = refused 5 run

-- "from raw 64-bit words fill a lent run"
unfoldable pub prepared : ℕ → List ℕ → List ℕ → Outcome
prepared code raw run = prepared_as (kind_of code) raw run

-- the number of a refusal
abbrev pub number_of : Refused → ℕ
number_of NoRing = 5
number_of RawEnded = 12

-- the number and the count of an answer
abbrev pub refusal_of : Result ℕ Refused → ℕ
refusal_of (Ok used) = 0
refusal_of (Err w) = number_of w

abbrev pub count_of : Result ℕ Refused → ℕ
count_of (Ok used) = used
count_of (Err w) = 0

-- an answer, with the run as it was left
abbrev pub outcome : Result ℕ Refused → List ℕ → Outcome
outcome r run = record { refusal = refusal_of r; count = count_of r; run = run }
