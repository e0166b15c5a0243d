-- A chunk of input is its lines, one after the other.
use Prim.Native.Nat.{ℕ, suc, ◌≤◌, ◌<◌}
use mathlib.Core.Bool.{false, true}
use mathlib.Core.List.{List, [], ◌∷◌, ◌++◌}
use mathlib.Core.Path.{◌≡◌, ap, refl, ◌∙◌}
use native.Mathlib.Omega.{arith}
use lib.Dec.{eqb}
use lib.ListN.{drop, drop_of_length-le, length}
use Rattle.line.specs.Lines.{line_in}
use Rattle.line.specs.Readings.{byte_on, read_on}
use Rattle.line.proofs.FieldLaw.{split}
use Rattle.session.specs.Standings.{Standing, after_bytes, after_end, printed_at, printed_by, read_to}

-- bytes from one standing on come to the same as others from another on
abbrev Same : Standing → List ℕ → Standing → List ℕ → Type 0
Same w xs v ys = (printed_by w xs ≡ printed_by v ys) × (after_bytes w xs ≡ after_bytes v ys)

-- a line with the standing behind its bytes, and what comes after them
abbrev pub read_line : Standing → List ℕ → Standing
read_line w l = read_to w (read_on w.reading l)

module _ (b : ℕ) (bs : List ℕ) where
  ended : eqb b 10 ≡ true → line_in (b ∷ bs) ≡ []
  unfolding line_in
  ended e = rw e refl

  longer : eqb b 10 ≡ false → line_in (b ∷ bs) ≡ b ∷ line_in bs
  unfolding line_in
  longer e = rw e refl

  byte_read : (w : Standing) → eqb b 10 ≡ false → Same w (b ∷ bs) (read_to w (byte_on w.reading b)) bs
  unfolding printed_by after_bytes
  byte_read w e = rw e (refl, refl)

line_read : (w : Standing) (xs : List ℕ) → Same w xs (read_line w (line_in xs)) (drop (length (line_in xs)) xs)
unfolding line_in
line_read w [] = (refl, refl)
line_read w (b ∷ bs) = go (line_read (read_to w (byte_on w.reading b)) bs)
  where
    go : Same (read_to w (byte_on w.reading b)) bs (read_line (read_to w (byte_on w.reading b)) (line_in bs)) (drop (length (line_in bs)) bs)
        → Same w (b ∷ bs) (read_line w (line_in (b ∷ bs))) (drop (length (line_in (b ∷ bs))) (b ∷ bs))
    go ih =
        split (eqb b 10) (λ e. rw (ended b bs e) (refl, refl))
        (λ e. rw (longer b bs e) ((byte_read b bs w e).0 ∙ ih.0, (byte_read b bs w e).1 ∙ ih.1))

-- where the line ends in the chunk, byte 10 comes next
line-ends : (xs : List ℕ) → length (line_in xs) < length xs → drop (length (line_in xs)) xs ≡ 10 ∷ drop (suc (length (line_in xs))) xs
unfolding line_in
line-ends [] h = absurd (omega arith)
line-ends (b ∷ bs) h = grind (arith, line-ends bs)

-- a line that ends in the chunk, and what it prints
pub line_closed : (w : Standing) (xs : List ℕ) → length (line_in xs) < length xs
    → let v = read_line w (line_in xs) in
    (printed_by w xs ≡ printed_at v ++ printed_by (after_end v) (drop (suc (length (line_in xs))) xs))
    × (after_bytes w xs ≡ after_bytes (after_end v) (drop (suc (length (line_in xs))) xs))
unfolding printed_by after_bytes
line_closed w xs h =
    let v = read_line w (line_in xs) in
    let read = line_read w xs in
    (read.0 ∙ ap (printed_by v) (line-ends xs h), read.1 ∙ ap (after_bytes v) (line-ends xs h))

-- one that does not
pub line_open : (w : Standing) (xs : List ℕ) → length xs ≤ length (line_in xs)
    → (printed_by w xs ≡ []) × (after_bytes w xs ≡ read_line w (line_in xs))
unfolding printed_by after_bytes
line_open w xs h =
    let read = line_read w xs in
    let v = read_line w (line_in xs) in
    let over = drop_of_length-le xs h in
    (read.0 ∙ ap (printed_by v) over, read.1 ∙ ap (after_bytes v) over)

pub line-within : (xs : List ℕ) → length (line_in xs) ≤ length xs
unfolding line_in
line-within [] = omega arith
line-within (b ∷ bs) = grind (arith, line-within bs)
