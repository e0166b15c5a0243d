-- The loop over the chunks of an input.
use Prim.Native.Nat.{ℕ, zero, suc, ◌+◌, ◌≤◌, ◌<◌}
use mathlib.Core.Bool.{false, true}
use mathlib.Core.List.{List, [], ◌∷◌, ◌++◌, append_assoc, append-nil, flatten}
use mathlib.Core.Logic.{inl}
use mathlib.Core.Path.{◌≡◌, ap, ◌∙◌}
use native.Mathlib.Omega.{arith}
use lib.ListN.{length, length-append, length-take}
use Rattle.std.specs.Prelude.{Err, Ok}
use Rattle.session.specs.Standings.{Standing, after_bytes, begun}
use Rattle.survey.specs.Chunks.{Answered, Chunks, Reached, bytes_read, goes_on, next, none}

-- between two turns: no chunk was read yet, or the last one has another behind it, and each so far took a byte
pub data Reading (v : Standing) (got : Answered) (buf : List ℕ) (turns : ℕ) : Type 0 where
  first : v ≡ begun → turns ≡ 0 → Reading v got buf turns
  later : (chunks : List (List ℕ)) (w : Standing) → Chunks chunks w → v ≡ after_bytes w (bytes_read got buf) → 0 < length buf
      → goes_on got v.lines ≡ true → turns ≤ length (flatten chunks) + 1 → Reading v got buf turns

-- all chunks so far
pub record Going (v : Standing) (turns : ℕ) : Type 0 where
  pub chunks : List (List ℕ)
  pub reads : Chunks chunks v
  pub bytes : turns ≤ length (flatten chunks)

pub flatten_last : (chunks : List (List ℕ)) (last : List ℕ) → flatten (chunks ++ (last ∷ [])) ≡ flatten chunks ++ last
unfolding flatten
flatten_last [] last = append-nil last
flatten_last (c ∷ cs) last = grind (arith, flatten_last cs last, append_assoc)

length_last : (chunks : List (List ℕ)) (last : List ℕ) → length (flatten (chunks ++ (last ∷ []))) ≡ length (flatten chunks) + length last
length_last chunks last = ap length (flatten_last chunks last) ∙ length-append (flatten chunks) last

-- a read that brings bytes into a buffer brings one at least
some_read : (got : Answered) (lines : ℕ) (buf : List ℕ) → 0 < length buf → goes_on got lines ≡ true → 0 < length (bytes_read got buf)
some_read (Ok zero) lines buf h goes = grind (arith, goes)
some_read (Ok (suc n)) lines buf h goes = omega (arith, length-take (suc n) buf)
some_read (Err f) lines buf h goes = grind (arith, goes)

pub going : {v : Standing} {got : Answered} {buf : List ℕ} {turns : ℕ} → Reading v got buf turns → Going v turns
unfolding flatten
going (first e none_yet) = record { chunks = []; reads = rw e none; bytes = omega (arith, none_yet) }
going {v} {got} {buf} (later cs w reads after room goes bytes) =
    record {
      chunks = cs ++ (bytes_read got buf ∷ []);
      reads = rw after (next got buf reads (rw after at goes));
      bytes = omega (arith, length_last cs (bytes_read got buf), bytes, some_read got v.lines buf room goes);
    }

-- one more chunk: the last one, or one with another behind it
module _ {v u : Standing} {got : Answered} {buf : List ℕ} {turns : ℕ} (g : Going v turns) (after : u ≡ after_bytes v (bytes_read got buf)) where
  pub over : goes_on got u.lines ≡ false → Reached u got buf
  over stops = record { chunks = g.chunks; before = v; reads = g.reads; after = after; ended = inl stops }

  pub onward : 0 < length buf → goes_on got u.lines ≡ true → Reading u got buf (turns + 1)
  onward room goes = later g.chunks v g.reads after room goes (omega (arith, g.bytes))
