-- Words written one behind the other.
use Prim.Native.Nat.{ℕ, zero, suc, ◌+◌, ◌-◌, ◌*◌, ◌/◌, ◌≤◌, ◌<◌}
use mathlib.Core.Path.{◌≡◌, refl, ap, sym, ◌∙◌}
use mathlib.Core.List.{List, [], ◌∷◌, ◌++◌, append_assoc}
use native.Mathlib.Nat.{sub-zero}
use native.Mathlib.Numerals.{add-one}
use native.Mathlib.Omega.{arith}
use lib.ListN.{drop, get_or, length, length-append, length-set, set, take}
use lib.Seq.{drop-cons, drop-drop, set_at, take_at}
use Rattle.std.proofs.lemmas.List.{get_or-drop, get_or-take}
use Rattle.std.specs.Int.{from_le_bytes, w64}
use Rattle.std.specs.Simd.{first_chunks}
use Rattle.drawing.specs.Raws.{raw_words, word_at}

words-length : (k : ℕ) (raw : List ℕ) → length (raw_words k raw) ≡ k
unfolding raw_words
words-length zero raw = refl
words-length (suc k) raw = rw (length-append, words-length k raw, add-one)

-- k words of the raw bytes stand in the run
pub record Worded (raw start : List ℕ) (n : ℕ) (words : List ℕ) (k : ℕ) : Type 0 where
  pub few : k ≤ n
  pub long : length words ≡ length start
  pub same : words ≡ raw_words k raw ++ drop k start

pub one_word : {raw start words : List ℕ} {n k v : ℕ} → Worded raw start n words k → k < n → n ≤ length start → v ≡ word_at raw (8 * k)
    → Worded raw start n (set words k v) (k + 1)
unfolding raw_words
one_word {raw} {start} {words} {n} {k} {v} w more room is =
    let inside : k < length start = omega arith in
    let grown : raw_words (k + 1) raw ≡ raw_words k raw ++ (v ∷ []) =
    ap (λ (m : ℕ). raw_words m raw) (add-one k) ∙ ap (λ (x : ℕ). raw_words k raw ++ (x ∷ [])) (sym is) in
    record {
      few = omega arith;
      long = rw length-set w.long;
      same = rw (w.same, grown, drop-cons start k 0 inside, set_at _ _ _ _ k (words-length k raw), append_assoc, add-one k);
    }

-- chunks of eight bytes
chunk_at : (raw : List ℕ) (k i : ℕ) (d : List ℕ) → i < k → get_or (first_chunks 8 k raw) i d ≡ take 8 (drop (8 * i) raw)
chunk_at raw zero i d h = absurd (omega arith)
chunk_at raw (suc k) zero d h = refl
chunk_at raw (suc k) (suc i) d h =
    let next : 8 + 8 * i ≡ 8 * suc i = omega arith in
    rw (chunk_at (drop 8 raw) k i d (omega arith), drop-drop (8 * i) 8 raw, next)

module _ (raw : List ℕ) (at : ℕ) where
  byte_at : (j n : ℕ) → j < 8 → n ≡ at + j → get_or (take 8 (drop at raw)) j 0 ≡ get_or raw n 0
  byte_at j n h is = rw (get_or-take, get_or-drop, is)

  chunk_word : from_le_bytes w64 (take 8 (drop at raw)) ≡ word_at raw at
  chunk_word =
      omega (
        arith,
        byte_at 0 at (omega arith) (omega arith),
        byte_at 1 (at + 1) (omega arith) (omega arith),
        byte_at 2 (at + 2) (omega arith) (omega arith),
        byte_at 3 (at + 3) (omega arith) (omega arith),
        byte_at 4 (at + 4) (omega arith) (omega arith),
        byte_at 5 (at + 4 + 1) (omega arith) (omega arith),
        byte_at 6 (at + 4 + 2) (omega arith) (omega arith),
        byte_at 7 (at + 4 + 3) (omega arith) (omega arith),
      )

pub word_is : (raw : List ℕ) (chunks : List (List ℕ)) (k i : ℕ) (d : List ℕ) {v : ℕ} → chunks ≡ first_chunks 8 k raw → i < k
    → v ≡ from_le_bytes w64 (get_or chunks i d) → v ≡ word_at raw (8 * i)
word_is raw chunks k i d is h e = e ∙ rw (is, chunk_at raw k i d h) (chunk_word raw (8 * i))

-- the words lent
pub words-lent : (raw start words : List ℕ) (k : ℕ) → k ≡ length raw / 8 → words ≡ raw_words k raw ++ drop k start
    → take (k - 0) words ≡ raw_words (length raw / 8) raw
words-lent raw start words k is same =
    rw (sub-zero, same) (take_at (raw_words k raw) (drop k start) k (words-length k raw)) ∙ ap (λ (m : ℕ). raw_words m raw) is
