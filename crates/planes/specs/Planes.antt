-- 64 words by planes: plane j has bit j of each word, bit k being word k's, of one place or of three at once. Used by the code's contracts alone: no theorem's statement speaks of it.
use Rattle.std.specs.Prelude.{ℕ, ◌+◌, ◌*◌, ◌/◌, ◌%◌, ◌<◌, ◌≤◌, ◌^◌, List, ◌≡◌, get_or, length, set}
use Rattle.std.specs.Int.Bits.{bit_xor}
use Rattle.ring.specs.Rings.{bit_of}
use Rattle.gate.specs.declared.sharing.Sharing.{Sharing}
use Rattle.circuit.specs.Bits.{gather}
use Rattle.circuit.specs.Sharings.{zeros}
use Rattle.decompose.specs.Turns.{majority_words}
use Rattle.decompose.specs.Words.{bits_at}
use Rattle.planes.specs.declared.places.Planes.{Planes}

-- the planes y are those of 64 words: word k is v k
pub record PlanesOf (v : ℕ → ℕ) (y : List ℕ) : Type 0 where
  pub at : (k : ℕ) → k < 64 → gather 64 (λ j. bit_of (get_or y j 0) k) ≡ v k

-- 4 a modulo p of each number of a run
abbrev pub four_times_at : ℕ → List ℕ → ℕ → ℕ
four_times_at p a k = 4 * get_or a k 0 % p

-- word k of a run
abbrev pub words_at : List ℕ → ℕ → ℕ
words_at z k = get_or z k 0

-- 64 numbers below m
pub record AllBelow (m : ℕ) (a : List ℕ) : Type 0 where
  pub at : (k : ℕ) → k < 64 → get_or a k 0 < m

-- 64 figures below m
pub record Figures (m : ℕ) (a : List ℕ) : Type 0 where
  pub long : length a ≡ 64
  pub below : AllBelow m a

-- no word has a bit from e on
pub record NoneFrom (e : ℕ) (o : List ℕ) : Type 0 where
  pub at : (j : ℕ) → e ≤ j → j < 64 → get_or o j 0 ≡ 0

-- the first n words of z are those of o
pub record Copied (n : ℕ) (o z : List ℕ) : Type 0 where
  pub at : (k : ℕ) → k < n → get_or z k 0 ≡ get_or o k 0

-- n rows that held two words each, split: the low half stays, the high half goes 32 rows further
pub record Split (n : ℕ) (before after : List ℕ) : Type 0 where
  pub low : (k : ℕ) → k < n → get_or after k 0 ≡ get_or before k 0 % 2 ^ 32
  pub high : (k : ℕ) → k < n → get_or after (32 + k) 0 ≡ get_or before k 0 / 2 ^ 32

-- plane j of the three places, and the planes with those at j stored
abbrev pub planes_at : ℕ → Planes → Sharing
planes_at j q = record { s0 = get_or q.p0 j 0; s1 = get_or q.p1 j 0; s2 = get_or q.p2 j 0 }

abbrev pub with_planes : Planes → ℕ → Sharing → Planes
with_planes q j w = record { p0 = set q.p0 j w.s0; p1 = set q.p1 j w.s1; p2 = set q.p2 j w.s2 }

-- figure k's words, from the first n planes
abbrev pub columns : ℕ → Planes → ℕ → Sharing
columns n q k =
    record {
      s0 = gather n (λ j. bit_of (get_or q.p0 j 0) k);
      s1 = gather n (λ j. bit_of (get_or q.p1 j 0) k);
      s2 = gather n (λ j. bit_of (get_or q.p2 j 0) k);
    }

-- the planes x are those of 64 figures: figure k is v k
pub record Loaded (v : ℕ → Sharing) (x : Planes) : Type 0 where
  pub at : (k : ℕ) → k < 64 → columns 64 x k ≡ v k

-- planes from e on are 0
pub record NoPlanes (e : ℕ) (o : Planes) : Type 0 where
  pub at : (j : ℕ) → e ≤ j → j < 64 → planes_at j o ≡ zeros

-- the first n planes stand, and those from n on are 0
pub record Cleared (n : ℕ) (before after : Planes) : Type 0 where
  pub stand : (j : ℕ) → j < n → planes_at j after ≡ planes_at j before
  pub none : NoPlanes n after

-- 64 planes of each place
pub record Whole (q : Planes) : Type 0 where
  pub zero : length q.p0 ≡ 64
  pub one : length q.p1 ≡ 64
  pub two : length q.p2 ≡ 64

-- XOR of words, place by place
abbrev pub words_xor : Sharing → Sharing → Sharing
words_xor a b = record { s0 = bit_xor a.s0 b.s0; s1 = bit_xor a.s1 b.s1; s2 = bit_xor a.s2 b.s2 }

-- for each figure, z is what the majority of x, y and c sends
pub record MajorityWords (x y c t z : Sharing) : Type 0 where
  pub at : (k : ℕ) → bits_at z k ≡ majority_words (bits_at x k) (bits_at y k) (bits_at c k) (bits_at t k)
