-- What one party sees of any list of gates (specs/Theorems.antt).
use Prim.Native.Nat.{ℕ, zero, suc, ◌<◌}
use mathlib.Core.List.{List, [], ◌∷◌}
use mathlib.Core.Path.{◌≡◌, ap, ap₂, refl, ◌∙◌}
use native.Mathlib.Omega.{arith}
use lib.ListN.{drop, get_or, take}
use Rattle.gate.specs.Gates.{word}
use Rattle.gate.specs.Places.{Pair, Place, held, next, p0, p1, p2, pair, tabled}
use Rattle.gate.proofs.PlaceLaw.{gated-at, tabled-at, tabled_is}
use Rattle.gate.proofs.Theorems.{item_of_word, items_fit, word_of_item}
use Rattle.circuit.specs.Circuits.{Gate, after, ends, heads, sent, tails, words}
use Rattle.circuit.proofs.RunLaw.{words_below}
use Rattle.view.specs.Theorems.{EndsLocal, ItemsFit, ItemsOfWords, SentCausal, SentLocal, WordsFit, WordsOfItems}
use Rattle.view.specs.Views.{around, decode, encode, first, held_states, lacked_item, more, none, own_after, own_ends, own_sent, own_word}
use Rattle.view.proofs.AroundLaw.{around-far, around_lacked}
use Rattle.view.proofs.TakeLaw.{first_of_take, rest_of_take}

-- U's word is its own
own-word_is : {S : Type 0} (U : Place) (g : Gate S) (s : Place → S) (t : Place → ℕ)
    → words g s t U ≡ own_word U g (held_states U s) (t U) (t (next U))
unfolding words
own-word_is U g s t =
    gated-at g.modulus (tabled (λ i. g.left i (s i))) (tabled (λ i. g.right i (s i))) t U
    ∙ rw (tabled_is (λ i. g.left i (s i)), tabled_is (λ i. g.right i (s i)))

own_turn : (S : Type 0) (U : Place) (g : Gate S) (s : Place → S) (T : Place → List ℕ)
    → words g s (heads T) U ≡ own_word U g (held_states U s) (first (T U)) (first (T (next U)))
own_turn S U g s T =
    own-word_is U g s (heads T)
    ∙ rw (tabled-at (λ i. get_or (T i) 0 0) U, tabled-at (λ i. get_or (T i) 0 0) (next U))

own-after_is : {S : Type 0} (U : Place) (g : Gate S) (s : Place → S) (z : Place → ℕ)
    → held_states U (after g s z) ≡ own_after U g (held_states U s) (z U) (z (next U))
unfolding after
own-after_is U g s z = rw (tabled_is (λ i. g.absorb i (s i) (z i)))

-- one turn: U's new states, from its own word and the word received
turn : (S : Type 0) (U : Place) (g : Gate S) (s : Place → S) (T : Place → List ℕ)
    → held_states U (after g s (words g s (heads T)))
    ≡ own_after U g (held_states U s) (own_word U g (held_states U s) (first (T U)) (first (T (next U)))) (words g s (heads T) (next U))
turn S U g s T =
    own-after_is U g s (words g s (heads T))
    ∙ ap (λ (w : ℕ). own_after U g (held_states U s) w (words g s (heads T) (next U))) (own_turn S U g s T)

pub ends-local : EndsLocal
unfolding ends own_ends sent
ends-local S U [] s T = refl
ends-local S U (g ∷ G) s T =
    ends-local S U G (after g s (words g s (heads T))) (tails T)
    ∙ rw (turn S U g s T, tabled-at (λ i. drop 1 (T i)) U, tabled-at (λ i. drop 1 (T i)) (next U))

pub sent-local : SentLocal
unfolding ends own_sent sent
sent-local S U [] s T = refl
sent-local S U (g ∷ G) s T =
    ap₂ ◌∷◌ (own_turn S U g s T)
    (sent-local S U G (after g s (words g s (heads T))) (tails T)
    ∙ rw (turn S U g s T, tabled-at (λ i. drop 1 (T i)) U, tabled-at (λ i. drop 1 (T i)) (next U)))

-- with no word received the first gate's word alone is taken; a word received goes into the states of the gates after it
pub sent_causal : SentCausal
unfolding own_sent
sent_causal S U [] h t t' W W' k e = refl
sent_causal S U (g ∷ G) h t t' W W' zero e = refl
sent_causal S U (g ∷ G) h t t' W W' (suc k) e =
    let w = own_word U g h (first t) (first t') in
    ap (λ l. w ∷ l)
    (sent_causal S U G (own_after U g h w (first W)) (drop 1 t) (drop 1 t') (drop 1 W) (drop 1 W') k (rest_of_take k W W' e)
    ∙ ap (λ z. take (suc k) (own_sent U G (own_after U g h w z) (drop 1 t) (drop 1 t') (drop 1 W'))) (first_of_take k W W' e))

-- the first items and the others, seen from U
heads-around : (U : Place) (t t' M : List ℕ) → heads (around U t t' M) ≡ around U (first t) (first t') (first M)
heads-around p0 t t' M = refl
heads-around p1 t t' M = refl
heads-around p2 t t' M = refl

tails-around : (U : Place) (t t' M : List ℕ) → tails (around U t t' M) ≡ around U (drop 1 t) (drop 1 t') (drop 1 M)
tails-around p0 t t' M = refl
tails-around p1 t t' M = refl
tails-around p2 t t' M = refl

module _ (S : Type 0) (U : Place) where
  -- the factors that make the word which U receives
  abbrev lefts : Gate S → (Place → S) → Pair
  lefts g s = held (tabled (λ i. g.left i (s i))) (next U)

  abbrev rights : Gate S → (Place → S) → Pair
  rights g s = held (tabled (λ i. g.right i (s i))) (next U)

  -- the word received, with the item that U lacks
  received_is : (g : Gate S) (s : Place → S) (a b x : ℕ)
      → words g s (around U a b x) (next U) ≡ word g.modulus (lefts g s) (rights g s) (pair b x)
  unfolding words
  received_is g s a b x =
      gated-at g.modulus (tabled (λ i. g.left i (s i))) (tabled (λ i. g.right i (s i))) (around U a b x) (next U)
      ∙ rw (around-far U a b x, around_lacked U a b x)

  item_back : (g : Gate S) (s : Place → S) (a b x : ℕ) → x < g.modulus
      → lacked_item U g s b (words g s (around U a b x) (next U)) ≡ x
  unfolding lacked_item
  item_back g s a b x h = rw (received_is g s a b x) (item_of_word g.modulus (omega arith) (lefts g s) (rights g s) b x h)

  word_back : (g : Gate S) (s : Place → S) (a b z : ℕ) → z < g.modulus
      → words g s (around U a b (lacked_item U g s b z)) (next U) ≡ z
  unfolding lacked_item
  word_back g s a b z h =
      received_is g s a b (lacked_item U g s b z) ∙ word_of_item g.modulus (omega arith) (lefts g s) (rights g s) b z h

  lacked_lt : (g : Gate S) (s : Place → S) (b z : ℕ) → z < g.modulus → lacked_item U g s b z < g.modulus
  unfolding lacked_item
  lacked_lt g s b z h = items_fit g.modulus (omega arith) (lefts g s) (rights g s) b z

  -- one gate of an encoded list
  encode_more : (g : Gate S) (G : List (Gate S)) (s : Place → S) (t t' M : List ℕ)
      → encode U (g ∷ G) s t t' M
      ≡ words g s (around U (first t) (first t') (first M)) (next U)
      ∷ encode U G (after g s (words g s (around U (first t) (first t') (first M)))) (drop 1 t) (drop 1 t') (drop 1 M)
  unfolding encode sent
  encode_more g G s t t' M = rw (heads-around U t t' M, tails-around U t t' M)

pub items_of_words : ItemsOfWords
unfolding decode
items_of_words S U [] s t t' M none = refl
items_of_words S U (g ∷ G) s t t' M (more {x = x} {xs = xs} h fs) =
    rw (encode_more S U g G s t t' (x ∷ xs), item_back S U g s (first t) (first t') x h)
    (ap (λ l. x ∷ l) (items_of_words S U G (after g s (words g s (around U (first t) (first t') x))) (drop 1 t) (drop 1 t') xs fs))

pub words_of_items : WordsOfItems
unfolding decode encode sent
words_of_items S U [] s t t' W none = refl
words_of_items S U (g ∷ G) s t t' W (more {x = z} {xs = zs} h fs) =
    let x = lacked_item U g s (first t') z in
    encode_more S U g G s t t' _
    ∙ ap₂ ◌∷◌ (word_back S U g s (first t) (first t') z h)
    (words_of_items S U G (after g s (words g s (around U (first t) (first t') x))) (drop 1 t) (drop 1 t') zs fs)

pub words_fit_gates : WordsFit
unfolding encode sent
words_fit_gates S U [] s t t' M none = none
words_fit_gates S U (g ∷ G) s t t' M (more {x = x} {xs = xs} h fs) =
    rw (encode_more S U g G s t t' (x ∷ xs))
    (more (words_below g (omega arith) s (around U (first t) (first t') x) (next U))
    (words_fit_gates S U G (after g s (words g s (around U (first t) (first t') x))) (drop 1 t) (drop 1 t') xs fs))

pub items_fit_gates : ItemsFit
unfolding decode
items_fit_gates S U [] s t t' W none = none
items_fit_gates S U (g ∷ G) s t t' W (more {x = z} {xs = zs} h fs) =
    let x = lacked_item U g s (first t') z in
    more (lacked_lt S U g s (first t') z h)
    (items_fit_gates S U G (after g s (words g s (around U (first t) (first t') x))) (drop 1 t) (drop 1 t') zs fs)
