-- Products, one index at a time.
use Rattle.std.specs.Prelude.{Some, None, Option}
use Prim.Native.Nat.{ℕ, ◌+◌, ◌≤◌, ◌<◌}
use mathlib.Core.Bool.{Bool, false, true}
use mathlib.Core.Path.{◌≡◌}
use mathlib.Core.List.{List, ◌++◌, append_assoc, append-nil}
use native.Mathlib.Numerals.{add-one}
use lib.ListN.{drop, drop_of_length-le, get_or, length, set, take}
use lib.Seq.{drop-cons, take_all, take-suc-set}
use Rattle.ring.specs.declared.rings.Ring.{Ring}
use Rattle.ring.specs.Rings.{modulus_of, ring_of}
use Rattle.timing.specs.Products.{alike, multiplied, outcome, product, products}

module _ (p : ℕ) (xs ys zs : List ℕ) (i : ℕ) where
  pub one_more : {z : ℕ} → i < length xs → i < length ys → i < length zs → z ≡ product p (get_or xs i 0) (get_or ys i 0)
      → take i zs ++ products p (drop i xs) (drop i ys) ≡ take (i + 1) (set zs i z) ++ products p (drop (i + 1) xs) (drop (i + 1) ys)
  unfolding products
  one_more hx hy hz e = rw (add-one, take-suc-set, drop-cons xs i 0, drop-cons ys i 0, append_assoc, e)

  pub all_done : length xs ≤ i → length zs ≤ i → take i zs ++ products p (drop i xs) (drop i ys) ≡ zs
  unfolding products
  all_done hx hz = rw (drop_of_length-le xs, take_all, append-nil)

module _ (width : ℕ) (xs ys zs : List ℕ) {found : Option Ring} (is : found ≡ ring_of width) where
  pub no_ring_lem : found ≡ None → outcome 0 zs ≡ multiplied width xs ys zs
  unfolding multiplied
  no_ring_lem none = rw (← is, none)

  module _ {r : Ring} {fit : Bool} (named : found ≡ Some r) (test : fit ≡ alike (length xs) (length ys) (length zs)) where
    pub misfit : fit ≡ false → outcome 0 zs ≡ multiplied width xs ys zs
    unfolding multiplied
    misfit said = rw (← is, named, ← test, said)

    pub filled : (ws : List ℕ) → fit ≡ true → length ws ≡ length zs → ws ≡ products (modulus_of r) xs ys
        → outcome (length ws) ws ≡ multiplied width xs ys zs
    unfolding multiplied
    filled ws said same are = rw (← is, named, ← test, said, same, are)
