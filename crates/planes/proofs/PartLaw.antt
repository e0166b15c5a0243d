-- A part that is lent of a run: what it holds, and what the run holds once it is back.
use Prim.Native.Nat.{ℕ, ◌+◌, ◌-◌, ◌<◌, ◌≤◌}
use mathlib.Core.List.{List, ◌++◌}
use mathlib.Core.Path.{◌≡◌, ap, sym, ◌∙◌}
use native.Mathlib.Nat.{min-eq_left}
use borrow.Rule.Slice.PartMut.{drop_put, mid_of, put_mid}
use lib.ListN.{get_or-append, drop, get_or, length, length-take, take}
use lib.Seq.{get_or-append-add, get_or-drop, get_or-take}

pub mid_at : (a n : ℕ) (xs : List ℕ) (j : ℕ) → j < n → get_or (mid_of a n xs) j 0 ≡ get_or xs (a + j) 0
mid_at a n xs j inside = get_or-take n (drop a xs) j 0 inside ∙ get_or-drop a xs j 0

pub put_at : (a n : ℕ) (xs ys : List ℕ) → a ≤ length xs → (j : ℕ) → j < length ys → get_or (put_mid a n xs ys) (a + j) 0 ≡ get_or ys j 0
put_at a n xs ys fits j inside =
    let at : length (take a xs) ≡ a = length-take a xs ∙ min-eq_left fits in
    ap (λ (m : ℕ). get_or (put_mid a n xs ys) (m + j) 0) (sym at)
    ∙ get_or-append-add (take a xs) (ys ++ drop n (drop a xs)) j 0
    ∙ get_or-append ys (drop n (drop a xs)) 0 j inside

pub put_after : (a e : ℕ) (xs ys : List ℕ) → a ≤ e → e ≤ length xs → length ys ≡ e - a → (i : ℕ)
    → get_or (put_mid a (e - a) xs ys) (e + i) 0 ≡ get_or xs (e + i) 0
put_after a e xs ys order fits long i =
    sym (get_or-drop e (put_mid a (e - a) xs ys) i 0)
    ∙ ap (λ (l : List ℕ). get_or l i 0) (drop_put a e xs ys order fits long)
    ∙ get_or-drop e xs i 0
