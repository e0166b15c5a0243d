-- The gate's laws, for every modulus (specs/Theorems.antt).
use Prim.Native.Nat.{ℕ, ◌+◌, ◌*◌, ◌%◌, ◌<◌}
use mathlib.Core.Path.{◌≡◌, sym, ◌∙◌}
use native.Mathlib.Nat.{mod-lt, zero-mod}
use native.Mathlib.Omega.{arith}
use Rattle.ring.specs.Modular.{Cong, diff}
use Rattle.ring.proofs.CongLaw.{cong_add, cong_below, cong_cancel, cong_mod, cong_mul, cong_of_eq, cong_refl, cong_sym, cong_trans, diff-add, diff-lt, diff_only}
use Rattle.gate.specs.Gates.{crossed, gated, item, mask, unmask, word}
use Rattle.gate.specs.Places.{Pair, Place, held, p0, p1, p2, pair, total}
use Rattle.gate.specs.Theorems.{BitsSame, ItemOfWord, ItemsFit, Masks, MasksCancel, Multiplies, Unmasks, WordOfItem, WordsFit}

masks_cong : (m : ℕ) → 0 < m → (t : Place → ℕ) → Cong m (mask m (held t p0) + mask m (held t p1) + mask m (held t p2)) 0
unfolding mask
masks_cong m h t =
    let d₀ = diff m (t p1) (t p0) in
    let d₁ = diff m (t p2) (t p1) in
    let d₂ = diff m (t p0) (t p2) in
    let s = t p1 + t p2 + t p0 in
    let sums : Cong m ((d₀ + t p0) + (d₁ + t p1) + (d₂ + t p2)) s
    = cong_add (cong_add (diff-add m (t p1) (t p0) h) (diff-add m (t p2) (t p1) h)) (diff-add m (t p0) (t p2) h) in
    let left : d₀ + d₁ + d₂ + s ≡ (d₀ + t p0) + (d₁ + t p1) + (d₂ + t p2) = omega arith in
    let right : s ≡ 0 + s = omega arith in
    cong_cancel s h (cong_trans (cong_of_eq left) (cong_trans sums (cong_of_eq right)))

pub masks_cancel : MasksCancel
masks_cancel m h t = (masks_cong m h t).same ∙ zero-mod m

pub words_fit : WordsFit
unfolding gated word
words_fit m h x y t p0 = mod-lt (crossed (held x p0) (held y p0) + mask m (held t p0)) h
words_fit m h x y t p1 = mod-lt (crossed (held x p1) (held y p1) + mask m (held t p1)) h
words_fit m h x y t p2 = mod-lt (crossed (held x p2) (held y p2) + mask m (held t p2)) h

pub multiplies : Multiplies
unfolding total gated word crossed
multiplies m h x y t =
    let c₀ = crossed (held x p0) (held y p0) in
    let c₁ = crossed (held x p1) (held y p1) in
    let c₂ = crossed (held x p2) (held y p2) in
    let k₀ = mask m (held t p0) in
    let k₁ = mask m (held t p1) in
    let k₂ = mask m (held t p2) in
    let X = x p0 + x p1 + x p2 in
    let Y = y p0 + y p1 + y p2 in
    let words : Cong m ((c₀ + k₀) % m + (c₁ + k₁) % m + (c₂ + k₂) % m) (c₀ + k₀ + (c₁ + k₁) + (c₂ + k₂))
    = cong_add (cong_add (cong_mod m (c₀ + k₀)) (cong_mod m (c₁ + k₁))) (cong_mod m (c₂ + k₂)) in
    let apart : c₀ + k₀ + (c₁ + k₁) + (c₂ + k₂) ≡ c₀ + c₁ + c₂ + (k₀ + k₁ + k₂) = omega arith in
    let product : c₀ + c₁ + c₂ + 0 ≡ X * Y = omega arith in
    let unmasked : Cong m (c₀ + c₁ + c₂ + (k₀ + k₁ + k₂)) (X * Y)
    = cong_trans (cong_add (cong_refl (c₀ + c₁ + c₂)) (masks_cong m h t)) (cong_of_eq product) in
    let reduced : Cong m (X % m * (Y % m)) (X * Y) = cong_mul (cong_mod m X) (cong_mod m Y) in
    (cong_trans words (cong_trans (cong_of_eq apart) (cong_trans unmasked (cong_sym reduced)))).same

pub bits_same : BitsSame
unfolding mask diff
bits_same own far = omega arith

pub unmasks : Unmasks
unfolding mask unmask
unmasks m h own far below = sym (cong_below below (cong_sym (diff-add m far own h)))

pub masks : Masks
unfolding mask unmask
masks m h own d below = sym (diff_only own h below (cong_sym (cong_mod m (d + own))))

mask_lt : (m : ℕ) → 0 < m → (t : Pair) → mask m t < m
unfolding mask
mask_lt m h t = diff-lt m t.far t.own h

pub item_of_word : ItemOfWord
unfolding item word
item_of_word m h x y own far below =
    let k = mask m (pair own far) in
    let swap : k + crossed x y ≡ crossed x y + k = omega arith in
    let bare : k ≡ diff m ((crossed x y + k) % m) (crossed x y)
    = diff_only (crossed x y) h (mask_lt m h (pair own far))
    (cong_trans (cong_of_eq swap) (cong_sym (cong_mod m (crossed x y + k)))) in
    rw (← bare) (unmasks m h own far below)

pub word_of_item : WordOfItem
unfolding item word
word_of_item m h x y own z below =
    let d = diff m z (crossed x y) in
    let swap : d + crossed x y ≡ crossed x y + d = omega arith in
    let whole : z ≡ (crossed x y + d) % m
    = cong_below below (cong_trans (cong_sym (diff-add m z (crossed x y) h)) (cong_of_eq swap)) in
    rw (masks m h own d (diff-lt m z (crossed x y) h)) (sym whole)

pub items_fit : ItemsFit
unfolding item unmask
items_fit m h x y own z = mod-lt (diff m z (crossed x y) + own) h
