-- Each fold keeps the number modulo p, and four bring any word below 2p.
use Prim.Native.Nat.{ℕ, ◌%◌}
use mathlib.Core.Path.{◌∙◌, ap}
use native.Mathlib.Omega.{arith}
use Rattle.ring.proofs.FoldLaw.{fold_same, four_folds_lt}
use Rattle.ring.proofs.modular.reduce_word.Goals as goal

pub reduce_once-requires-clause-sum : goal.reduce_once-requires-clause-sum
reduce_once-requires-clause-sum c =
    let a = c.args in
    rw (c.fold-3.ensures, c.fold-2.ensures, c.fold-twice.ensures, c.fold.ensures)
    (four_folds_lt a.e a.p a.s c.requires.modulus c.requires.width.0 (omega arith))

pub returns-clause-is : goal.returns-clause-is
returns-clause-is c =
    let p = c.args.p in
    let is = c.requires.modulus in
    c.reduce_once.ensures.is
    ∙ ap (λ (n : ℕ). n % p) c.fold-3.ensures ∙ fold_same _ _ is
    ∙ ap (λ (n : ℕ). n % p) c.fold-2.ensures ∙ fold_same _ _ is
    ∙ ap (λ (n : ℕ). n % p) c.fold-twice.ensures ∙ fold_same _ _ is
    ∙ ap (λ (n : ℕ). n % p) c.fold.ensures ∙ fold_same _ _ is
