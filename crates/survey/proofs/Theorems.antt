-- What the program prints (specs/Theorems.antt).
use Prim.Native.Nat.{ℕ, zero, suc, ◌≤◌}
use mathlib.Core.Bool.{false, true}
use mathlib.Core.List.{List, [], ◌∷◌, ◌++◌, append-nil, flatten}
use mathlib.Core.Logic.{◌⊎◌, inl, inr, ⊎_elim}
use mathlib.Core.Path.{◌≡◌, ap, refl, subst, sym, ◌∙◌}
use native.Mathlib.Omega.{arith}
use Rattle.std.specs.Prelude.{Err, Ok}
use Rattle.machine.specs.Registers.{million}
use Rattle.session.specs.Outputs.{output}
use Rattle.session.specs.Standings.{Standing, after_bytes, begun, printed_for}
use Rattle.session.proofs.Theorems.{in_chunks, whole}
use Rattle.survey.specs.Chunks.{Answered, Chunks, able, bytes_read, goes_on, next, none}
use Rattle.survey.specs.Theorems as theorem
use Rattle.survey.proofs.LoopLaw.{flatten_last}

-- where the bytes of chunks leave a job
after_last : (chunks : List (List ℕ)) (last : List ℕ) {w : Standing} → w ≡ after_bytes begun (flatten chunks)
    → after_bytes w last ≡ after_bytes begun (flatten (chunks ++ (last ∷ [])))
after_last chunks last e =
    ap (λ (v : Standing). after_bytes v last) e ∙ sym (in_chunks begun (flatten chunks) last).1 ∙ ap (after_bytes begun) (sym (flatten_last chunks last))

after_chunks : {chunks : List (List ℕ)} {w : Standing} → Chunks chunks w → w ≡ after_bytes begun (flatten chunks)
unfolding flatten after_bytes
after_chunks none = refl
after_chunks (next {cs = cs} got buf reads goes) = after_last cs (bytes_read got buf) (after_chunks reads)

-- no other chunk behind one that could be read: its read answered 0, or line 1,000,000 has ended
last-read : (got : Answered) (lines : ℕ) → able got ≡ true → goes_on got lines ≡ false → (got ≡ Ok 0) ⊎ (million ≤ lines)
last-read (Ok zero) lines fine over = inl refl
last-read (Ok (suc n)) lines fine over = inr (grind (arith, over))
last-read (Err f) lines fine over = grind (arith, fine)

pub prints : theorem.Prints
prints v got buf rest r over fine ends = ⊎_elim at_end (λ late. (whole all).1 rest (stops late)) (last-read got v.lines fine over)
  where
    all : List (List ℕ)
    all = theorem.chunks_of r

    at_end : got ≡ Ok 0 → printed_for begun all ≡ output (flatten all ++ rest)
    at_end e = rw (ends e, append-nil) (whole all).0

    stops : million ≤ v.lines → million ≤ (after_bytes begun (flatten all)).lines
    stops = subst (λ (u : Standing). million ≤ u.lines) (r.after ∙ after_last r.chunks (bytes_read got buf) (after_chunks r.reads))
