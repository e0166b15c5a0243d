-- The lines printed, read by the job program's definition.
use Rattle.std.specs.Prelude.{Some, None, Option}
use Rattle.ring.specs.declared.rings.Ring.{Ring}
use Prim.Native.Nat.{ℕ, zero, suc, ◌+◌, ◌*◌, ◌<◌, ◌^◌}
use mathlib.Core.Bool.{Bool, true, false, not, ◌&&◌}
use mathlib.Core.List.{List, [], ◌∷◌, ◌++◌, append_assoc, append-nil, map}
use mathlib.Core.Path.{◌≡◌, refl, ◌∙◌}
use native.Mathlib.Omega.{arith}
use borrow.Author.Tests.{leb-true, ltb-false, ltb-true, ne_eqb, not-true}
use lib.Dec.{eqb, leb, ltb}
use lib.ListN.{get_or-eq_default, get_or, length}
use Rattle.line.specs.Lines as job
use Rattle.line.specs.Printed.{decimal}
use Rattle.line.specs.declared.commands.Command.{Command}
use Rattle.line.specs.declared.commands.Command.TheVariants as command
use Rattle.line.proofs.DecimalLaw.{fit_decimal, reads_back}
use Rattle.line.proofs.FieldLaw.{both_true, left_true, right_true, split}
use Rattle.ring.specs.Rings.{modulus_of, ring_of}
use Rattle.ring.proofs.RangeLaw.{modulus-lt}
use Rattle.tape.specs.Tapes.{Kind as Items, items, kind_of, kind_of_ring, other, prepared}
use Rattle.tape.proofs.Theorems.{in_range, same_length}
use Rattle.drawing.specs.Draws.{drawn, drawn_by, items_of}
use Rattle.drawing.specs.Lines.{dealer_line, line_of, lines_of, masks_line}
use Rattle.drawing.specs.Theorems.{ReadAsTapes, command_at, commands_of}
use Rattle.drawing.specs.declared.kinds.Kind.{Kind}
use Rattle.drawing.specs.declared.kinds.Kind.TheVariants.{Dealer, Masks}

-- bytes within a line
unfoldable within : List ℕ → Bool
within [] = true
within (b ∷ bs) = not (eqb b 10) && within bs

within-append : (xs ys : List ℕ) → within xs ≡ true → within ys ≡ true → within (xs ++ ys) ≡ true
unfolding within
within-append [] ys h k = k
within-append (x ∷ xs) ys h k = both_true (left_true (not (eqb x 10)) _ h) (within-append xs ys (right_true (not (eqb x 10)) _ h) k)

digit-other : (b n : ℕ) → n < 48 → job.is_digit b ≡ true → eqb b n ≡ false
digit-other b n small h = ne_eqb b n (λ e. omega (arith, leb-true 48 b (left_true (leb 48 b) _ h)))

digits_within : (f : List ℕ) → job.all_digits f ≡ true → within f ≡ true
unfolding job.all_digits within
digits_within [] h = refl
digits_within (b ∷ f) h =
    rw (digit-other b 10 (omega arith) (left_true (job.is_digit b) _ h)) (digits_within f (right_true (job.is_digit b) _ h))

-- a line of a text, and the fields of a line
line-ends : (l rest : List ℕ) → within l ≡ true → job.lines_of (l ++ (10 ∷ rest)) ≡ l ∷ job.lines_of rest
unfolding within job.lines_of
line-ends [] rest h = refl
line-ends (b ∷ l) rest h =
    rw (not-true (eqb b 10) (left_true (not (eqb b 10)) _ h), line-ends l rest (right_true (not (eqb b 10)) _ h))

field-ends : (part f rest : List ℕ) → job.all_digits f ≡ true
    → job.fields_from part (f ++ (44 ∷ rest)) ≡ (part ++ f) ∷ job.fields_from [] rest
unfolding job.all_digits job.fields_from
field-ends part [] rest h = rw append-nil
field-ends part (b ∷ f) rest h =
    rw (digit-other b 44 (omega arith) (left_true (job.is_digit b) _ h))
    (field-ends (part ++ (b ∷ [])) f rest (right_true (job.is_digit b) _ h) ∙ rw append_assoc)

last-field : (part f : List ℕ) → job.all_digits f ≡ true → job.fields_from part f ≡ (part ++ f) ∷ []
unfolding job.all_digits job.fields_from
last-field part [] h = rw append-nil
last-field part (b ∷ f) h =
    rw (digit-other b 44 (omega arith) (left_true (job.is_digit b) _ h))
    (last-field (part ++ (b ∷ [])) f (right_true (job.is_digit b) _ h) ∙ rw append_assoc)

-- the bytes of a line, without byte 10
abbrev masks_text : (t0 t1 t2 : ℕ) → List ℕ
masks_text t0 t1 t2 = decimal 0 ++ (44 ∷ (decimal t0 ++ (44 ∷ (decimal t1 ++ (44 ∷ decimal t2)))))

abbrev dealer_text : ℕ → List ℕ
dealer_text t = decimal 10 ++ (44 ∷ decimal t)

digits : (n : ℕ) → n < 2 ^ 64 → job.all_digits (decimal n) ≡ true
digits n h = (fit_decimal n h).digits

inside : (n : ℕ) → n < 2 ^ 64 → within (decimal n) ≡ true
inside n h = digits_within (decimal n) (digits n h)

module _ (t0 t1 t2 : ℕ) (h0 : t0 < 2 ^ 64) (h1 : t1 < 2 ^ 64) (h2 : t2 < 2 ^ 64) where
  masks_reads : job.command_of (masks_text t0 t1 t2) ≡ command.Masks t0 t1 t2
  unfolding job.command_of job.numbers_of job.with_numbers job.with_three
  masks_reads =
      rw (
        field-ends [] (decimal 0) _ (digits 0 (omega arith)),
        field-ends [] (decimal t0) _ (digits t0 h0),
        field-ends [] (decimal t1) _ (digits t1 h1),
        last-field [] (decimal t2) (digits t2 h2),
        reads_back 0 (omega arith),
        reads_back t0 h0,
        reads_back t1 h1,
        reads_back t2 h2,
      )

  masks-within : within (masks_text t0 t1 t2) ≡ true
  unfolding within
  masks-within =
      within-append (decimal 0) _ (inside 0 (omega arith))
      (within-append (decimal t0) _ (inside t0 h0) (within-append (decimal t1) _ (inside t1 h1) (inside t2 h2)))

module _ (t : ℕ) (h : t < 2 ^ 64) where
  dealer_reads : job.command_of (dealer_text t) ≡ command.Dealer t
  unfolding job.command_of job.numbers_of job.with_numbers job.with_one
  dealer_reads =
      rw (
        field-ends [] (decimal 10) _ (digits 10 (omega arith)),
        last-field [] (decimal t) (digits t h),
        reads_back 10 (omega arith),
        reads_back t h,
      )

  dealer_within : within (dealer_text t) ≡ true
  unfolding within
  dealer_within = within-append (decimal 10) _ (inside 10 (omega arith)) (inside t h)

-- a line, and what follows
read-line : (l rest : List ℕ) {c : Command} → within l ≡ true → job.command_of l ≡ c
    → map job.command_of (job.lines_of (l ++ (10 ∷ rest))) ≡ c ∷ map job.command_of (job.lines_of rest)
read-line l rest h is = rw (line-ends l rest h, is)

line_reads : (kind : Kind) (k : ℕ) (ts rest : List ℕ) → ((i : ℕ) → get_or ts i 0 < 2 ^ 64)
    → map job.command_of (job.lines_of (line_of kind k ts ++ rest)) ≡ command_at kind k ts ∷ map job.command_of (job.lines_of rest)
unfolding masks_line dealer_line
line_reads Masks k ts rest h =
    let t0 : ℕ = get_or ts (3 * k) 0 in
    let t1 : ℕ = get_or ts (3 * k + 1) 0 in
    let t2 : ℕ = get_or ts (3 * k + 2) 0 in
    let text : masks_line t0 t1 t2 ++ rest ≡ masks_text t0 t1 t2 ++ (10 ∷ rest) = simp append_assoc in
    rw text (read-line (masks_text t0 t1 t2) rest (masks-within t0 t1 t2 (h _) (h _) (h _)) (masks_reads t0 t1 t2 (h _) (h _) (h _)))
line_reads Dealer k ts rest h =
    let t : ℕ = get_or ts k 0 in
    let text : dealer_line t ++ rest ≡ dealer_text t ++ (10 ∷ rest) = simp append_assoc in
    rw text (read-line (dealer_text t) rest (dealer_within t (h _)) (dealer_reads t (h _)))

lines-read : (kind : Kind) (n : ℕ) (ts rest : List ℕ) → ((i : ℕ) → get_or ts i 0 < 2 ^ 64)
    → map job.command_of (job.lines_of (lines_of kind n ts ++ rest)) ≡ commands_of kind n ts ++ map job.command_of (job.lines_of rest)
unfolding lines_of commands_of
lines-read kind zero ts rest h = refl
lines-read kind (suc k) ts rest h =
    rw (append_assoc (lines_of kind k ts) (line_of kind k ts) rest, lines-read kind k ts (line_of kind k ts ++ rest) h, line_reads kind k ts rest h, append_assoc)

-- items fit a word
limit_ring : (r : Option Ring) {e limit : ℕ} → kind_of_ring r ≡ items e limit → limit < 2 ^ 64
limit_ring (Some r) {limit = l} h = let same : l ≡ modulus_of r = cc in omega (arith, modulus-lt r)
limit_ring None h = let wrong : ◌≡◌ {A = ℕ} 0 1 = cc in omega arith

limit_small : (code : ℕ) {e limit : ℕ} → kind_of code ≡ items e limit → limit < 2 ^ 64
unfolding kind_of
limit_small code {e} {limit} h =
    split (eqb code 1)
    (λ t. let bits : items 1 2 ≡ items e limit = rw t at h in let same : limit ≡ 2 = cc in omega arith)
    (λ t. limit_ring (ring_of code) (rw t at h))

no_items : (code : ℕ) (ws run : List ℕ) → kind_of code ≡ other → (prepared code ws run).refusal ≡ 5
unfolding prepared
no_items code ws run is = rw is

module _ (code : ℕ) (ws run : List ℕ) (ok : (prepared code ws run).refusal ≡ 0) (i : ℕ) where
  item-fits : (k : Items) → kind_of code ≡ k → i < length run → get_or (prepared code ws run).run i 0 < 2 ^ 64
  item-fits (items e limit) is here = omega (arith, in_range code e limit ws run is ok i here, limit_small code is)
  item-fits other is here = omega (arith, no_items code ws run is)

  items_fit : get_or (prepared code ws run).run i 0 < 2 ^ 64
  items_fit =
      split (ltb i (length run))
      (λ t. item-fits (kind_of code) refl (ltb-true i (length run) t))
      (λ t. rw (get_or-eq_default (prepared code ws run).run 0 {n = i} (omega (arith, same_length code ws run, ltb-false i (length run) t))) (omega arith))

pub read_as_tapes : ReadAsTapes
unfolding job.lines_of drawn drawn_by
read_as_tapes code n kind raw ok =
    let ts : List ℕ = (items_of code n kind raw).run in
    rw ok (rw (append-nil (lines_of kind n ts), append-nil (commands_of kind n ts)) at (lines-read kind n ts [] (items_fit code _ _ ok)))
