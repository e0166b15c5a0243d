-- 01, "The job program": tape lines.
use Rattle.std.specs.Prelude.{ℕ, zero, suc, ◌+◌, ◌*◌, List, [], ◌++◌, get_or}
use Rattle.line.specs.Printed.{field}
use Rattle.drawing.specs.declared.kinds.Kind.{Kind}
use Rattle.drawing.specs.declared.kinds.Kind.TheVariants.{Dealer, Masks}

-- "Kind 0 adds t0,t1,t2 to the strands"
unfoldable pub masks_line : (t0 t1 t2 : ℕ) → List ℕ
masks_line t0 t1 t2 = field 0 44 ++ (field t0 44 ++ (field t1 44 ++ field t2 10))

-- "kind 10 adds one dealer item"
unfoldable pub dealer_line : ℕ → List ℕ
dealer_line t = field 10 44 ++ field t 10

-- the items that a line takes
abbrev pub per_line : Kind → ℕ
per_line Masks = 3
per_line Dealer = 1

-- item 3k + i is t_i of line k, counted from 0
abbrev pub line_of : Kind → ℕ → List ℕ → List ℕ
line_of Masks k ts = masks_line (get_or ts (3 * k) 0) (get_or ts (3 * k + 1) 0) (get_or ts (3 * k + 2) 0)
line_of Dealer k ts = dealer_line (get_or ts k 0)

-- the first n lines
unfoldable pub lines_of : Kind → ℕ → List ℕ → List ℕ
lines_of kind zero ts = []
lines_of kind (suc k) ts = lines_of kind k ts ++ line_of kind k ts
