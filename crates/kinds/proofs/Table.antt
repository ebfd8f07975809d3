-- Each number below the length of the table is the kind of one row, and there are no names from there on.
use Prim.Native.Nat.{ℕ, suc, ◌-◌, ◌≤◌, ◌<◌}
use mathlib.Core.Path.{◌≡◌}
use mathlib.Core.Bool.{cond}
use mathlib.Core.List.{List, [], ◌∷◌}
use lib.Dec.{eqb, eqb→eq}
use lib.ListN.{length}
use Rattle.basics.proofs.Choice.{true_of}
use Rattle.basics.specs.Same.{same}
use Rattle.basics.proofs.Every.{every_below}
use Rattle.basics.proofs.Lists.{same_true}
use Rattle.kinds.specs.Kinds.{NONE}
use Rattle.kinds.specs.Table.{Row, other, table, specials, operators, keywords, row_of, name_of}
use Rattle.kinds.proofs.Ranges.{every_within}

-- stands for the row past the end
abbrev pub none : Row
none = other NONE ""

-- how many rows are of a kind
abbrev rows_of : ℕ → List Row → ℕ
rows_of k [] = 0
rows_of k (row ∷ rows) = cond (eqb k row.kind) (suc (rows_of k rows)) (rows_of k rows)

pub one_row : (k : ℕ) → k < length table → rows_of k table ≡ 1
unfolding table specials operators keywords
one_row k h = eqb→eq (rows_of k table) 1 (every_below (λ m. eqb (rows_of m table) 1) (length table) tt k h)

pub no_name : (k : ℕ) → length table ≤ k → k < 256 → [] ≡ name_of k
unfolding table specials operators keywords row_of same
no_name k l h =
    same_true [] (name_of k)
    (true_of (same [] (name_of k)) (every_within (λ m. same [] (name_of m)) (length table) (256 - length table) tt k l h))
