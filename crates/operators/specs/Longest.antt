-- "Operators otherwise: the longest one in `token.rs`", that is of the table of spellings.
use Rattle.std.specs.Prelude.{ℕ, Bool, true, false, cond, ◌&&◌, List, [], ◌∷◌, leb, eqb, length}
use Rattle.utf8.specs.declared.Char.{Char}
use Rattle.kinds.specs.Kinds.{ILLEGAL}
use Rattle.kinds.specs.Table.{Row, operators}
use Rattle.kinds.specs.Number.{kind_number}
use Rattle.operators.specs.declared.Operator.{Operator}

-- an operator: its kind by number, and of how many characters it is
pub record OperatorSaid : Type 0 where
  pub kind : ℕ
  pub len : ℕ

-- as the code gives it
abbrev pub operator_said : Operator → OperatorSaid
operator_said x = record { kind = kind_number x.kind; len = x.len }

-- whether the characters begin with the codes of a spelling
unfoldable pub begins : List ℕ → List Char → Bool
begins [] r = true
begins (x ∷ xs) [] = false
begins (x ∷ xs) (c ∷ r) = eqb c.code x && begins xs r

-- an operator of a kind, of so many characters
abbrev pub op : ℕ → ℕ → OperatorSaid
op kind len = record { kind = kind; len = len }

-- no operator
abbrev pub no_operator : OperatorSaid
no_operator = op ILLEGAL 0

-- the longer of two; of two as long the first
abbrev pub longer : OperatorSaid → OperatorSaid → OperatorSaid
longer x y = cond (leb y.len x.len) x y

-- of the rows whose spelling the characters begin with, the one with the longest spelling
unfoldable pub longest : List Row → List Char → OperatorSaid
longest [] r = no_operator
longest (row ∷ rows) r = cond (begins row.name r) (longer (op row.kind (length row.name)) (longest rows r)) (longest rows r)

-- the longest operator of the table
abbrev pub operator_of : List Char → OperatorSaid
operator_of r = longest operators r
