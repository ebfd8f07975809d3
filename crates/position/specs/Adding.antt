-- One more line start.
use Rattle.std.specs.Prelude.{ℕ, ◌+◌, Bool, cond, List, eqb, length, set}
use Rattle.refusal.specs.Outcome.{Outcome, refused, gave}
use Rattle.refusal.specs.Refusals.{DOES_NOT_FIT, TABLE_FULL}
use Rattle.position.specs.declared.File.{File}
use Rattle.position.specs.Lines.{line_start, is_recorded}
use Rattle.position.specs.Place.{fitting}

-- what a call leaves in the table, and its outcome: the count of lines
pub record AddLineLeft : Type 0 where
  pub table : List ℕ
  pub outcome : Outcome ℕ

-- whether the offset is one to record
unfoldable pub starting : File → List ℕ → ℕ → Bool
starting f table o = is_recorded (line_start table f.lines) f.size o

-- such an offset is written after the starts, where there is room
unfoldable pub add_line : File → List ℕ → ℕ → AddLineLeft
add_line f table o =
    cond (fitting f table)
    (cond (starting f table o)
    (cond (eqb f.lines (length table))
    (record { table = table; outcome = refused TABLE_FULL })
    (record { table = set table f.lines o; outcome = gave (f.lines + 1) }))
    (record { table = table; outcome = gave f.lines }))
    (record { table = table; outcome = refused DOES_NOT_FIT })
