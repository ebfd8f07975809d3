-- When a text's place among positions and its table of line starts go together.
use Rattle.std.specs.Prelude.{ℕ, ◌+◌, Bool, ◌&&◌, List, leb, eqb, length, get_or, take}
use Rattle.position.specs.declared.File.{File}

-- the largest position
abbrev pub max_position : ℕ
max_position = 4294967295

-- "base + size is at most 4,294,967,295"
unfoldable pub in_range : File → Bool
in_range f = leb (f.base + f.size) max_position

-- the line count is not 0
abbrev pub has_line : File → Bool
has_line f = leb 1 f.lines

-- besides, the line count is not above the table, and the first start is 0
unfoldable pub fitting : File → List ℕ → Bool
fitting f table = in_range f && has_line f && leb f.lines (length table) && eqb (get_or table 0 0) 0

-- the starts of the lines: the table's numbers up to the count
abbrev pub starts : File → List ℕ → List ℕ
starts f table = take f.lines table
