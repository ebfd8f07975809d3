-- When a state goes together with what a call is lent: the conditions of refusal 6.
use Rattle.std.specs.Prelude.{ℕ, Bool, true, cond, ◌&&◌, List, eqb, ltb, leb, length}
use Rattle.position.specs.declared.File.{File}
use Rattle.position.specs.Lines.{line_start}
use Rattle.position.specs.Place.{in_range, has_line, fitting}
use Rattle.errors.specs.Errors.{room_of}
use Rattle.state.specs.declared.state.State.{State}

-- the text's place among positions, and the count of its line starts
abbrev pub file_of : State → File
file_of s = record { base = s.base; size = s.size; lines = s.lines }

-- "A state whose two numbers are not the line count and the last start is one that does not fit":
-- the line is the line count. Its start is to be the last start, so it is not above the offset;
-- whether it is the last start is for the table to tell
abbrev pub may_be_last : State → Bool
may_be_last s = eqb s.line.number s.lines && leb s.line.start s.offset

-- with one line, its start is to be the first start too, so it is 0
abbrev pub fits_line : State → Bool
fits_line s = may_be_last s && cond (ltb 1 s.lines) true (eqb s.line.start 0)

-- "offset above place or size, base + size too large, line count 0", and the line: what the state
-- alone tells
abbrev pub fits_alone : State → Bool
fits_alone s = leb s.offset s.place && leb s.offset s.size && has_line (file_of s) && in_range (file_of s) && fits_line s

-- "line count .. above the table, first start not 0", and the start of the line is the last start;
-- by `fits_line` this is not "above the offset"
abbrev pub fits_table : State → List ℕ → Bool
fits_table s table = fitting (file_of s) table && eqb (line_start table s.lines) s.line.start

-- all that a question about lines is given
abbrev pub fits_lines : State → List ℕ → Bool
fits_lines s table = fits_alone s && fits_table s table

-- "place beyond the source"
abbrev pub fits_source : State → List ℕ → Bool
fits_source s src = leb s.place (length src)

-- "error count above the list"
abbrev pub fits_list : State → List ℕ → Bool
fits_list s list = leb s.errors (room_of list)

-- all that a scan is given
abbrev pub fits : State → List ℕ → List ℕ → List ℕ → Bool
fits s src table list = fits_alone s && fits_table s table && fits_source s src && fits_list s list
