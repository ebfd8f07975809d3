-- The line and the column of an offset, by the starts of the lines.
use Rattle.std.specs.Prelude.{ℕ, suc, ◌+◌, ◌-◌, ◌<◌, Bool, cond, ◌&&◌, List, [], ◌∷◌, ltb, length, get_or}
use Rattle.position.specs.declared.Position.{Position}
use Rattle.position.specs.declared.Line.{Line}

-- the index, from 0, of the first start above the offset, else the count
unfoldable pub line_of : List ℕ → ℕ → ℕ
line_of [] o = 0
line_of (x ∷ xs) o = cond (ltb o x) 0 (suc (line_of xs o))

-- the start of a line, whose number counts from 1
abbrev pub line_start : List ℕ → ℕ → ℕ
line_start starts line = get_or starts (line - 1) 0

-- a line by its number
abbrev pub line_in : List ℕ → ℕ → Line
line_in starts line = record { number = line; start = line_start starts line }

-- the first line of every text
abbrev pub first_line : Line
first_line = record { number = 1; start = 0 }

-- the start before the first that is above the offset
unfoldable pub start_of : List ℕ → ℕ → ℕ
start_of starts o = line_start starts (line_of starts o)

-- the offset minus that start, plus 1
unfoldable pub column_of : List ℕ → ℕ → ℕ
column_of starts o = o - start_of starts o + 1

-- an offset with its line and column
abbrev pub position_at : List ℕ → ℕ → Position
position_at starts o = record { offset = o; line = line_of starts o; column = column_of starts o }

-- "if that is above the last start and below the size": whether a line start that was read is
-- recorded
abbrev pub is_recorded : ℕ → ℕ → ℕ → Bool
is_recorded last size start = ltb last start && ltb start size

-- each start is below the next
abbrev pub StrictlyRising : List ℕ → Type 0
StrictlyRising starts = (k : ℕ) → suc k < length starts → get_or starts k 0 < get_or starts (suc k) 0
