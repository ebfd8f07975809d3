-- The law of the current line. Request 2: "Where the starts rise, opening and every character read
-- keep them equal to the table's answer, also where the last start was not recorded because it
-- reached the size."
use Rattle.std.specs.Prelude.{ℕ, suc, ◌+◌, ◌-◌, ◌≤◌, ◌≡◌, List, [], ◌∷◌, length}
use Rattle.utf8.specs.declared.Char.{Char}
use Rattle.position.specs.declared.Line.{Line}
use Rattle.position.specs.Lines.{line_of, line_start, line_in, column_of, first_line, StrictlyRising}
use Rattle.lines.specs.Starts.{read_lines}
use Rattle.lines.specs.Current.{read_line}

-- the starts rise, none is above the offset, and the line is the table's answer for the offset
pub record Current (starts : List ℕ) (offset : ℕ) (line : Line) : Type 0 where
  pub rising : StrictlyRising starts
  pub last : line_start starts (length starts) ≤ offset
  pub answer : line ≡ line_in starts (line_of starts offset)
  pub column : offset - line.start + 1 ≡ column_of starts offset

pub record LineLaw : Type 0 where
  -- at the start of a text
  pub opening : Current (0 ∷ []) 0 first_line
  -- after every character, in a text of any size
  pub character : (size offset : ℕ) (c : Char) (starts : List ℕ) (line : Line) → Current starts offset line
      → Current (read_lines size offset (c ∷ []) starts) (suc offset) (read_line size offset (c ∷ []) line)
