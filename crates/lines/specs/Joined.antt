-- Words of laws. No public contract cites this file. The line starts of a whole text, and of two texts that are joined.
use Rattle.std.specs.Prelude.{ℕ, ◌+◌, List, [], ◌∷◌, ◌++◌, map, length}
use Rattle.utf8.specs.declared.Char.{Char}
use Rattle.position.specs.declared.Line.{Line}
use Rattle.lines.specs.Starts.{read_lines}

-- all that reading a text records; its first line starts at 0
abbrev pub starts_of : List Char → List ℕ
starts_of text = read_lines (length text) 0 text (0 ∷ [])

-- the starts of a first text of n characters, then those of a second, raised by n
unfoldable pub over : ℕ → List ℕ → List ℕ → List ℕ
over n first second = first ++ map (λ x. n + x) second

-- a line of the second text, so many characters and lines on
unfoldable pub move_line : ℕ → ℕ → Line → Line
move_line characters lines line = record { number = lines + line.number; start = characters + line.start }
