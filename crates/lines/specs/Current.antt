-- The current line: "The state shall carry the line and the line start of its offset". It goes on
-- from character to character. That it is the line of the offset is a law, LineLaw.antt.
use Rattle.std.specs.Prelude.{ℕ, suc, cond, ◌&&◌, List, [], ◌∷◌}
use Rattle.utf8.specs.declared.Char.{Char}
use Rattle.utf8.specs.Count.{is_lf}
use Rattle.position.specs.declared.Line.{Line}
use Rattle.position.specs.Lines.{is_recorded}

-- after a character is read at an offset: an LF whose start is recorded begins the next line
abbrev pub next_line : ℕ → ℕ → Char → Line → Line
next_line size offset c line =
    cond (is_lf c && is_recorded line.start size (suc offset)) (record { number = suc line.number; start = suc offset }) line

-- after the characters cs are read from an offset on
unfoldable pub read_line : ℕ → ℕ → List Char → Line → Line
read_line size offset [] line = line
read_line size offset (c ∷ cs) line = read_line size (suc offset) cs (next_line size offset c line)
