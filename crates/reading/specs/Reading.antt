-- How far a text has been read, with no bound on lines and errors, and what one lexeme does to it.
use Rattle.std.specs.Prelude.{ℕ, ◌+◌, ◌-◌, Bool, false, cond, List, [], ◌∷◌, ◌++◌, eqb, take, drop}
use Rattle.utf8.specs.declared.Char.{Char}
use Rattle.utf8.specs.Chars.{widths}
use Rattle.position.specs.declared.Line.{Line}
use Rattle.position.specs.Lines.{first_line}
use Rattle.errors.specs.declared.layout.Error.{Error}
use Rattle.lines.specs.Starts.{read_lines}
use Rattle.lines.specs.Current.{read_line}
use Rattle.lexer.specs.Lexeme.{Lexeme, taken}

pub record Reading : Type 0 where
  -- the characters that are left, the bytes and the characters before them
  pub rest : List Char
  pub place : ℕ
  pub offset : ℕ
  -- the line starts so far, and the current line
  pub lines : List ℕ
  pub line : Line
  -- errors so far, and the pending mark
  pub errors : List Error
  pub mark : Bool

-- "at the offset then reached, with line and column": they are those of the current line
abbrev pub error_at : ℕ → ℕ → Line → Error
error_at number offset line =
    record { offset = offset; line = line.number; column = offset - line.start + 1; number = number }

-- "at most one a scan"
abbrev pub new_errors : ℕ → ℕ → Line → List Error
new_errors number offset line = cond (eqb number 0) [] (error_at number offset line ∷ [])

-- after a lexeme, in a text of the size given
unfoldable pub after : ℕ → Lexeme → Reading → Reading
after size x s =
    let cs = take (taken x) s.rest in
    let offset = s.offset + taken x in
    let line = read_line size s.offset cs s.line in
    record {
      rest = drop (taken x) s.rest;
      place = s.place + widths cs;
      offset = offset;
      lines = read_lines size s.offset cs s.lines;
      line = line;
      errors = s.errors ++ new_errors x.error offset line;
      mark = x.mark;
    }

-- at the start of a text
abbrev pub opened : List Char → Reading
opened text = record { rest = text; place = 0; offset = 0; lines = 0 ∷ []; line = first_line; errors = []; mark = false }
