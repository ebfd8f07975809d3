-- Comments, from the opening slash on.
use Rattle.std.specs.Prelude.{◌+◌, Bool, false, cond, ◌&&◌, ◌||◌, List, [], ◌∷◌, ◌++◌, eqb, take, drop}
use Prim.Native.Char.{code}
use Rattle.utf8.specs.declared.Char.{Char}
use Rattle.utf8.specs.Chars.{peek}
use Rattle.kinds.specs.Kinds.{COMMENT}
use Rattle.errors.specs.Numbers.{OPEN_COMMENT}
use Rattle.spans.specs.Span.{Span, to_stop, to_star_slash}
use Rattle.spans.specs.Body.{clean}
use Rattle.spans.specs.Line.{ends_line}
use Rattle.lexer.specs.Lexeme.{Lexeme, shown, inserted_semicolon}

-- "A `//` comment reads its LF, and its text always ends in LF."
abbrev pub line_comment : Bool → List Char → Span → Lexeme
line_comment mark r s = shown COMMENT (2 + s.len) (clean (take (2 + s.len) r) ++ cond s.closed [] (code "\n" ∷ [])) 0 mark

-- a general comment; it is an error where it is not closed
abbrev pub general_comment : Bool → List Char → Span → Lexeme
general_comment mark r s = shown COMMENT (2 + s.len) (clean (take (2 + s.len) r)) (cond s.closed 0 OPEN_COMMENT) mark

-- "It ends the line if it is `//`, .."
abbrev pub comment_ends_line : List Char → Bool
comment_ends_line r = eqb (peek (drop 1 r)) (code "/") || ends_line false (drop 2 r)

-- "Otherwise COMMENT, the mark kept as it was."
unfoldable pub comment : Bool → List Char → Lexeme
comment mark r =
    cond (eqb (peek (drop 1 r)) (code "/")) (line_comment mark r (to_stop (code "\n") (drop 2 r))) (general_comment mark r (to_star_slash false (drop 2 r)))

unfoldable pub lex_comment : Bool → List Char → Lexeme
lex_comment mark r = cond (mark && comment_ends_line r) inserted_semicolon (comment mark r)
