-- Character literals, strings and raw strings, from the opening quote on.
use Rattle.std.specs.Prelude.{ℕ, suc, true, false, cond, List, [], eqb, take, drop}
use Prim.Native.Char.{code}
use Rattle.utf8.specs.declared.Char.{Char}
use Rattle.utf8.specs.Chars.{encoded}
use Rattle.kinds.specs.Kinds.{CHAR, STRING}
use Rattle.errors.specs.Numbers.{OPEN_RAW_STRING}
use Rattle.quotes.specs.Body.{Body, body}
use Rattle.quotes.specs.Literal.{string_kind, char_kind, char_error}
use Rattle.spans.specs.Span.{Span, to_stop}
use Rattle.spans.specs.Body.{raw_inside, clean}
use Rattle.lexer.specs.Lexeme.{Lexeme}

-- a literal, from the characters that start with its quote, by its body
abbrev pub literal_of : List Char → Body → ℕ → ℕ → ℕ → List ℕ → Lexeme
literal_of r b kind error code value =
    record {
      skipped = 0;
      len = suc b.len;
      kind = kind;
      inserted = false;
      text = encoded (take (suc b.len) r);
      value = value;
      code = code;
      error = error;
      mark = true;
    }

-- a string that is not closed has no value
abbrev pub string_of : List Char → Body → Lexeme
string_of r b = literal_of r b (string_kind b) b.error 0 (cond b.closed b.value [])

unfoldable pub lex_string : List Char → Lexeme
lex_string r = string_of r (body (code "\"") (drop 1 r))

-- a character literal that is no CHAR has no code point
abbrev pub char_literal_of : List Char → Body → Lexeme
char_literal_of r b = literal_of r b (char_kind b) (char_error b) (cond (eqb (char_kind b) CHAR) b.code 0) []

unfoldable pub lex_char : List Char → Lexeme
lex_char r = char_literal_of r (body (code "'") (drop 1 r))

-- "Raw strings drop CR from text and value; an unclosed one is still a STRING."
abbrev pub raw_of : List Char → Span → Lexeme
raw_of r s =
    record {
      skipped = 0;
      len = suc s.len;
      kind = STRING;
      inserted = false;
      text = clean (take (suc s.len) r);
      value = clean (take (raw_inside s) (drop 1 r));
      code = 0;
      error = cond s.closed 0 OPEN_RAW_STRING;
      mark = true;
    }

unfoldable pub lex_raw : List Char → Lexeme
lex_raw r = raw_of r (to_stop (code "`") (drop 1 r))
