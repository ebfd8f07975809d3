-- A run of scans over a text, with any lexer: the reading after each scan and the token that each
-- gives.
use Rattle.std.specs.Prelude.{ℕ, zero, suc, ◌+◌, Bool, List, take}
use Rattle.utf8.specs.declared.Char.{Char}
use Rattle.utf8.specs.Chars.{widths}
use Rattle.lexer.specs.Lexeme.{Lexeme}
use Rattle.reading.specs.Reading.{Reading, after}

-- what one scan reads, by the pending mark and the characters left
abbrev pub Lexer : Type 0
Lexer = Bool → List Char → Lexeme

-- what the next scan reads
unfoldable pub scanned : Lexer → Reading → Lexeme
scanned lex s = lex s.mark s.rest

-- the reading after one scan, in a text of the size given
unfoldable pub next : Lexer → ℕ → Reading → Reading
next lex size s = after size (scanned lex s) s

-- after k scans
unfoldable pub run : Lexer → ℕ → Reading → ℕ → Reading
run lex size s zero = s
run lex size s (suc k) = next lex size (run lex size s k)

pub record Token : Type 0 where
  pub kind : ℕ
  -- the base of its file and the characters before it
  pub position : ℕ
  -- the byte at which its own characters start, and how many they are
  pub start : ℕ
  pub len : ℕ
  -- a semicolon that is not in the text
  pub inserted : Bool
  -- text and value in bytes, and the code point of a CHAR
  pub text : List ℕ
  pub value : List ℕ
  pub code : ℕ
  -- the number of its error, or 0
  pub error : ℕ

-- the token of a lexeme that is read here, in a file with the base given
unfoldable pub token : ℕ → Lexeme → Reading → Token
token base x s =
    record {
      kind = x.kind;
      position = base + (s.offset + x.skipped);
      start = s.place + widths (take x.skipped s.rest);
      len = x.len;
      inserted = x.inserted;
      text = x.text;
      value = x.value;
      code = x.code;
      error = x.error;
    }

-- the token of scan k + 1
unfoldable pub token_at : Lexer → ℕ → ℕ → Reading → ℕ → Token
token_at lex base size s k = token base (scanned lex (run lex size s k)) (run lex size s k)

-- the same token, so many bytes on
unfoldable pub move : ℕ → Token → Token
move bytes t =
    record {
      kind = t.kind;
      position = t.position;
      start = bytes + t.start;
      len = t.len;
      inserted = t.inserted;
      text = t.text;
      value = t.value;
      code = t.code;
      error = t.error;
    }
