-- What is said of a token that was read at a place of a source: the lexeme, and how it lies in the
-- bytes.
use Rattle.std.specs.Prelude.{ℕ, ◌+◌, ◌*◌, ◌-◌, Bool, false, cond, not, List, [], ◌∷◌, ◌++◌, eqb, length, take, drop}
use Prim.Native.Char.{code}
use Rattle.basics.specs.Same.{same}
use Rattle.utf8.specs.declared.Char.{Char}
use Rattle.utf8.specs.Chars.{chars, widths, is_stray, encoded}
use Rattle.kinds.specs.Kinds.{STRING}
use Rattle.kinds.specs.Number.{kind_number}
use Rattle.errors.specs.Numbers.{OPEN_RAW_STRING}
use Rattle.errors.specs.Faults.{error_number}
use Rattle.numbers.specs.Spelling.{number_text}
use Rattle.quotes.specs.Body.{body}
use Rattle.spans.specs.Span.{to_stop}
use Rattle.utf8.specs.Count.{is_lf, count}
use Rattle.spans.specs.Body.{raw_inside, clean}
use Rattle.lexer.specs.declared.lexed.Text.{Text}
use Rattle.lexer.specs.declared.lexed.Text.TheVariants.{Empty, AsRead, Number, WithoutCr, WithLf}
use Rattle.lexer.specs.declared.lexed.Value.{Value}
use Rattle.lexer.specs.declared.lexed.Value.TheVariants.{Empty as NoValue, Interpreted, Raw}
use Rattle.lexer.specs.declared.lexed.Lexed.{Lexed}
use Rattle.lexer.specs.Lexeme.{Lexeme}
use Rattle.lexer.specs.Making.{text_way, value_way}

-- the text for each way of making it, from the characters read, and for a number from their bytes
abbrev pub text_of : Text → List Char → List ℕ → List ℕ
text_of Empty cs bytes = []
text_of AsRead cs bytes = encoded cs
text_of (Number spelling) cs bytes = number_text spelling bytes
text_of WithoutCr cs bytes = clean cs
text_of WithLf cs bytes = clean cs ++ (code "\n" ∷ [])

-- the value for each way of making it, from the characters after the opening quote
abbrev pub value_of : Value → List Char → List ℕ
value_of NoValue r = []
value_of Interpreted r = (body (code "\"") r).value
value_of Raw r = clean (take (raw_inside (to_stop (code "`") r)) r)

-- a lexeme in the bytes of a source
pub record Placed : Type 0 where
  pub lexeme : Lexeme
  -- the place after it
  pub end : ℕ
  -- how many of its characters are line feeds and stray bytes
  pub lfs : ℕ
  pub strays : ℕ
  -- how text and value are made of its characters
  pub text_making : Text
  pub value_making : Value
  -- how many bytes they have
  pub text_length : ℕ
  pub value_length : ℕ
  -- are they other bytes than those of the source?
  pub text_differs : Bool
  pub value_differs : Bool

-- "the bytes after the opening quote up to the closing one or the end", of the bytes of a token
abbrev pub value_read : Lexeme → List ℕ → List ℕ
value_read x bytes = cond (eqb x.kind STRING) (take (length bytes - cond (eqb x.error OPEN_RAW_STRING) 1 2) (drop 1 bytes)) []

-- "Where the text equals the bytes read .. it is shown from the source." A token that has none
-- shows none
abbrev pub text_differs_in : List ℕ → List ℕ → Bool
text_differs_in [] bytes = false
text_differs_in (b ∷ text) bytes = not (same (b ∷ text) bytes)

-- a lexeme of the characters cs, whose bytes are these
abbrev pub placed_in : ℕ → Lexeme → List Char → List ℕ → Placed
placed_in at x cs bytes =
    record {
      lexeme = x;
      end = at + widths cs;
      lfs = count is_lf cs;
      strays = count is_stray cs;
      text_making = text_way cs x;
      value_making = value_way cs x;
      text_length = length x.text;
      value_length = length x.value;
      text_differs = text_differs_in x.text bytes;
      value_differs = not (same x.value (value_read x bytes));
    }

-- a lexeme at a place
unfoldable pub placed : List ℕ → ℕ → Lexeme → Placed
placed s at x =
    let cs = take x.len (chars (drop at s)) in
    placed_in at x cs (take (widths cs) (drop at s))

-- the code counts a stray byte once; where text or value differ from the source's bytes it is
-- written in three
abbrev pub length_of : ℕ → ℕ → Bool → ℕ
length_of bytes strays differs = bytes + cond differs (2 * strays) 0

-- what the code's answer says
unfoldable pub said : List ℕ → ℕ → Lexed → Placed
said s at x =
    record {
      lexeme =
          record {
            skipped = 0;
            len = x.chars;
            kind = kind_number x.kind;
            inserted = x.inserted;
            text = text_of x.text.making (take x.chars (chars (drop at s))) (take (x.end - at) (drop at s));
            value = value_of x.value.making (chars (drop (at + 1) s));
            code = x.code;
            error = error_number x.error;
            mark = x.mark;
          };
      end = x.end;
      lfs = x.lfs;
      strays = x.strays;
      text_making = x.text.making;
      value_making = x.value.making;
      text_length = length_of x.text.bytes x.strays x.text.differs;
      value_length = length_of x.value.bytes x.strays x.value.differs;
      text_differs = x.text.differs;
      value_differs = x.value.differs;
    }
