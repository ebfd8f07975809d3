-- What one scan reads, without where it is in the text.
use Rattle.std.specs.Prelude.{ℕ, ◌+◌, Bool, true, false, List, [], ◌≢◌}
use Rattle.kinds.specs.Kinds.{SEMICOLON}
use Rattle.errors.specs.Numbers.{OPEN_RAW_STRING, OPEN_COMMENT}

pub record Lexeme : Type 0 where
  -- blanks skipped before it, and characters read
  pub skipped : ℕ
  pub len : ℕ
  pub kind : ℕ
  -- a semicolon that is not in the text
  pub inserted : Bool
  -- text and value in bytes, and the code point of a CHAR
  pub text : List ℕ
  pub value : List ℕ
  pub code : ℕ
  -- the number of its error, or 0
  pub error : ℕ
  -- the pending mark that it leaves
  pub mark : Bool

-- how many characters it takes: blanks and token
abbrev pub taken : Lexeme → ℕ
taken x = x.skipped + x.len

-- an error, or 0, that is neither an open raw string nor an open comment
abbrev pub Shut : ℕ → Type 0
Shut error = (error ≢ OPEN_RAW_STRING) × (error ≢ OPEN_COMMENT)

-- a token with a text and no value
abbrev pub shown : ℕ → ℕ → List ℕ → ℕ → Bool → Lexeme
shown kind len text error mark =
    record { skipped = 0; len = len; kind = kind; inserted = false; text = text; value = []; code = 0; error = error; mark = mark }

-- "Operators, keywords and EOF have no text."
abbrev pub bare : ℕ → ℕ → Bool → Lexeme
bare kind len mark = shown kind len [] 0 mark

-- "an inserted SEMICOLON, nothing read, mark cleared"
abbrev pub inserted_semicolon : Lexeme
inserted_semicolon =
    record { skipped = 0; len = 0; kind = SEMICOLON; inserted = true; text = []; value = []; code = 0; error = 0; mark = false }

-- n more blanks before it
abbrev pub raise : ℕ → Lexeme → Lexeme
raise n x =
    record {
      skipped = n + x.skipped;
      len = x.len;
      kind = x.kind;
      inserted = x.inserted;
      text = x.text;
      value = x.value;
      code = x.code;
      error = x.error;
      mark = x.mark;
    }
