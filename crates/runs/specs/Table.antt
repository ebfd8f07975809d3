-- The proved table: ten texts, the last at two sizes, and what opening and scans give for them.
use Rattle.std.specs.Prelude.{ℕ, ◌≡◌, List, [], ◌∷◌, map, length, replicate}
use Prim.Native.String.{String}
use Rattle.basics.specs.Spelling.{spelled}
use Rattle.utf8.specs.Chars.{chars}
use Rattle.kinds.specs.Kinds.{ILLEGAL, EOF, COMMENT, IDENT, INT, STRING, SEMICOLON}
use Rattle.errors.specs.declared.layout.Error.{Error}
use Rattle.state.specs.State.{fresh}
use Rattle.runs.specs.Calls.{Held, Accepted, Seen, play, tokens, errors_in}

-- what the table says of a token; without a text, `text` is []
pub record Shows : Type 0 where
  pub kind : ℕ
  pub position : ℕ
  pub text : List ℕ

-- what it says of a text that is opened with a size: the tokens up to the first EOF, and the errors
pub record Row : Type 0 where
  pub text : List ℕ
  pub size : ℕ
  pub tokens : List Shows
  pub errors : List Error

abbrev pub shown_token : ℕ → ℕ → String → Shows
shown_token kind position text = record { kind = kind; position = position; text = spelled text }

-- an error: its number, and where it is, by offset, line and column
abbrev pub error : ℕ → ℕ → ℕ → ℕ → Error
error number offset line column = record { offset = offset; line = line; column = column; number = number }

abbrev pub sized_row : ℕ → String → List Shows → List Error → Row
sized_row size text tokens errors = record { text = spelled text; size = size; tokens = tokens; errors = errors }

-- "Sizes equal n unless given."
abbrev pub row : String → List Shows → List Error → Row
row text tokens errors = sized_row (length (chars (spelled text))) text tokens errors

unfoldable pub rows : List Row
rows =
    row "" (shown_token EOF 0 "" ∷ []) [] ∷
    row "x" (shown_token IDENT 0 "x" ∷ shown_token SEMICOLON 1 "" ∷ shown_token EOF 1 "" ∷ []) [] ∷
    row "08" (shown_token ILLEGAL 0 "0o" ∷ shown_token INT 1 "8" ∷ shown_token SEMICOLON 2 "" ∷ shown_token EOF 2 "" ∷ []) (error 2 1 1 2 ∷ []) ∷
    row "0X1F" (shown_token INT 0 "0x1F" ∷ shown_token SEMICOLON 4 "" ∷ shown_token EOF 4 "" ∷ []) [] ∷
    row "''" (shown_token ILLEGAL 0 "''" ∷ shown_token SEMICOLON 2 "" ∷ shown_token EOF 2 "" ∷ []) (error 13 2 1 3 ∷ []) ∷
    row "'ab'" (shown_token ILLEGAL 0 "'ab'" ∷ shown_token SEMICOLON 4 "" ∷ shown_token EOF 4 "" ∷ []) (error 13 4 1 5 ∷ []) ∷
    row "\"\\400\"" (shown_token ILLEGAL 0 "\"\\400" ∷ shown_token ILLEGAL 5 "\"" ∷ shown_token SEMICOLON 6 "" ∷ shown_token EOF 6 "" ∷ []) (error 12 5 1 6 ∷ error 8 6 1 7 ∷ []) ∷
    row "x /* c */ r\n" (shown_token IDENT 0 "x" ∷ shown_token COMMENT 2 "/* c */" ∷ shown_token IDENT 10 "r" ∷ shown_token SEMICOLON 11 "" ∷ shown_token EOF 12 "" ∷ []) [] ∷
    row "1__0" (shown_token ILLEGAL 0 "1_" ∷ shown_token IDENT 2 "_0" ∷ shown_token SEMICOLON 4 "" ∷ shown_token EOF 4 "" ∷ []) (error 4 2 1 3 ∷ []) ∷
    row "`\n" (shown_token STRING 0 "`\n" ∷ shown_token SEMICOLON 2 "" ∷ shown_token EOF 2 "" ∷ []) (error 6 2 1 3 ∷ []) ∷
    sized_row 3 "`\n" (shown_token STRING 0 "`\n" ∷ shown_token SEMICOLON 2 "" ∷ shown_token EOF 2 "" ∷ []) (error 6 2 2 1 ∷ []) ∷
    []

-- what the opening leaves, at base 0, where positions are offsets: a table of four line starts and
-- a list of four errors, all 0
abbrev pub begun : Row → Held
begun r = record { state = fresh 0 r.size; table = replicate 4 0; list = replicate 16 0 }

-- as many scans as the row has tokens, each with a text area of 16 zeros
abbrev pub areas : Row → List (List ℕ)
areas r = replicate (length r.tokens) (replicate 16 0)

-- a token as the table shows it
abbrev pub shows : Seen → Shows
shows t = record { kind = t.token.kind; position = t.token.position; text = t.text.bytes }

abbrev pub All : {A : Type 0} → (A → Type 0) → List A → Type 0
All P [] = Unit {0}
All P (x ∷ xs) = P x × All P xs

-- the queries show text and value
abbrev pub BothShown : Seen → Type 0
BothShown t = (t.text.refusal ≡ 0) × (t.value.refusal ≡ 0)

-- opening and scans give what the row says
pub record RowHolds (r : Row) : Type 0 where
  pub accepted : Accepted r.text 0 r.size (begun r)
  pub gives : map shows (tokens r.text (areas r) (begun r)) ≡ r.tokens
  pub shown : All BothShown (tokens r.text (areas r) (begun r))
  pub errors : errors_in (play r.text (areas r) (begun r)) ≡ r.errors

-- "Proved together, one statement over the rows"
abbrev pub TableHolds : Type 0
TableHolds = All RowHolds rows
