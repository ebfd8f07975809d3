-- One scan with lent buffers: which refusal it gives, and else the token, the state and what is
-- written.
use Rattle.std.specs.Prelude.{ℕ, zero, suc, ◌+◌, ◌*◌, Bool, false, cond, not, List, [], ◌++◌, eqb, ltb, length, take, drop, Result, Ok, Err}
use Rattle.std.proofs.lemmas.List.Edits.{sets}
use Rattle.refusal.specs.declared.Refusal.{Refusal}
use Rattle.refusal.specs.Outcome.{refusal_number}
use Rattle.refusal.specs.Refusals.{BAD_SIZE, DOES_NOT_FIT, TABLE_FULL, LIST_FULL, AREA_FULL}
use Rattle.utf8.specs.Chars.{chars, widths}
use Rattle.kinds.specs.Kinds.{NONE, STRING}
use Rattle.errors.specs.Layout.{width, numbers}
use Rattle.errors.specs.Errors.{errors_of, room_of}
use Rattle.lexer.specs.Lexeme.{Lexeme}
use Rattle.lexer.specs.Lex.{lex}
use Rattle.lexer.specs.Placed.{Placed, placed}
use Rattle.reading.specs.Reading.{Reading, error_at, after}
use Rattle.state.specs.declared.state.State.{State}
use Rattle.parts.specs.declared.part.Part.{Part}
use Rattle.parts.specs.declared.token.Token.{Token}
use Rattle.scanner.specs.declared.answer.Scanned.{Scanned}
use Rattle.state.specs.State.{advance}
use Rattle.state.specs.Fits.{fits}

-- how far a state and its buffers say that a source has been read
unfoldable pub view : List ℕ → State → List ℕ → List ℕ → Reading
view src s table list =
    record {
      rest = chars (drop s.place src);
      place = s.place;
      offset = s.offset;
      lines = take s.lines table;
      line = s.line;
      errors = errors_of s.errors list;
      mark = s.mark;
    }

-- xs at the front of a buffer; "later bytes keep their content"
abbrev pub written : {A : Type 0} → List A → List A → List A
written xs buffer = xs ++ drop (length xs) buffer

-- the place of a token's first byte
abbrev pub token_start : Reading → Lexeme → ℕ
token_start s x = s.place + widths (take x.skipped s.rest)

-- what goes to the text area: "text first, then value"
abbrev pub to_area : Placed → List ℕ
to_area p = cond p.text_differs p.lexeme.text [] ++ cond p.value_differs p.lexeme.value []

-- so many bytes from a place on, of the text area or of the source
abbrev pub part_from : Bool → ℕ → ℕ → Part
part_from area start len = record { area = area; start = start; end = start + len }

-- the text: from the area's first byte, or as the source has it
abbrev pub text_part : ℕ → Placed → Part
text_part start p = part_from p.text_differs (cond p.text_differs 0 start) (length p.lexeme.text)

-- the value: after the text in the area, or after the source's opening quote; without one, nothing
abbrev pub value_part : ℕ → Placed → Part
value_part start p =
    part_from p.value_differs
    (cond p.value_differs (cond p.text_differs (length p.lexeme.text) 0) (cond (eqb p.lexeme.kind STRING) (start + 1) start))
    (length p.lexeme.value)

-- the token of a lexeme, whose position was reached after the blanks
abbrev pub token_of : ℕ → ℕ → Reading → Placed → Token
token_of base start s p =
    record {
      kind = p.lexeme.kind;
      inserted = p.lexeme.inserted;
      position = base + (s.offset + p.lexeme.skipped);
      code = p.lexeme.code;
      text = text_part start p;
      value = value_part start p;
    }

-- what a scan comes to, or what there is room for: an offset, line starts, errors, and bytes of the
-- text area
pub record Extent : Type 0 where
  pub offset : ℕ
  pub lines : ℕ
  pub errors : ℕ
  pub bytes : ℕ

-- which refusal a scan gives that comes to so much, 0 for none: "a scan 6, 3, 7, 8, 9"
abbrev pub refusal_for : Bool → Extent → Extent → ℕ
refusal_for fit reached room =
    cond (not fit) DOES_NOT_FIT
    (cond (ltb room.offset reached.offset) BAD_SIZE
    (cond (ltb room.lines reached.lines) TABLE_FULL
    (cond (ltb room.errors reached.errors) LIST_FULL (cond (ltb room.bytes reached.bytes) AREA_FULL 0))))

-- how far a source has then been read, and so many bytes to be written, in a text of this size and
-- buffers of these lengths
abbrev pub refusal_of : Bool → ℕ → Reading → ℕ → ℕ → ℕ → ℕ → ℕ
refusal_of fit size u table list toWrite area =
    refusal_for fit
    (record { offset = u.offset; lines = length u.lines; errors = length u.errors; bytes = toWrite })
    (record { offset = size; lines = table; errors = list; bytes = area })

-- what a scan answers: the refusal by number, or 0; the state after it; and the token
pub record Answer : Type 0 where
  pub refusal : ℕ
  pub state : State
  pub token : Token

-- what a scan leaves in the buffers, and its answer
pub record ScanLeft : Type 0 where
  pub table : List ℕ
  pub list : List ℕ
  pub area : List ℕ
  pub answer : Answer

-- no token
abbrev pub no_part : Part
no_part = record { area = false; start = 0; end = 0 }

abbrev pub no_token : Token
no_token = record { kind = NONE; inserted = false; position = 0; code = 0; text = no_part; value = no_part }

-- what the code's answer to a scan of a state says: a refused scan leaves the state as it was, and
-- gives no token
abbrev pub gave_answer : Scanned → Answer
gave_answer x = record { refusal = 0; state = x.state; token = x.token }

abbrev pub answer_of : State → Result Scanned Refusal → Answer
answer_of s (Ok x) = gave_answer x
answer_of s (Err refusal) = record { refusal = refusal_number refusal; state = s; token = no_token }

-- "The answer is the number; state and buffers are those of entry."
abbrev pub refused_by : ℕ → State → List ℕ → List ℕ → List ℕ → ScanLeft
refused_by n s table list area =
    record { table = table; list = list; area = area; answer = record { refusal = n; state = s; token = no_token } }

-- the state that says how far a source has been read
abbrev pub state_of : State → Reading → State
state_of s u = advance s u.place u.offset u.mark (length u.lines) (length u.errors) u.line

-- the list with the error of a lexeme, if it has one, after the first n
abbrev pub with_error : ℕ → ℕ → List ℕ → Reading → List ℕ
with_error number n list u = cond (eqb number 0) list (sets list (n * width) (numbers (error_at number u.offset u.line)))

-- a scan that reads a lexeme, which lies in the source as p says, and comes to u
abbrev pub gave_by : State → Placed → Token → Reading → List ℕ → List ℕ → List ℕ → ScanLeft
gave_by s p token u table list area =
    record {
      table = written u.lines table;
      list = with_error p.lexeme.error s.errors list u;
      area = written (to_area p) area;
      answer = record { refusal = 0; state = state_of s u; token = token };
    }

-- a refusal by number, if it is not 0
abbrev pub unless : ℕ → ScanLeft → State → List ℕ → List ℕ → List ℕ → ScanLeft
unless zero a s table list area = a
unless (suc n) a s table list area = refused_by (suc n) s table list area

-- one scan, by what it reads and how far the source has been read
unfoldable pub scan_by : Lexeme → Reading → List ℕ → State → List ℕ → List ℕ → List ℕ → ScanLeft
scan_by x r src s table list area =
    let start = token_start r x in
    let p = placed src start x in
    let u = after s.size x r in
    unless (refusal_of (fits s src table list) s.size u (length table) (room_of list) (length (to_area p)) (length area))
    (gave_by s p (token_of s.base start r p) u table list area)
    s table list area

-- one scan
unfoldable pub scan_of : List ℕ → State → List ℕ → List ℕ → List ℕ → ScanLeft
scan_of src s table list area =
    let r = view src s table list in
    scan_by (lex r.mark r.rest) r src s table list area
