-- Steps of the code. No public contract cites this file. A scan by the lexer's answer.
use Rattle.std.specs.Prelude.{ℕ, ◌+◌, ◌*◌, ◌-◌, ◌≤◌, ◌<◌, ◌^◌, ◌≡◌, Bool, true, cond, not, ◌&&◌, List, eqb, length, take, drop, Result, Ok, Err}
use Rattle.std.proofs.lemmas.List.Edits.{sets}
use Rattle.refusal.specs.declared.Refusal.{Refusal}
use Rattle.refusal.specs.Outcome.{refusal_number}
use Rattle.utf8.specs.Chars.{chars}
use Rattle.kinds.specs.Kinds.{STRING}
use Rattle.kinds.specs.Number.{kind_number}
use Rattle.lines.specs.Starts.{starts_read}
use Rattle.position.specs.Lines.{line_start, line_in}
use Rattle.position.specs.Place.{fitting}
use Rattle.errors.specs.Faults.{error_number}
use Rattle.errors.specs.Layout.{width, numbers}
use Rattle.errors.specs.Errors.{room_of}
use Rattle.reading.specs.Reading.{error_at}
use Rattle.lexer.specs.declared.lexed.Lexed.{Lexed}
use Rattle.blanks.specs.declared.Skipped.{Skipped}
use Rattle.blanks.specs.Blank.{skip, skipped_at}
use Rattle.lexer.specs.Lex.{lex_token}
use Rattle.lexer.specs.Placed.{length_of, placed, said}
use Rattle.state.specs.declared.state.State.{State}
use Rattle.parts.specs.declared.token.Token.{Token}
use Rattle.state.specs.State.{advance}
use Rattle.state.specs.Fits.{file_of, fits}
use Rattle.scanner.specs.Scan.{part_from, written, to_area, refusal_for, ScanLeft}

-- how many bytes text and value have
abbrev pub text_len : Lexed → ℕ
text_len x = length_of x.text.bytes x.strays x.text.differs

abbrev pub value_len : Lexed → ℕ
value_len x = length_of x.value.bytes x.strays x.value.differs

-- how many bytes of the area a text or a value takes, if it goes there
abbrev pub area_len : ℕ → ℕ → Bool → ℕ
area_len bytes strays differs = cond differs (length_of bytes strays differs) 0

-- how many bytes are to be written of a token
abbrev pub to_write : Lexed → ℕ
to_write x = area_len x.text.bytes x.strays x.text.differs + area_len x.value.bytes x.strays x.value.differs

-- the first refusal of 3, 7, 8, 9, or 0: for the offset reached, the line starts and errors then,
-- and the lengths of the buffers
abbrev pub refusal_by : Lexed → ℕ → ℕ → State → ℕ → ℕ → ℕ → ℕ
refusal_by x offset starts s table list area =
    refusal_for true
    (record {
      offset = offset;
      lines = s.lines + starts;
      errors = s.errors + cond (eqb (error_number x.error) 0) 0 1;
      bytes = to_write x;
    })
    (record { offset = s.size; lines = table; errors = list; bytes = area })

-- the refusal that a check answers by number, or 0
abbrev pub refusal_in : Result (Unit {0}) Refusal → ℕ
refusal_in (Ok _) = 0
refusal_in (Err refusal) = refusal_number refusal

-- the state after a token that ends at an offset and records so many line starts, with the table
-- that has them
abbrev pub state_by : Lexed → ℕ → ℕ → State → List ℕ → State
state_by x offset starts s table =
    advance s x.end offset x.mark (s.lines + starts) (s.errors + cond (eqb (error_number x.error) 0) 0 1) (line_in table (s.lines + starts))

-- the token that was read at a place, with its position
abbrev pub token_by : Lexed → ℕ → ℕ → Token
token_by x start position =
    record {
      kind = kind_number x.kind;
      inserted = x.inserted;
      position = position;
      code = x.code;
      text = part_from x.text.differs (cond x.text.differs 0 start) (text_len x);
      value =
          part_from x.value.differs
          (cond x.value.differs (cond x.text.differs (text_len x) 0) (cond (eqb (kind_number x.kind) STRING) (start + 1) start))
          (value_len x);
    }

-- has it no error, and are text and value the source's own bytes?
abbrev pub is_plain : Lexed → Bool
is_plain x = eqb (error_number x.error) 0 && not x.text.differs && not x.value.differs

-- the line starts that the next characters record, so many of them
abbrev pub starts_from : List ℕ → State → ℕ → List ℕ
starts_from src s read = starts_read s.size s.offset (take read (chars (drop s.place src)))

-- the blanks at a state's place, and the token after them as the lexer says it
pub record Reads (src : List ℕ) (s : State) (b : Skipped) (x : Lexed) : Type 0 where
  pub skipped : b ≡ skipped_at s.place (skip s.mark (chars (drop s.place src)))
  pub token : said src b.end x ≡ placed src b.end (lex_token s.mark (chars (drop b.end src)))

-- what is known when a token was read: the state fits, and so many characters were read with the
-- blanks
pub record Known (src : List ℕ) (s : State) (table list : List ℕ) (b : Skipped) (x : Lexed) (read : ℕ) : Type 0 where
  pub holds : fits s src table list ≡ true
  pub reads : Reads src s b x
  pub chars : read ≡ b.end - s.place + x.chars

-- how a token that was read at a place, and all its characters and line starts, may be committed
pub record Ready (src : List ℕ) (s : State) (start : ℕ) (x : Lexed) (read starts : ℕ) (table list area : List ℕ) : Type 0 where
  pub counted : starts ≡ length (starts_from src s read)
  pub fitted : fitting (file_of s) table ≡ true
  pub last : line_start table s.lines ≤ s.offset
  pub sized : s.offset + read ≤ s.size
  pub table_room : s.lines + starts ≤ length table
  pub list_room : s.errors + cond (eqb (error_number x.error) 0) 0 1 ≤ room_of list
  pub area_room : to_write x ≤ length area
  -- its bytes come after the blanks
  pub behind : s.place ≤ start
  pub before : start ≤ x.end
  pub blanks : start - s.place ≤ read
  -- its text and value have as many bytes as it says
  pub area_length : length (to_area (said src start x)) ≡ to_write x
  pub text_length : length (said src start x).lexeme.text ≡ text_len x
  pub bytes : start + 1 + text_len x + value_len x < 2 ^ 64

-- what buffers hold
pub record BuffersLeft : Type 0 where
  pub table : List ℕ
  pub list : List ℕ
  pub area : List ℕ

-- what a token that was not refused leaves in the buffers
unfoldable pub left_of : List ℕ → State → ℕ → Lexed → ℕ → ℕ → List ℕ → List ℕ → List ℕ → BuffersLeft
left_of src s start x read starts table list area =
    let table' = sets table s.lines (starts_from src s read) in
    record {
      table = table';
      list =
          cond (eqb (error_number x.error) 0) list
          (sets list (s.errors * width) (numbers (error_at (error_number x.error) (s.offset + read) (line_in table' (s.lines + starts)))));
      area = written (to_area (said src start x)) area;
    }

-- the position of a token that starts at a place, with blanks of one byte each between the state's
-- place and it
abbrev pub position_by : State → ℕ → ℕ
position_by s start = s.base + s.offset + (start - s.place)

-- the same, and its answer
unfoldable pub commit_of : List ℕ → State → ℕ → Lexed → ℕ → ℕ → List ℕ → List ℕ → List ℕ → ScanLeft
commit_of src s start x read starts table list area =
    let l = left_of src s start x read starts table list area in
    record {
      table = l.table;
      list = l.list;
      area = l.area;
      answer =
          record { refusal = 0; state = state_by x (s.offset + read) starts s l.table; token = token_by x start (position_by s start) };
    }
