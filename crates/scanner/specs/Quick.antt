-- Steps of the code. No public contract cites this file. Scans of tokens that are given at once.
use Rattle.std.specs.Prelude.{ℕ, ◌+◌, ◌-◌, ◌≤◌, ◌<◌, ◌^◌, ◌≡◌, Bool, true, false, cond, ◌&&◌, List, [], ◌∷◌, eqb, ltb, length, get_or, Option, MatchOption}
use Prim.Native.Char.{code}
use Rattle.position.specs.declared.Line.{Line}
use Rattle.position.specs.Lines.{line_in}
use Rattle.blanks.specs.declared.Skipped.{Skipped}
use Rattle.lexer.specs.declared.lexed.Lexed.{Lexed}
use Rattle.state.specs.declared.state.State.{State}
use Rattle.state.specs.State.{advance}
use Rattle.scanner.specs.declared.answer.Scanned.{Scanned}
use Rattle.scanner.specs.Scan.{gave_answer, scan_of}
use Rattle.scanner.specs.Steps.{text_len, value_len, token_by, is_plain, starts_from, position_by}

-- has a token no line feed but perhaps its last byte?
unfoldable pub ends_in_feed : List ℕ → Lexed → Bool
ends_in_feed src x = cond (eqb x.lfs 0) true (cond (ltb 1 x.lfs) false (eqb (get_or src (x.end - 1) 0) (code "\n")))

-- the line start after such a token, which ends at an offset
abbrev pub start_after : Lexed → ℕ → List ℕ
start_after x offset = cond (eqb x.lfs 0) [] (offset ∷ [])

-- a plain token that ends before the size at an offset
abbrev pub is_quick : State → Lexed → ℕ → Bool
is_quick s x offset = is_plain x && ltb offset s.size

-- what a plain token after blanks is given by: numbers that fit
pub record PlainReady (s : State) (b : Skipped) (x : Lexed) : Type 0 where
  pub behind : s.place ≤ b.end
  pub position : position_by s b.end < 2 ^ 64
  pub text : x.text.differs ≡ false
  pub value : x.value.differs ≡ false
  pub bytes : b.end + 1 + text_len x + value_len x < 2 ^ 64

-- and where it has no line feed but perhaps its last byte: the starts of the blanks, and room in the
-- table
pub record QuickReady (src : List ℕ) (s : State) (b : Skipped) (x : Lexed) (table : List ℕ) : Type 0 where
  pub plain : PlainReady s b x
  pub some : 1 ≤ s.lines
  pub starts : b.lfs ≡ length (starts_from src s (b.end - s.place))
  pub table_room : s.lines + (b.lfs + x.lfs) ≤ length table

-- the token, and the state at the offset where it ends: with so many lines, on this one
abbrev pub plain_token : State → Skipped → Lexed → ℕ → ℕ → Line → Scanned
plain_token s b x offset lines line =
    record {
      state = advance s x.end offset x.mark lines s.errors line;
      token = token_by x b.end (position_by s b.end);
    }

-- with the table that has its line starts
abbrev pub quick_token : State → Skipped → Lexed → ℕ → List ℕ → Scanned
quick_token s b x offset table =
    let lines = s.lines + (b.lfs + x.lfs) in
    plain_token s b x offset lines (line_in table lines)

-- what is given is what the scan gives, with list and area as they are; where nothing is, the table
-- is as it was
abbrev pub Tries : List ℕ → State → List ℕ → List ℕ → Option Scanned → List ℕ → Type 0
Tries src s table list r table' =
    MatchOption r (table' ≡ table)
    (λ x. (area : List ℕ) → scan_of src s table list area ≡ record { table = table'; list = list; area = area; answer = gave_answer x })
