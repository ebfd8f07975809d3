-- The law of the current line over calls: a state that fits has the last line of its table. Where
-- the starts rise, that is the table's answer for the offset. An error has the line and the column of
-- the state after its call.
use Rattle.std.specs.Prelude.{ℕ, ◌+◌, ◌-◌, ◌≡◌, true, List, ◌≢◌}
use Rattle.refusal.specs.Outcome.{refused}
use Rattle.refusal.specs.Refusals.{DOES_NOT_FIT}
use Rattle.position.specs.Lines.{line_in, StrictlyRising}
use Rattle.errors.specs.declared.layout.Error.{Error}
use Rattle.lines.specs.LineLaw.{Current}
use Rattle.state.specs.Fits.{fits}
use Rattle.queries.specs.Queries.{position_in, line_start_in, error_in}
use Rattle.scanner.specs.Scan.{ScanLeft}
use Rattle.runs.specs.Calls.{Held, Accepted, call, left, lines_in}
use Rattle.runs.specs.Errors.{Adds}

-- the starts in the table rise, none is above the state's offset, and its line is their answer for
-- this offset
abbrev pub CurrentLine : Held → Type 0
CurrentLine h = Current (lines_in h) h.state.offset h.state.line

-- request 2: "errors take theirs from it", the state
pub record FromState (a : ScanLeft) (e : Error) : Type 0 where
  pub line : e.line ≡ a.answer.state.line.number
  pub column : e.column ≡ a.answer.state.offset - a.answer.state.line.start + 1

-- the state goes together with the source and the buffers
abbrev pub Fits : List ℕ → Held → Type 0
Fits src h = fits h.state src h.table h.list ≡ true

-- for every source, state and buffers
pub record CallLines : Type 0 where
  -- an accepted opening fits, and so does what a call leaves of what fits
  pub opening_fits : (src : List ℕ) (base size : ℕ) (h : Held) → Accepted src base size h → Fits src h
  pub fits_kept : (src area : List ℕ) (h : Held) → Fits src h → Fits src (left (call src area h))
  -- what fits has the last line of its table; where the starts rise, this is the table's answer
  pub last_line : (src : List ℕ) (h : Held) → Fits src h → h.state.line ≡ line_in h.table h.state.lines
  pub rising_line : (src : List ℕ) (h : Held) → Fits src h → StrictlyRising (lines_in h) → CurrentLine h
  -- an accepted opening has it, and every call keeps it
  pub opening_line : (src : List ℕ) (base size : ℕ) (h : Held) → Accepted src base size h → CurrentLine h
  pub line_kept : (src area : List ℕ) (h : Held) → CurrentLine h → CurrentLine (left (call src area h))
  -- with another line a scan is refused, and so is a question about lines
  pub wrong_scan : (src area : List ℕ) (h : Held) → h.state.line ≢ line_in h.table h.state.lines
      → (call src area h).answer.refusal ≡ DOES_NOT_FIT
  pub wrong_position : (h : Held) (p : ℕ) → h.state.line ≢ line_in h.table h.state.lines
      → position_in h.state h.table p ≡ refused DOES_NOT_FIT
  pub wrong_line : (h : Held) (line : ℕ) → h.state.line ≢ line_in h.table h.state.lines
      → line_start_in h.state h.table line ≡ refused DOES_NOT_FIT
  -- and a question about errors, which is lent no table, where the line is not the line count
  pub wrong_error : (h : Held) (i : ℕ) → h.state.line.number ≢ h.state.lines → error_in h.state h.list i ≡ refused DOES_NOT_FIT
  -- an error that a call adds
  pub errors : (src area : List ℕ) (h : Held) (e : Error) → Adds h (call src area h) e → FromState (call src area h) e
