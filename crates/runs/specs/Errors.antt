-- Every call that gives an ILLEGAL adds an error, and a call that adds one has a cause.
use Rattle.std.specs.Prelude.{ℕ, suc, ◌≡◌, List, [], ◌∷◌, ◌++◌, ◌≢◌, ◌⊎◌}
use Rattle.kinds.specs.Kinds.{ILLEGAL}
use Rattle.errors.specs.declared.layout.Error.{Error}
use Rattle.lexer.specs.ErrorLaw.{LeftOpen}
use Rattle.lexer.specs.Lex.{lex}
use Rattle.reading.specs.Run.{scanned}
use Rattle.scanner.specs.Scan.{view, ScanLeft}
use Rattle.runs.specs.Calls.{Held, call, left, errors_in}

-- a call that was given h and left a has added the error e, and no other
pub record Adds (h : Held) (a : ScanLeft) (e : Error) : Type 0 where
  -- the call is not refused
  pub accepted : a.answer.refusal ≡ 0
  -- the error count rises by one
  pub count : a.answer.state.errors ≡ suc h.state.errors
  -- e follows the errors that were there
  pub list : errors_in (left a) ≡ errors_in h ++ (e ∷ [])
  -- at the offset that the call comes to
  pub place : e.offset ≡ a.answer.state.offset
  -- 0 would mean no error
  pub number : e.number ≢ 0

-- a call that was given src and h, and left a
pub record AnswerErrors (src : List ℕ) (h : Held) (a : ScanLeft) : Type 0 where
  -- request 1: "Every illegal token carries an error."
  pub illegal_has_error : a.answer.token.kind ≡ ILLEGAL → (e : Error) × Adds h a e
  -- where the next token of the source is ILLEGAL, the call is refused and leaves state, table and
  -- list as they were, or it gives an ILLEGAL
  pub illegal_or_refused : (scanned lex (view src h.state h.table h.list)).kind ≡ ILLEGAL
      → ((a.answer.refusal ≢ 0) × (left a ≡ h)) ⊎ (a.answer.token.kind ≡ ILLEGAL)
  -- a call that changes the errors adds one, and gives an ILLEGAL, or a raw string or a comment that
  -- is left open
  pub error_has_cause : errors_in (left a) ≢ errors_in h
      → (e : Error) × Adds h a e × ((a.answer.token.kind ≡ ILLEGAL) ⊎ LeftOpen a.answer.token.kind e.number)

-- of every source, state and buffers
abbrev pub CallErrors : Type 0
CallErrors = (src area : List ℕ) (h : Held) → AnswerErrors src h (call src area h)
