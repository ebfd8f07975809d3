-- Questions about a text that is being scanned.
use Rattle.std.specs.Prelude.{ℕ, cond, List}
use Rattle.std.proofs.Math.Option.{Option}
use Rattle.refusal.specs.Outcome.{Outcome, refused}
use Rattle.refusal.specs.Refusals.{DOES_NOT_FIT}
use Rattle.position.specs.declared.Position.{Position}
use Rattle.position.specs.Queries.{position_of, line_start_of}
use Rattle.errors.specs.declared.layout.Error.{Error}
use Rattle.errors.specs.Errors.{get_of}
use Rattle.state.specs.declared.state.State.{State}
use Rattle.state.specs.Fits.{file_of, fits_alone, fits_lines}

-- "a query 6, 4 or 5": the place of a position, the start of a line
unfoldable pub position_in : State → List ℕ → ℕ → Outcome Position
position_in s table p = cond (fits_lines s table) (position_of (file_of s) table p) (refused DOES_NOT_FIT)

unfoldable pub line_start_in : State → List ℕ → ℕ → Outcome ℕ
line_start_in s table line = cond (fits_lines s table) (line_start_of (file_of s) table line s.offset) (refused DOES_NOT_FIT)

-- the error at an index
unfoldable pub error_in : State → List ℕ → ℕ → Outcome (Option Error)
error_in s list i = cond (fits_alone s) (get_of list s.errors i) (refused DOES_NOT_FIT)
