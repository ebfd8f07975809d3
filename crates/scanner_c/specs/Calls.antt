-- The exported function that makes one scan, by the definition of a scan.
use Rattle.std.specs.Prelude.{ℕ, cond, List, eqb, length}
use Rattle.std.proofs.lemmas.List.Edits.{sets}
use Rattle.refusal.specs.Refusals.{DOES_NOT_FIT}
use Rattle.refusal.specs.Short.{too_short}
use Rattle.state.specs.Layout.{state_width, state_in, state_numbers}
use Rattle.parts.specs.Layout.{token_width, token_numbers}
use Rattle.scanner.specs.Scan.{ScanLeft, scan_of}

-- what a scan leaves in the lent slices, and its refusal or 0
pub record ScanCallLeft : Type 0 where
  pub refusal : ℕ
  pub state : List ℕ
  pub table : List ℕ
  pub list : List ℕ
  pub area : List ℕ
  pub token : List ℕ

-- numbers go to the front of a list where there is no refusal
abbrev pub unless_refused : ℕ → List ℕ → List ℕ → List ℕ
unless_refused refusal numbers n = cond (eqb refusal 0) (sets n 0 numbers) n

-- a refused scan leaves state and token as they were
abbrev pub scanned_by : ScanLeft → List ℕ → List ℕ → ScanCallLeft
scanned_by a state token =
    record {
      refusal = a.answer.refusal;
      state = unless_refused a.answer.refusal (state_numbers a.answer.state) state;
      table = a.table;
      list = a.list;
      area = a.area;
      token = unless_refused a.answer.refusal (token_numbers a.answer.token) token;
    }

-- a slice that is too short for a state or a token is refused by 6, and nothing is written
unfoldable pub scan_numbers : List ℕ → List ℕ → List ℕ → List ℕ → List ℕ → List ℕ → ScanCallLeft
scan_numbers src state table list area token =
    cond (too_short (length state) state_width (length token) token_width)
    (record { refusal = DOES_NOT_FIT; state = state; table = table; list = list; area = area; token = token })
    (scanned_by (scan_of src (state_in state) table list area) state token)
