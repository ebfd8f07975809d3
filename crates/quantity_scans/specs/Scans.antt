-- What `is_given` means: refusal 10 has "no scan gives that kind such a text".
use Rattle.std.specs.Prelude.{ℕ, ◌≡◌, true, List}
use Rattle.state.specs.declared.state.State.{State}
use Rattle.parts.specs.Text.{text_shown}
use Rattle.scanner.specs.Scan.{scan_of}
use Rattle.quantity_query.specs.Given.{is_real, is_given}

-- a scan that gives a token of a kind, which shows a text when the scan returns
pub record ScanGives (kind : ℕ) (text : List ℕ) : Type 0 where
  -- any source, state and lent buffers
  pub src : List ℕ
  pub state : State
  pub table : List ℕ
  pub list : List ℕ
  pub area : List ℕ
  pub accepted : (scan_of src state table list area).answer.refusal ≡ 0
  pub kind_is : (scan_of src state table list area).answer.token.kind ≡ kind
  pub shows : text_shown src (scan_of src state table list area).area (scan_of src state table list area).answer.token
      ≡ record { bytes = text; refusal = 0 }

-- `is_given` holds of a kind and a text exactly where the kind is INT or FLOAT and a scan gives them.
-- (The proof of `scanned` has the text as the source, or an octal text without its o.)
pub record GivenByScan : Type 0 where
  pub real : (kind : ℕ) (text : List ℕ) → is_given kind text ≡ true → is_real kind ≡ true
  pub scanned : (kind : ℕ) (text : List ℕ) → is_given kind text ≡ true → ScanGives kind text
  pub is_given_lem : (kind : ℕ) (text : List ℕ) → is_real kind ≡ true → ScanGives kind text → is_given kind text ≡ true
