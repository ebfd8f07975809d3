-- Runs of calls: "one accepted opening and after it any list of scans, refused ones among them".
use Rattle.std.specs.Prelude.{ℕ, ◌≡◌, cond, List, [], ◌∷◌, ◌++◌, eqb, length, take}
use Rattle.std.proofs.Math.Option.{none}
use Rattle.utf8.specs.Chars.{chars}
use Rattle.refusal.specs.Outcome.{gave}
use Rattle.errors.specs.declared.layout.Error.{Error}
use Rattle.errors.specs.Errors.{errors_of}
use Rattle.state.specs.declared.state.State.{State}
use Rattle.opening.specs.Opening.{open_of}
use Rattle.parts.specs.Shown.{Shown}
use Rattle.parts.specs.declared.token.Token.{Token}
use Rattle.parts.specs.Text.{text_shown, value_shown}
use Rattle.scanner.specs.Scan.{ScanLeft, scan_of}

-- what goes from call to call: the state, the line table and the error list
pub record Held : Type 0 where
  pub state : State
  pub table : List ℕ
  pub list : List ℕ

-- an opening of a source that was accepted, whatever table was lent, left h; the error list is any
pub record Accepted (src : List ℕ) (base size : ℕ) (h : Held) : Type 0 where
  pub lent : List ℕ
  pub opening : open_of src base size lent
      ≡ record { table = h.table; outcome = gave (record { state = h.state; chars = length (chars src) }); place = none }

-- one scan, with a text area of its own
unfoldable pub call : List ℕ → List ℕ → Held → ScanLeft
call src area h = scan_of src h.state h.table h.list area

-- what it leaves for the next
abbrev pub left : ScanLeft → Held
left a = record { state = a.answer.state; table = a.table; list = a.list }

-- a token, with its text and value as the queries show them when its own scan returns
pub record Seen : Type 0 where
  pub token : Token
  pub text : Shown
  pub value : Shown

abbrev pub seen_in : List ℕ → ScanLeft → Seen
seen_in src a =
    record {
      token = a.answer.token;
      text = text_shown src a.area a.answer.token;
      value = value_shown src a.area a.answer.token;
    }

-- "Scans are numbered by those that gave a token."
abbrev pub given : List ℕ → ScanLeft → List Seen
given src a = cond (eqb a.answer.refusal 0) (seen_in src a ∷ []) []

-- a list of scans is the list of their text areas: what it leaves, and the tokens that it gives
unfoldable pub play : List ℕ → List (List ℕ) → Held → Held
play src [] h = h
play src (area ∷ areas) h = play src areas (left (call src area h))

unfoldable pub tokens : List ℕ → List (List ℕ) → Held → List Seen
tokens src [] h = []
tokens src (area ∷ areas) h = given src (call src area h) ++ tokens src areas (left (call src area h))

-- "Tables and lists are compared up to their counts."
abbrev pub lines_in : Held → List ℕ
lines_in h = take h.state.lines h.table

abbrev pub errors_in : Held → List Error
errors_in h = errors_of h.state.errors h.list

-- what a run has come to: the tokens given, the line starts and the errors
pub record Record : Type 0 where
  pub given : List Seen
  pub lines : List ℕ
  pub errors : List Error

unfoldable pub record_of : List ℕ → List (List ℕ) → Held → Record
record_of src areas h =
    record { given = tokens src areas h; lines = lines_in (play src areas h); errors = errors_in (play src areas h) }
