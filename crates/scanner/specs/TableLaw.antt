-- The law of the line table: what a scan comes to depends on it only through its length, its first
-- start and its last start. So another table can be lent in its place to see what a scan would come
-- to.
use Rattle.std.specs.Prelude.{ℕ, ◌+◌, ◌≡◌, List, length, get_or}
use Rattle.std.proofs.lemmas.List.Edits.{sets}
use Rattle.position.specs.Lines.{line_start}
use Rattle.state.specs.declared.state.State.{State}
use Rattle.scanner.specs.Scan.{ScanLeft, scan_of}

-- two tables that agree in these three, as a state counts the starts
pub record Alike (s : State) (one two : List ℕ) : Type 0 where
  pub length : length one ≡ length two
  pub first : get_or one 0 0 ≡ get_or two 0 0
  pub last : line_start one s.lines ≡ line_start two s.lines

-- what two scans leave that were lent such tables
pub record SameScan (s : State) (one two : List ℕ) (a b : ScanLeft) : Type 0 where
  -- the same refusal, state and token, and the same list and area
  pub answer : a.answer ≡ b.answer
  pub list : a.list ≡ b.list
  pub area : a.area ≡ b.area
  -- the same starts, after those that each table has; none where the scan is refused
  pub starts : List ℕ
  pub table_one : a.table ≡ sets one s.lines starts
  pub table_two : b.table ≡ sets two s.lines starts
  pub count : a.answer.state.lines ≡ s.lines + length starts

-- of every source, state and buffers
abbrev pub TableLaw : Type 0
TableLaw =
    (src : List ℕ) (s : State) (one two list area : List ℕ) → Alike s one two
    → SameScan s one two (scan_of src s one list area) (scan_of src s two list area)
