-- Steps of the code. No public contract cites this file. Runs of simple tokens and rounds of scans.
use Rattle.std.specs.Prelude.{ℕ, ◌+◌, ◌-◌, ◌≤◌, ◌<◌, ◌≡◌, ◌^◌, Bool, true, List, ◌⊎◌, length, drop, set, Option, IfSome, Result, Ok, Err}
use Rattle.std.specs.declared.ops.ControlFlow.{ControlFlow}
use Rattle.std.specs.declared.ops.ControlFlow.TheVariants.{Continue, Break}
use Rattle.utf8.specs.Chars.{chars}
use Rattle.refusal.specs.declared.Refusal.{Refusal}
use Rattle.refusal.specs.Outcome.{refusal_number}
use Rattle.position.specs.Lines.{line_in}
use Rattle.blanks.specs.declared.Skipped.{Skipped}
use Rattle.blanks.specs.Blank.{skip, skipped_at}
use Rattle.state.specs.declared.state.State.{State}
use Rattle.state.specs.State.{advance}
use Rattle.state.specs.Fits.{fits}
use Rattle.scanner.specs.Scan.{scan_of}
use Rattle.batch.specs.declared.step.Reached.{Reached}
use Rattle.batch.specs.declared.near.Near.{Near}
use Rattle.batch.specs.declared.run.Batch.{Batch}
use Rattle.batch.specs.declared.next.Next.{Next}
use Rattle.batch.specs.Near.{line_from, near_as}
use Rattle.batch.specs.Simple.{Gave}
use Rattle.batch.specs.Many.{stopped, many_of, token_room, left_after}

-- there is room for a token after so many
abbrev pub HasRoom : ℕ → List ℕ → Type 0
HasRoom count tokens = count < token_room tokens

-- the state at a place after simple tokens, whose characters are of one byte each; the table has the
-- line starts before it
abbrev pub state_at : State → ℕ → Bool → ℕ → List ℕ → State
state_at s place mark lines table = advance s place (s.offset + (place - s.place)) mark lines s.errors (line_in table lines)

-- the state where a run has come to
abbrev pub reached : State → Reached → List ℕ → State
reached s r table = state_at s r.place r.mark r.lines table

-- where a run starts
abbrev pub start_at : State → Reached
start_at s = record { place = s.place; mark = s.mark; lines = s.lines }

-- from each place before the safe one more than sixteen bytes are in the source, and the offset
-- stays below the size
abbrev pub IsSafe : List ℕ → State → ℕ → Type 0
IsSafe src s safe = (p : ℕ) → p < safe → (p + 16 < length src) × (p + 16 < s.place + (s.size - s.offset))

-- what is written after blanks: nothing, or after one line feed where the next line starts
abbrev pub Recorded : State → Skipped → List ℕ → List ℕ → Type 0
Recorded s b table table' =
    ((b.lfs ≤ 0) × (table' ≡ table)) ⊎ ((b.lfs ≡ 1) × (s.lines < length table) × (table' ≡ set table s.lines (s.offset + (line_from s.place b.line - s.place))))

-- such blanks end before the safe place, and there is room for their line start
abbrev pub IsReady : Near → ℕ → ℕ → List ℕ → Type 0
IsReady blanks safe lines table = (blanks.end < safe) × IfSome blanks.line (λ line. lines < length table)

-- where they are found, they are all blanks where a run has come to
abbrev pub ReadyAt : List ℕ → Reached → ℕ → List ℕ → Option Near → Type 0
ReadyAt src at safe table r =
    IfSome r (λ blanks. (near_as at.place blanks ≡ skipped_at at.place (skip at.mark (chars (drop at.place src)))) × IsReady blanks safe at.lines table)

-- the next token of a run is this one, after these blanks
abbrev pub IsNext : List ℕ → State → ℕ → Reached → List ℕ → Near → Next → Type 0
IsNext src s safe at table blanks next =
    (near_as at.place blanks ≡ skipped_at at.place (skip at.mark (chars (drop at.place src)))) × IsReady blanks safe at.lines table
    × Gave src blanks.end safe (s.base + s.offset + (blanks.end - s.place)) next

-- their line start lies behind the place, its offset is small, and there is room for it
abbrev pub IsLined : State → Reached → Near → List ℕ → Type 0
IsLined s at blanks table =
    (s.place ≤ at.place) × IfSome blanks.line (λ line. (at.place ≤ line) × (s.offset + (line - s.place) < 2 ^ 64) × (at.lines < length table))

-- from a state and n tokens simple tokens lead to another state and n' tokens: the scans that are
-- left give the same; with no token more, the next scan is the same
pub record Leads (room : ℕ) (src list : List ℕ) (s : State) (table tokens : List ℕ) (n : ℕ) (s' : State) (table' tokens' : List ℕ) (n' : ℕ) : Type 0 where
  pub fit : fits s' src table' list ≡ true
  pub over : n ≤ n'
  pub within : n ≤ room → n' ≤ room
  pub left : (area : List ℕ)
      → left_after n tokens (many_of (room - n) src s table list area) ≡ left_after n' tokens' (many_of (room - n') src s' table' list area)
  pub same : n' ≡ n → (area : List ℕ) → scan_of src s table list area ≡ scan_of src s' table' list area

-- from a state and its count rounds of scans lead to others, from which scans go on; with no token
-- more, the next scan is refused as this one
pub record Goes (room : ℕ) (src : List ℕ) (from : Batch) (table list area tokens : List ℕ) (to : Batch) (table' list' area' tokens' : List ℕ) : Type 0 where
  pub fit : fits to.state src table' list' ≡ true
  pub over : from.count ≤ to.count
  pub below : to.count < room
  pub left : left_after from.count tokens (many_of (room - from.count) src from.state table list area)
      ≡ left_after to.count tokens' (many_of (room - to.count) src to.state table' list' area')
  pub same : to.count ≡ from.count → (scan_of src from.state table list area).answer.refusal ≡ (scan_of src to.state table' list' area').answer.refusal

-- from a state and its count rounds of scans come to their end at others, with some token
pub record Ends (room : ℕ) (src : List ℕ) (from : Batch) (table list area tokens : List ℕ) (to : Batch) (table' list' area' tokens' : List ℕ) : Type 0 where
  pub fit : fits to.state src table' list' ≡ true
  pub some : 0 < to.count
  pub left : left_after from.count tokens (many_of (room - from.count) src from.state table list area)
      ≡ left_after to.count tokens' (stopped to.state table' list' area')

-- from a state and no token the next scan is refused
pub record Refused (room : ℕ) (src : List ℕ) (from : Batch) (table list area tokens : List ℕ) (refusal : Refusal) (table' list' area' tokens' : List ℕ) : Type 0 where
  pub last : State
  pub none : from.count ≡ 0
  pub number : (scan_of src from.state table list area).answer.refusal ≡ refusal_number refusal
  pub left : left_after from.count tokens (many_of (room - from.count) src from.state table list area)
      ≡ left_after 0 tokens' (stopped last table' list' area')

-- a round gives some token more and scans go on, or it is the last
abbrev pub Comes : ℕ → List ℕ → Batch → List ℕ → List ℕ → List ℕ → List ℕ → ControlFlow (Result Batch Refusal) Batch → List ℕ → List ℕ → List ℕ → List ℕ → Type 0
Comes room src from table list area tokens (Continue to) table' list' area' tokens' =
    Goes room src from table list area tokens to table' list' area' tokens' × (from.count < to.count)
Comes room src from table list area tokens (Break (Ok to)) table' list' area' tokens' = Ends room src from table list area tokens to table' list' area' tokens'
Comes room src from table list area tokens (Break (Err refusal)) table' list' area' tokens' =
    Refused room src from table list area tokens refusal table' list' area' tokens'

-- the state that rounds end with has its line, and the table its line start
abbrev pub HasLine : Result Batch Refusal → List ℕ → Type 0
HasLine (Ok b) table = (b.state.line ≡ line_in table b.state.lines) × (1 ≤ b.state.lines) × (b.state.lines ≤ length table)
HasLine (Err refusal) table = Unit {0}
