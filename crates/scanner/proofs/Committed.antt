-- What a token that passes the checks leaves after: a state that fits its table, and the buffers of the definition.
use Prim.Native.Nat.{ℕ, ◌+◌, ◌*◌, ◌≤◌, ◌<◌, ◌^◌}
use mathlib.Core.Path.{◌≡◌, ap}
use mathlib.Core.Bool.{true, false, cond, not, ◌&&◌}
use mathlib.Core.List.{List}
use native.Mathlib.Omega.{arith}
use lib.Dec.{eqb}
use lib.ListN.{length, take, drop, length-take}
use lib.Seq.{sets, length-sets}
use borrow.Author.Tests.{not-true}
use Rattle.basics.proofs.Choice.{and_split}
use Rattle.utf8.specs.Chars.{chars}
use Rattle.position.specs.declared.Line.{Line}
use Rattle.position.specs.Lines.{line_start}
use Rattle.position.proofs.Place.{Fit, fit, last_start}
use Rattle.lines.proofs.Reading.{read_new}
use Rattle.lines.proofs.Kept.{read_last}
use Rattle.lines.proofs.Current.{sets_line}
use Rattle.errors.specs.Faults.{error_number}
use Rattle.errors.specs.Layout.{width, numbers}
use Rattle.errors.specs.Errors.{room_of}
use Rattle.reading.specs.Reading.{error_at}
use Rattle.lexer.specs.declared.lexed.Lexed.{Lexed}
use Rattle.lexer.specs.Placed.{said}
use Rattle.state.specs.declared.state.State.{State}
use Rattle.state.specs.Fits.{file_of}
use Rattle.scanner.specs.Scan.{Answer, written, to_area, ScanLeft}
use Rattle.scanner.specs.Steps.{state_by, token_by, position_by, starts_from, is_plain, Ready, BuffersLeft, left_of, commit_of}

-- what a plain token has
pub plain : (x : Lexed) → is_plain x ≡ true → (eqb (error_number x.error) 0 ≡ true) × (x.text.differs ≡ false) × (x.value.differs ≡ false)
plain x p =
    let a = and_split (eqb (error_number x.error) 0 && not x.text.differs) (not x.value.differs) p in
    let b = and_split (eqb (error_number x.error) 0) (not x.text.differs) a.0 in
    (b.0, not-true _ b.1, not-true _ a.1)

module _ (src : List ℕ) (s : State) (start : ℕ) (x : Lexed) (read starts : ℕ) (table list area : List ℕ) where
  abbrev recorded : List ℕ
  recorded = sets table s.lines (starts_from src s read)

  -- the state after it, with the table as it is left
  abbrev after : List ℕ → State
  after t = state_by x (s.offset + read) starts s t

  module _ (k : Ready src s start x read starts table list area) where
    abbrev file : Fit (file_of s) table
    file = fit (file_of s) table k.fitted

    -- the table holds the starts, and one error more can be counted
    pub state_ready : {t : List ℕ} → t ≡ recorded → length list < 2 ^ 63 → (1 ≤ s.lines) × (s.lines + starts ≤ length t) × (s.errors + 1 < 2 ^ 64)
    state_ready f short =
        (file.some, rw (f, length-sets table s.lines (starts_from src s read)) k.table_room, omega (arith, k.list_room))

    -- and the last of them is not above the offset
    last_below : line_start recorded (s.lines + starts) ≤ s.offset + read
    last_below =
        let cs = take read (chars (drop s.place src)) in
        let before : line_start (take s.lines table) (length (take s.lines table)) ≤ s.offset = rw (last_start (file_of s) table file) k.last in
        let written = sets_line table s.lines (starts_from src s read) file.some (rw k.counted at k.table_room) in
        let below = rw (read_new s.size s.offset cs (take s.lines table) before) at (read_last s.size s.offset cs (take s.lines table) before) in
        rw (k.counted, ← ap (λ (l : Line). l.start) written) (omega (arith, below, length-take read (chars (drop s.place src))))

    -- the error may be recorded
    pub error_ready : {a : State} {t : List ℕ} → t ≡ recorded → a ≡ after t
        → (a.line.start ≤ a.offset) × (a.offset + 1 < 2 ^ 64) × (s.errors + cond (eqb (error_number x.error) 0) 0 1 ≤ room_of list)
    error_ready f e = rw (e, f) (last_below, omega (arith, file.top, k.sized), k.list_room)

    pub position_fits : position_by s start < 2 ^ 64
    position_fits = omega (arith, file.top, k.sized, k.blanks)

  pub left_is : {a : State} {t l b : List ℕ} → t ≡ recorded → a ≡ after t
      → l ≡ cond (eqb (error_number x.error) 0) list (sets list (s.errors * width) (numbers (error_at (error_number x.error) a.offset a.line)))
      → b ≡ written (to_area (said src start x)) area
      → ◌≡◌ {A = BuffersLeft} (record { table = t; list = l; area = b }) (left_of src s start x read starts table list area)
  unfolding left_of
  left_is f e g h = rw (g, h, e, f)

  pub commit_is : {l : BuffersLeft} {a : Answer} → l ≡ left_of src s start x read starts table list area
      → a ≡ record { refusal = 0; state = after l.table; token = token_by x start (position_by s start) }
      → ◌≡◌ {A = ScanLeft} (record { table = l.table; list = l.list; area = l.area; answer = a }) (commit_of src s start x read starts table list area)
  unfolding commit_of
  commit_is e f = rw (f, e)

  -- a plain token leaves the area as it is
  nothing : is_plain x ≡ true → written (to_area (said src start x)) area ≡ area
  unfolding said
  nothing p = rw ((plain x p).1, (plain x p).2)

  plain_left : {t : List ℕ} → is_plain x ≡ true → t ≡ recorded
      → ◌≡◌ {A = BuffersLeft} (record { table = t; list = list; area = area }) (left_of src s start x read starts table list area)
  unfolding left_of
  plain_left p f = rw (f, nothing p, (plain x p).0)

  pub commit_plain_is : {t : List ℕ} {a : Answer} → is_plain x ≡ true → t ≡ recorded
      → a ≡ record { refusal = 0; state = after t; token = token_by x start (position_by s start) }
      → ◌≡◌ {A = ScanLeft} (record { table = t; list = list; area = area; answer = a }) (commit_of src s start x read starts table list area)
  commit_plain_is p f g = commit_is (plain_left p f) g
