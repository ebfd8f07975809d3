-- A plain token after blanks with at most one line feed is given as a scan gives it, where it ends before the size and the table has room.
use Prim.Native.Nat.{ℕ, ◌+◌, ◌-◌, ◌≤◌, ◌<◌}
use mathlib.Core.Path.{◌≡◌, sym, ap, ◌∙◌}
use mathlib.Core.Bool.{true, false}
use mathlib.Core.List.{List, [], ◌∷◌}
use mathlib.Core.Logic.{inl, inr}
use native.Mathlib.Nat.{add-zero}
use native.Mathlib.Omega.{arith}
use lib.Dec.{eqb}
use lib.ListN.{length, length-set}
use lib.Seq.{sets}
use borrow.Author.Tests.{le-leb, eqb-true}
use Rattle.kinds.specs.Kinds.{EOF}
use Rattle.kinds.specs.Number.{kind_number}
use Rattle.errors.specs.Faults.{error_number}
use Rattle.position.proofs.Place.{Fit, fit}
use Rattle.errors.specs.Errors.{room_of}
use Rattle.blanks.specs.declared.Skipped.{Skipped}
use Rattle.blanks.specs.Blank.{skip}
use Rattle.lexer.specs.declared.lexed.Lexed.{Lexed}
use Rattle.state.specs.declared.state.State.{State}
use Rattle.state.specs.Fits.{file_of, fits}
use Rattle.parts.specs.declared.token.Token.{Token}
use Rattle.scanner.specs.Scan.{Answer, ScanLeft, scan_of}
use Rattle.scanner.specs.Steps.{Reads, to_write, is_plain, refusal_by, state_by, token_by, starts_from}
use Rattle.batch.specs.Many.{is_last}
use Rattle.batch.specs.Near.{line_from}
use Rattle.batch.specs.Run.{state_at, Recorded}
use Rattle.batch.proofs.Spaces.{line_skipped}
use Rattle.scanner.proofs.Refusals.{refusal_none, list_none}
use Rattle.scanner.proofs.Pass.{left, start_behind, read, read_bound, end_behind, feeds_read, starts_feeds, sets_none}
use Rattle.scanner.proofs.Scans.{Held, held, scan_gave}
use Rattle.scanner.proofs.Committed.{plain, commit_plain_is}
use Rattle.scanner.proofs.LineStarts.{starts_one}

-- what a scan leaves that gives a token and writes to the table alone
abbrev pub gave : State → Token → List ℕ → List ℕ → List ℕ → ScanLeft
gave next token table list area = record { table = table; list = list; area = area; answer = record { refusal = 0; state = next; token = token } }

module _ (s : State) (b : Skipped) (table table' : List ℕ) where
  pub recorded_room : s.lines ≤ length table → Recorded s b table table' → s.lines + b.lfs ≤ length table
  recorded_room h (inl w) = omega (arith, w.0)
  recorded_room h (inr w) = omega (arith, w.0, w.1)

  pub recorded_length : Recorded s b table table' → length table' ≡ length table
  recorded_length (inl w) = ap length w.1
  recorded_length (inr w) = ap length w.2 ∙ length-set table s.lines (s.offset + (line_from s.place b.line - s.place))

-- ---- a plain token of ASCII characters without a line feed, after its blanks
module _ (src : List ℕ) (s : State) (table list : List ℕ) (b : Skipped) (x : Lexed) (holds : fits s src table list ≡ true) (r : Reads src s b x)
    (p : is_plain x ≡ true) (ascii : x.chars ≡ x.end - b.end) (feeds : x.lfs ≡ 0) where
  abbrev start : ℕ
  start = b.end

  kept : Held s src table list
  kept = held s src table list holds

  file : Fit (file_of s) table
  file = fit (file_of s) table kept.fitted

  start_at : start ≡ s.place + (skip s.mark (left src s start)).len
  start_at = ap (λ (k : Skipped). k.end) r.skipped

  feeds_at : b.lfs ≡ (skip s.mark (left src s start)).lfs
  feeds_at = ap (λ (k : Skipped). k.lfs) r.skipped

  line_at : line_from s.place b.line ≡ s.place + (skip s.mark (left src s start)).line
  line_at = ap (λ (k : Skipped). line_from s.place k.line) r.skipped ∙ line_skipped s.place (skip s.mark (left src s start))

  abbrev here : ℕ
  here = read src s start start_at x r.token

  start_over : s.place ≤ start
  start_over = start_behind src s start start_at

  pub end_over : start ≤ x.end
  end_over = end_behind src s start start_at x r.token

  -- all characters are of one byte
  here_is : here ≡ x.end - s.place
  here_is = omega (arith, start_over, end_over, ascii)

  nothing : to_write x ≡ 0
  nothing = rw ((plain x p).1, (plain x p).2)

  -- ---- before the size
  module _ (l : s.offset + (x.end - s.place) < s.size) where
    inside : s.offset + here < s.size
    inside = omega (arith, here_is)

    -- each line feed of the blanks starts a line
    counted : b.lfs ≡ length (starts_from src s here)
    counted =
        starts_feeds s.size s.offset here b.lfs (left src s start) (read_bound src s start start_at x r.token)
        (sym (ap (λ n. b.lfs + n) feeds ∙ add-zero b.lfs) ∙ feeds_read src s start start_at x r.token feeds_at)
        inside

    -- one line feed among them starts the line after it
    one_start : b.lfs ≡ 1 → starts_from src s here ≡ (s.offset + (line_from s.place b.line - s.place)) ∷ []
    one_start f =
        let k : (skip s.mark (left src s start)).line ≡ line_from s.place b.line - s.place = omega (arith, line_at) in
        starts_one src s start start_at x r.token feeds (sym feeds_at ∙ f) inside ∙ ap (λ n. (s.offset + n) ∷ []) k

    module _ {table' : List ℕ} (w : Recorded s b table table') where
      room : s.lines + b.lfs ≤ length table
      room = recorded_room s b table table' file.held w

      passes : (area : List ℕ) → refusal_by x (s.offset + here) b.lfs s (length table) (room_of list) (length area) ≡ 0
      passes area =
          sym
          (refusal_none x (s.offset + here) b.lfs s (length table) (room_of list) (length area) (omega (arith, inside)) file.held (omega (arith, room))
          (list_none (error_number x.error) s.errors (room_of list) (eqb-true _ _ (plain x p).0) kept.errors)
          (sym (le-leb (to_write x) (length area) (omega (arith, nothing)))))

      written : Recorded s b table table' → table' ≡ sets table s.lines (starts_from src s here)
      written (inl h) = h.1 ∙ sets_none table s.lines (starts_from src s here) (omega (arith, counted))
      written (inr h) = h.2 ∙ sym (ap (sets table s.lines) (one_start h.0))

      abbrev pub token : Token
      token = token_by x start (s.base + s.offset + (start - s.place))

      abbrev pub next : State
      next = state_at s x.end x.mark (s.lines + b.lfs) table'

      answer_is : ◌≡◌ {A = Answer} (record { refusal = 0; state = next; token = token })
          (record { refusal = 0; state = state_by x (s.offset + here) b.lfs s table'; token = token })
      answer_is = rw (here_is, (plain x p).0, add-zero s.errors)

      pub scans : (area : List ℕ) → scan_of src s table list area ≡ gave next token table' list area
      scans area =
          scan_gave src s table list area kept start start_at x r.token holds b.lfs counted (passes area)
          ∙ sym (commit_plain_is src s start x here b.lfs table list area p (written w) answer_is)

      -- scans go on after it
      pub goes_on : eqb (kind_number x.kind) EOF ≡ false → is_last token ≡ false
      goes_on k = rw ((plain x p).1, (plain x p).2) k
