-- Every scan has the law of specs/TableLaw.antt: what it comes to is what its source, its state and the length of its table say.
use Prim.Native.Nat.{ℕ, zero, suc, ◌+◌, ◌≤◌}
use mathlib.Core.Path.{◌≡◌, refl, sym, ap, ◌∙◌}
use native.Mathlib.Nat.{add-zero}
use mathlib.Core.Bool.{Bool, true, false}
use mathlib.Core.List.{List, [], ◌++◌}
use lib.ListN.{length, take, drop}
use lib.Seq.{sets}
use Rattle.utf8.specs.declared.Char.{Char}
use Rattle.utf8.specs.Chars.{chars, widths}
use Rattle.position.specs.declared.Line.{Line}
use Rattle.position.specs.Place.{fitting}
use Rattle.position.proofs.Place.{Fit, fit, last_start}
use Rattle.errors.specs.Errors.{errors_of, room_of}
use Rattle.lines.specs.Starts.{read_lines, starts_read}
use Rattle.lines.specs.Current.{read_line}
use Rattle.lines.proofs.Reading.{read_new}
use Rattle.lexer.specs.Lexeme.{Lexeme, taken}
use Rattle.lexer.specs.Lex.{lex}
use Rattle.lexer.specs.Placed.{Placed, placed}
use Rattle.reading.specs.Reading.{Reading, new_errors, after}
use Rattle.parts.specs.declared.token.Token.{Token}
use Rattle.state.specs.declared.state.State.{State}
use Rattle.state.specs.State.{advance}
use Rattle.state.specs.Fits.{file_of, fits}
use Rattle.scanner.specs.Scan.{view, written, to_area, token_of, refusal_for, refusal_of, ScanLeft, with_error, gave_by, unless, scan_by, scan_of}
use Rattle.scanner.specs.TableLaw.{Alike, SameScan, TableLaw}
use Rattle.scanner.proofs.Scans.{held, length_behind, written_behind, scan_unfit}
use Rattle.scanner.proofs.Fitting.{passes}

-- a scan that is not refused comes to what is given
unless_given : (n : ℕ) (a b : ScanLeft) (s : State) (table list area : List ℕ) → (n ≡ 0 → a ≡ b) → unless n a s table list area ≡ unless n b s table list area
unless_given zero a b s table list area h = h refl
unless_given (suc n) a b s table list area h = refl

module _ (src : List ℕ) (s : State) (list area : List ℕ) where
  -- the characters that are left, what is read of them, and the starts that they record
  abbrev left : List Char
  left = chars (drop s.place src)

  abbrev x : Lexeme
  x = lex s.mark left

  abbrev new : List ℕ
  new = starts_read s.size s.offset (take (taken x) left)

  abbrev line : Line
  line = read_line s.size s.offset (take (taken x) left) s.line

  -- how far the source is read then, with the starts given
  abbrev u : List ℕ → Reading
  u lines =
      record {
        rest = drop (taken x) left;
        place = s.place + widths (take (taken x) left);
        offset = s.offset + taken x;
        lines = lines;
        line = line;
        errors = errors_of s.errors list ++ new_errors x.error (s.offset + taken x) line;
        mark = x.mark;
      }

  abbrev start : ℕ
  start = s.place + widths (take x.skipped left)

  abbrev p : Placed
  p = placed src start x

  abbrev token : Token
  token = token_of s.base start (record { rest = left; place = s.place; offset = s.offset; lines = []; line = s.line; errors = []; mark = s.mark }) p

  -- the refusal, by how many starts there are then and how many the table holds
  abbrev number : ℕ → ℕ → ℕ
  number lines table =
      refusal_for true
      (record { offset = s.offset + taken x; lines = lines; errors = length (u []).errors; bytes = length (to_area p) })
      (record { offset = s.size; lines = table; errors = room_of list; bytes = length area })

  -- what it gives where it is not refused
  abbrev given : List ℕ → ScanLeft
  given table =
      record {
        table = sets table s.lines new;
        list = with_error x.error s.errors list (u []);
        area = written (to_area p) area;
        answer =
            record {
              refusal = 0;
              state = advance s (u []).place (u []).offset x.mark (s.lines + length new) (length (u []).errors) line;
              token = token;
            };
      }

  -- ---- with a table that fits
  module _ (table : List ℕ) (holds : fits s src table list ≡ true) where
    file : Fit (file_of s) table
    file = fit (file_of s) table (held s src table list holds).fitted

    lines_read : read_lines s.size s.offset (take (taken x) left) (take s.lines table) ≡ take s.lines table ++ new
    lines_read =
        read_new s.size s.offset (take (taken x) left) (take s.lines table)
        (rw (last_start (file_of s) table file) (held s src table list holds).last)

    lines_length : length (take s.lines table ++ new) ≡ s.lines + length new
    lines_length = length_behind table s.lines new file.held

    abbrev came : Bool → List ℕ → ScanLeft
    came fit lines =
        unless (refusal_of fit s.size (u lines) (length table) (room_of list) (length (to_area p)) (length area))
        (gave_by s p token (u lines) table list area)
        s table list area

    scan_came : scan_of src s table list area ≡ came true (take s.lines table ++ new)
    unfolding scan_of scan_by view after
    scan_came = λ i. came (holds i) (lines_read i)

    gave_given : s.lines + length new ≤ length table → gave_by s p token (u (take s.lines table ++ new)) table list area ≡ given table
    unfolding placed
    gave_given room =
        λ i. record {
          table = written_behind table s.lines new room i;
          list = with_error x.error s.errors list (u []);
          area = written (to_area p) area;
          answer =
              record {
                refusal = 0;
                state = advance s (u []).place (u []).offset x.mark (lines_length i) (length (u []).errors) line;
                token = token;
              };
        }

    scan_given : scan_of src s table list area ≡ unless (number (s.lines + length new) (length table)) (given table) s table list area
    scan_given =
        scan_came
        ∙ ap (λ (n : ℕ). unless (number n (length table)) (gave_by s p token (u (take s.lines table ++ new)) table list area) s table list area) lines_length
        ∙ unless_given (number (s.lines + length new) (length table)) _ _ s table list area (λ z. gave_given (room z))
      where
        room : number (s.lines + length new) (length table) ≡ 0 → s.lines + length new ≤ length table
        room z =
            rw lines_length at
            (passes true s.size (u (take s.lines table ++ new)) (length table) (room_of list) (length (to_area p)) (length area) (rw lines_length z)).2

-- ---- two tables that are alike
module _ (src : List ℕ) (s : State) (one two list area : List ℕ) (k : Alike s one two) where
  fits_alike : fits s src one list ≡ fits s src two list
  unfolding fitting
  fits_alike = rw (k.length, k.first, k.last)

  given_alike : (n : ℕ) → SameScan s one two (unless n (given src s list area one) s one list area) (unless n (given src s list area two) s two list area)
  given_alike zero =
      record { answer = refl; list = refl; area = refl; starts = new src s list area; table_one = refl; table_two = refl; count = refl }
  given_alike (suc n) = record { answer = refl; list = refl; area = refl; starts = []; table_one = refl; table_two = refl; count = sym (add-zero s.lines) }

  alike : (t : Bool) → fits s src two list ≡ t → SameScan s one two (scan_of src s one list area) (scan_of src s two list area)
  alike false e =
      rw (scan_unfit src s one list area (fits_alike ∙ e), scan_unfit src s two list area e)
      (record { answer = refl; list = refl; area = refl; starts = []; table_one = refl; table_two = refl; count = sym (add-zero s.lines) })
  alike true e =
      rw (scan_given src s list area one (fits_alike ∙ e), scan_given src s list area two e, k.length)
      (given_alike (number src s list area (s.lines + length (new src s list area)) (length two)))

pub table_law : TableLaw
table_law src s one two list area k = alike src s one two list area k (fits s src two list) refl
