-- What a scan comes to, by what its pass has read: the definition's reading and refusal, and what is left in the buffers.
use Prim.Native.Nat.{ℕ, zero, suc, ◌+◌, ◌*◌, ◌≤◌, ◌<◌, ◌^◌}
use mathlib.Core.Path.{◌≡◌, refl, sym, ap, ap₂, ◌∙◌}
use mathlib.Core.Bool.{Bool, true, false, cond, ◌&&◌}
use mathlib.Core.List.{List, [], ◌∷◌, ◌++◌}
use native.Mathlib.Omega.{arith}
use native.Mathlib.Nat.{add-zero, add_assoc}
use lib.Dec.{eqb}
use lib.ListN.{length, take, drop, length-append}
use lib.Seq.{sets, sets-eq, length-take-le}
use borrow.Author.Tests.{leb-true}
use Rattle.basics.proofs.Choice.{and_split}
use Rattle.utf8.specs.declared.Char.{Char}
use Rattle.utf8.specs.Chars.{widths}
use Rattle.position.specs.declared.Line.{Line}
use Rattle.position.specs.Lines.{line_start, line_in}
use Rattle.position.specs.Place.{fitting, in_range}
use Rattle.position.proofs.Place.{fit, last_start}
use Rattle.errors.specs.Layout.{width, numbers}
use Rattle.errors.specs.Errors.{errors_of, room_of}
use Rattle.errors.proofs.Laws.{errors_length}
use Rattle.lines.specs.Starts.{read_lines}
use Rattle.lines.specs.Current.{read_line}
use Rattle.lines.proofs.Reading.{read_new}
use Rattle.lines.proofs.Current.{last_line, take_line, sets_line, read_last_line}
use Rattle.errors.specs.Faults.{error_number}
use Rattle.blanks.specs.Blank.{skip}
use Rattle.lexer.specs.declared.lexed.Lexed.{Lexed}
use Rattle.lexer.specs.Lexeme.{Lexeme, raise}
use Rattle.lexer.specs.Lex.{lex}
use Rattle.lexer.specs.Placed.{Placed, placed, said}
use Rattle.reading.specs.Reading.{Reading, error_at, new_errors, after}
use Rattle.state.specs.declared.state.State.{State}
use Rattle.state.specs.State.{advance}
use Rattle.state.proofs.Lined.{lined_line}
use Rattle.state.specs.Fits.{file_of, may_be_last, fits_line, fits_alone, fits_table, fits_source, fits_list, fits}
use Rattle.scanner.specs.Scan.{view, written, token_start, to_area, token_of, refusal_of, ScanLeft, refused_by, state_of, with_error, gave_by, unless, scan_by, scan_of}
use Rattle.scanner.specs.Steps.{refusal_by, state_by, token_by, starts_from, Ready, left_of, commit_of}
use Rattle.scanner.proofs.Refusals.{passed}
use Rattle.scanner.proofs.Pass.{raised, placed_raise, left, skipped, token, lex_raised, skipped_widths, read, taken_read, token_skipped, end_read, text_length_lem, value_length_lem, area_length_lem, start_behind, end_behind, lengths_fit}

-- ---- a state that fits
pub record Held (s : State) (src table list : List ℕ) : Type 0 where
  pub fitted : fitting (file_of s) table ≡ true
  pub offset : s.offset ≤ s.place
  pub last : line_start table s.lines ≤ s.offset
  pub line : s.line ≡ line_in table s.lines
  pub place : s.place ≤ length src
  pub errors : s.errors ≤ room_of list

pub held : (s : State) (src table list : List ℕ) → fits s src table list ≡ true → Held s src table list
held s src table list e =
    let a = and_split (fits_alone s && fits_table s table && fits_source s src) (fits_list s list) e in
    let b = and_split (fits_alone s && fits_table s table) (fits_source s src) a.0 in
    let d = and_split (fits_alone s) (fits_table s table) b.0 in
    let f = and_split (fitting (file_of s) table) _ d.1 in
    let own = and_split _ (fits_line s) d.0 in
    let g = and_split _ (in_range (file_of s)) own.0 in
    let m = and_split (may_be_last s) _ own.1 in
    let line = lined_line s table b.0 in
    let start : line_start table s.lines ≡ s.line.start = sym (ap (λ (l : Line). l.start) line) in
    record {
      fitted = f.0;
      offset = leb-true _ _ (and_split _ _ (and_split _ _ g.0).0).0;
      last = rw start (leb-true _ _ (and_split (eqb s.line.number s.lines) _ m.0).1);
      line = line;
      place = leb-true _ _ b.1;
      errors = leb-true _ _ a.1;
    }

-- after characters are read, its line is the last that is recorded then
pub held_read : (s : State) (src table list : List ℕ) → Held s src table list → (cs : List Char)
    → read_line s.size s.offset cs s.line ≡ last_line (read_lines s.size s.offset cs (take s.lines table))
held_read s src table list k cs =
    let g = fit (file_of s) table k.fitted in
    ap (read_line s.size s.offset cs) (k.line ∙ sym (take_line table s.lines g.some g.held))
    ∙ read_last_line s.size s.offset cs (take s.lines table)

-- ---- xs after the first n of a buffer
pub length_behind : {A : Type 0} (buffer : List A) (n : ℕ) (xs : List A) → n ≤ length buffer → length (take n buffer ++ xs) ≡ n + length xs
length_behind buffer n xs h = rw (length-append (take n buffer) xs, length-take-le n buffer h)

pub written_behind : {A : Type 0} (buffer : List A) (n : ℕ) (xs : List A) → n + length xs ≤ length buffer → written (take n buffer ++ xs) buffer ≡ sets buffer n xs
written_behind buffer n xs h =
    rw (length_behind buffer n xs (omega arith)) (sym (sets-eq xs buffer n h))

-- how many errors there are with those of a lexeme
pub errors_after : (number offset n : ℕ) (list : List ℕ) (line : Line) → length (errors_of n list ++ new_errors number offset line) ≡ n + cond (eqb number 0) 0 1
errors_after number offset n list line =
    length-append (errors_of n list) (new_errors number offset line) ∙ rw (errors_length n list) (ap (λ k. n + k) (go (eqb number 0)))
  where
    go : (t : Bool) → length (cond t [] (error_at number offset line ∷ [])) ≡ cond t 0 1
    go true = refl
    go false = refl

unless_not : (number : ℕ) → (number ≡ 0 → ⊥) → (a : ScanLeft) (s : State) (table list area : List ℕ) → unless number a s table list area ≡ refused_by number s table list area
unless_not zero h a s table list area = absurd (h refl)
unless_not (suc m) h a s table list area = refl

-- a scan that does not fit
pub scan_unfit : (src : List ℕ) (s : State) (table list area : List ℕ) → fits s src table list ≡ false → scan_of src s table list area ≡ refused_by 6 s table list area
unfolding scan_of scan_by
scan_unfit src s table list area f = rw f

-- a scan that is refused leaves all as it was
unless_kept : (number : ℕ) (a : ScanLeft) (s : State) (table list area : List ℕ) → a.answer.refusal ≡ 0 → ((unless number a s table list area).answer.refusal ≡ 0 → ⊥)
    → unless number a s table list area ≡ refused_by (unless number a s table list area).answer.refusal s table list area
unless_kept zero a s table list area z h = absurd (h z)
unless_kept (suc m) a s table list area z h = refl

pub scan_kept : (src : List ℕ) (s : State) (table list area : List ℕ) → ((scan_of src s table list area).answer.refusal ≡ 0 → ⊥)
    → scan_of src s table list area ≡ refused_by (scan_of src s table list area).answer.refusal s table list area
unfolding scan_of scan_by
scan_kept src s table list area h =
    let r = view src s table list in
    let x = lex r.mark r.rest in
    let p = placed src (token_start r x) x in
    let u = after s.size x r in
    unless_kept (refusal_of (fits s src table list) s.size u (length table) (room_of list) (length (to_area p)) (length area))
    (gave_by s p (token_of s.base (token_start r x) r p) u table list area) s table list area refl h

-- ---- a scan that fits, after its pass
module _ (src : List ℕ) (s : State) (table list area : List ℕ) (k : Held s src table list) (start : ℕ) (at : start ≡ s.place + (skip s.mark (left src s start)).len) (x : Lexed) (e : said src start x ≡ placed src start (token src s start)) where
  abbrev n : ℕ
  n = skipped src s start

  abbrev taken' : ℕ
  taken' = read src s start at x e

  abbrev r : Reading
  r = view src s table list

  -- the token in the source, with its blanks
  abbrev p : Placed
  p = raised n (said src start x)

  abbrev new : List ℕ
  new = starts_from src s taken'

  -- how far the source is read then
  abbrev u : Reading
  u =
      record {
        rest = drop taken' (left src s start);
        place = x.end;
        offset = s.offset + taken';
        lines = take s.lines table ++ new;
        line = last_line (take s.lines table ++ new);
        errors = errors_of s.errors list ++ new_errors (error_number x.error) (s.offset + taken') (last_line (take s.lines table ++ new));
        mark = x.mark;
      }

  -- ---- the definition's names for these
  last_kept : line_start (take s.lines table) (length (take s.lines table)) ≤ s.offset
  last_kept = rw (last_start (file_of s) table (fit (file_of s) table k.fitted)) k.last

  lines_read : read_lines s.size s.offset (take taken' (left src s start)) (take s.lines table) ≡ take s.lines table ++ new
  lines_read = read_new s.size s.offset (take taken' (left src s start)) (take s.lines table) last_kept

  line_read : read_line s.size s.offset (take taken' (left src s start)) s.line ≡ last_line (take s.lines table ++ new)
  line_read = held_read s src table list k (take taken' (left src s start)) ∙ ap last_line lines_read

  token_error : (token src s start).error ≡ error_number x.error
  unfolding said placed
  token_error = sym (ap (λ (q : Placed). q.lexeme.error) e)

  token_mark : (token src s start).mark ≡ x.mark
  unfolding said placed
  token_mark = sym (ap (λ (q : Placed). q.lexeme.mark) e)

  -- after so many characters
  abbrev by : ℕ → Reading
  by t =
      let line = read_line s.size s.offset (take t (left src s start)) s.line in
      record {
        rest = drop t (left src s start);
        place = s.place + widths (take t (left src s start));
        offset = s.offset + t;
        lines = read_lines s.size s.offset (take t (left src s start)) (take s.lines table);
        line = line;
        errors = errors_of s.errors list ++ new_errors (token src s start).error (s.offset + t) line;
        mark = (token src s start).mark;
      }

  after_by : after s.size (raise n (token src s start)) r ≡ by taken'
  unfolding after view
  after_by = ap by (taken_read src s start at x e)

  by_read : by taken' ≡ u
  by_read =
      rw (
        lines_read,
        line_read,
        end_read src s start at x e,
        token_error,
        token_mark,
      )

  start_is : token_start r (raise n (token src s start)) ≡ start
  unfolding view
  start_is =
      rw (token_skipped src s start at x e, add-zero n, skipped_widths src s start at)
      (omega (arith, at))

  placed_is : placed src start (raise n (token src s start)) ≡ p
  placed_is = placed_raise src start n (token src s start) ∙ ap (raised n) (sym e)

  -- what a scan comes to by the place of its token, how it stands there and how far the source is read then
  abbrev came : ℕ → Placed → Reading → ScanLeft
  came st q v =
      unless (refusal_of (fits s src table list) s.size v (length table) (room_of list) (length (to_area q)) (length area))
      (gave_by s q (token_of s.base st r q) v table list area)
      s table list area

  scan_by_lem : (y : Lexeme) (st : ℕ) (q : Placed) (v : Reading) → token_start r y ≡ st → placed src st y ≡ q → after s.size y r ≡ v
      → scan_by y r src s table list area ≡ came st q v
  unfolding scan_by
  scan_by_lem y st q v a b d = ap (λ (m : ℕ). came m (placed src m y) (after s.size y r)) a ∙ ap₂ (came st) b d

  scan_came : scan_of src s table list area ≡ came start p u
  unfolding scan_of view
  scan_came =
      ap (λ (y : Lexeme). scan_by y r src s table list area) (lex_raised src s start at)
      ∙ scan_by_lem (raise n (token src s start)) start p u start_is placed_is (after_by ∙ by_read)

  -- ---- the steps of the code
  lines_length : length (take s.lines table ++ new) ≡ s.lines + length new
  lines_length = length_behind table s.lines new (fit (file_of s) table k.fitted).held

  errors_counted : length u.errors ≡ s.errors + cond (eqb (error_number x.error) 0) 0 1
  errors_counted = errors_after (error_number x.error) (s.offset + taken') s.errors list (last_line (take s.lines table ++ new))

  module _ (holds : fits s src table list ≡ true) where
    refusal_is : refusal_of (fits s src table list) s.size u (length table) (room_of list) (length (to_area p)) (length area)
        ≡ refusal_by x (s.offset + taken') (length new) s (length table) (room_of list) (length area)
    refusal_is =
        rw (
          holds,
          errors_counted,
          lines_length,
          area_length_lem src s start at x e,
        )

    module _ (starts : ℕ) (counted : starts ≡ length new) where
      number_is : refusal_of (fits s src table list) s.size u (length table) (room_of list) (length (to_area p)) (length area)
          ≡ refusal_by x (s.offset + taken') starts s (length table) (room_of list) (length area)
      number_is = rw counted refusal_is

      pub scan_refused : (number : ℕ) → number ≡ refusal_by x (s.offset + taken') starts s (length table) (room_of list) (length area) → (number ≡ 0 → ⊥)
          → scan_of src s table list area ≡ refused_by number s table list area
      scan_refused number f h =
          scan_came
          ∙ ap (λ (m : ℕ). unless m (gave_by s p (token_of s.base start r p) u table list area) s table list area) (number_is ∙ sym f)
          ∙ unless_not number h _ s table list area

      -- the token, the state and the buffers of the definition
      token_is : token_of s.base start r p ≡ token_by x start (s.base + s.offset + n)
      unfolding said view
      token_is =
          rw (add-zero n, ← add_assoc s.base s.offset n, text_length_lem src s start at x e, value_length_lem src s start at x e)

      module _ (room : s.lines + length new ≤ length table) where
        line_is : last_line (take s.lines table ++ new) ≡ line_in (sets table s.lines new) (s.lines + length new)
        line_is = sets_line table s.lines new (fit (file_of s) table k.fitted).some room

        state_is : state_of s u ≡ state_by x (s.offset + taken') (length new) s (sets table s.lines new)
        state_is = λ i. advance s x.end (s.offset + taken') x.mark (lines_length i) (errors_counted i) (line_is i)

        list_is : with_error (error_number x.error) s.errors list u
            ≡ cond (eqb (error_number x.error) 0) list (sets list (s.errors * width) (numbers (error_at (error_number x.error) (s.offset + taken') (line_in (sets table s.lines new) (s.lines + length new)))))
        list_is = ap (λ (l : Line). cond (eqb (error_number x.error) 0) list (sets list (s.errors * width) (numbers (error_at (error_number x.error) (s.offset + taken') l)))) line_is

        gave_is : gave_by s p (token_of s.base start r p) u table list area ≡ commit_of src s start x taken' (length new) table list area
        unfolding commit_of left_of said
        gave_is = λ i. record {
          table = written_behind table s.lines new room i;
          list = list_is i;
          area = written (to_area (said src start x)) area;
          answer = record { refusal = 0; state = state_is i; token = token_is i };
        }

      pub scan_gave : refusal_by x (s.offset + taken') starts s (length table) (room_of list) (length area) ≡ 0
          → scan_of src s table list area ≡ commit_of src s start x taken' starts table list area
      scan_gave z =
          scan_came
          ∙ ap (λ (m : ℕ). unless m (gave_by s p (token_of s.base start r p) u table list area) s table list area) (number_is ∙ z)
          ∙ gave_is (rw counted at (passed x (s.offset + taken') starts s (length table) (room_of list) (length area) z).table_room)
          ∙ rw counted

      -- a token that passes the checks may be committed
      pub ready : length src < 2 ^ 63 → length area < 2 ^ 63 → refusal_by x (s.offset + taken') starts s (length table) (room_of list) (length area) ≡ 0
          → Ready src s start x taken' starts table list area
      ready short small z =
          let passes = passed x (s.offset + taken') starts s (length table) (room_of list) (length area) z in
          record {
            counted = counted;
            fitted = k.fitted;
            last = k.last;
            sized = passes.sized;
            table_room = passes.table_room;
            list_room = passes.list_room;
            area_room = passes.area_room;
            behind = start_behind src s start at;
            before = end_behind src s start at x e;
            blanks = omega arith;
            area_length = area_length_lem src s start at x e;
            text_length = text_length_lem src s start at x e;
            bytes = lengths_fit src s start at x e k.place short (length area) small passes.area_room;
          }
