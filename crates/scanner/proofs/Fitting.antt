-- Behind a scan that is not refused the state fits again: the source, and the buffers as they were left.
use Prim.Native.Nat.{ℕ, zero, suc, ◌+◌, ◌-◌, ◌*◌, ◌/◌, ◌≤◌}
use mathlib.Core.Path.{◌≡◌, refl, sym, ap, ◌∙◌}
use mathlib.Core.Bool.{Bool, true, false, cond, not}
use mathlib.Core.List.{List, [], ◌∷◌}
use native.Mathlib.Omega.{arith}
use lib.Dec.{eqb, ltb}
use lib.ListN.{length, take, drop, length-append, get_or-append}
use lib.Seq.{sets, length-sets, length-take-le}
use borrow.Author.Tests.{le-leb, eq-eqb, ltb-false}
use Rattle.basics.proofs.Choice.{cond_ind}
use Rattle.utf8.specs.declared.Char.{Char}
use Rattle.utf8.specs.Chars.{chars, widths}
use Rattle.utf8.proofs.Places.{place_fits}
use Rattle.position.specs.declared.Line.{Line}
use Rattle.position.specs.Lines.{line_start}
use Rattle.position.specs.Place.{in_range}
use Rattle.position.proofs.Lines.{FromZero, from_zero_append}
use Rattle.position.proofs.Place.{Fit, fit, fit_true, from_zero, last_start}
use Rattle.errors.specs.Layout.{width, numbers}
use Rattle.errors.specs.Errors.{room_of}
use Rattle.utf8.specs.Count.{count}
use Rattle.utf8.proofs.Count.{count_fits}
use Rattle.lines.specs.Current.{read_line}
use Rattle.lines.proofs.Kept.{read_last}
use Rattle.lines.proofs.Current.{last_line}
use Rattle.lexer.specs.Lexeme.{Lexeme, taken}
use Rattle.lexer.specs.Lex.{lex}
use Rattle.lexer.specs.Placed.{Placed, placed}
use Rattle.lexer.proofs.Laws.{lex_laws}
use Rattle.reading.specs.Reading.{Reading, error_at, after}
use Rattle.reading.proofs.Step.{after_from_zero}
use Rattle.state.specs.declared.state.State.{State}
use Rattle.state.specs.Fits.{file_of, fits_line, fits}
use Rattle.scanner.specs.Scan.{view, written, token_start, to_area, token_of, refusal_of, ScanLeft, state_of, with_error, gave_by, unless, scan_by, scan_of}
use Rattle.scanner.proofs.Scans.{Held, held, held_read}

-- a state whose line is the last
line_fits : (s : State) → s.line.number ≡ s.lines → s.line.start ≤ s.offset → (s.lines ≡ 1 → s.line.start ≡ 0) → 1 ≤ s.lines → fits_line s ≡ true
line_fits s n l z some = rw (eq-eqb _ _ n, le-leb _ _ l) (go (ltb 1 s.lines) refl)
  where
    go : (t : Bool) → ltb 1 s.lines ≡ t → cond t true (eqb s.line.start 0) ≡ true
    go true e = refl
    go false e = eq-eqb _ _ (z (omega (arith, ltb-false 1 s.lines e, some)))

-- a state with all that fitting asks
pub fits_held : (s : State) (src table list : List ℕ) → Held s src table list → s.offset ≤ s.size → fits s src table list ≡ true
fits_held s src table list k h =
    let g = fit (file_of s) table k.fitted in
    let top : in_range (file_of s) ≡ true = unfold in_range in le-leb _ _ g.top in
    let at : line_start table s.lines ≡ s.line.start = sym (ap (λ (l : Line). l.start) k.line) in
    let start : eqb (line_start table s.lines) s.line.start ≡ true = eq-eqb _ _ at in
    let own = line_fits s (ap (λ (l : Line). l.number) k.line) (omega (arith, at, k.last)) (λ e. sym at ∙ rw e g.first) g.some in
    rw (
      le-leb _ _ k.offset,
      le-leb s.offset s.size h,
      le-leb _ _ g.some,
      top,
      own,
      k.fitted,
      start,
      le-leb _ _ k.place,
      le-leb _ _ k.errors,
    )

-- every character is counted by a test that always holds
counted : (cs : List Char) → count (λ c. true) cs ≡ length cs
counted [] = refl
counted (c ∷ cs) = omega (arith, counted cs)

-- an error is written within the list
room_with : (number n : ℕ) (list : List ℕ) (u : Reading) → room_of (with_error number n list u) ≡ room_of list
room_with number n list u =
    cond_ind (λ l. room_of l ≡ room_of list) (eqb number 0) list (sets list (n * width) (numbers (error_at number u.offset u.line)))
    (λ _. refl)
    (λ _. ap (λ k. k / width) (length-sets list (n * width) (numbers (error_at number u.offset u.line))))

last_written : (starts table : List ℕ) → 1 ≤ length starts → line_start (written starts table) (length starts) ≡ line_start starts (length starts)
last_written starts table h = get_or-append starts (drop (length starts) table) 0 (length starts - 1) (omega arith)

-- ---- what a lexeme leaves, where the buffers have room for it
module _ (src : List ℕ) (s : State) (table list : List ℕ) (k : Held s src table list) (y : Lexeme) (bound : taken y ≤ length (view src s table list).rest) where
  abbrev v : Reading
  v = after s.size y (view src s table list)

  pub held_after : length v.lines ≤ length table → length v.errors ≤ room_of list
      → Held (state_of s v) src (written v.lines table) (with_error y.error s.errors list v)
  unfolding after view
  held_after in_table inList =
      record {
        fitted = fit_true _ _ (record {
          top = g.top;
          some = starts.some;
          held = omega (arith, length-append v.lines (drop (length v.lines) table));
          first = (from_zero_append v.lines (drop (length v.lines) table) starts).first;
        });
        offset = omega (arith, k.offset, wide, counted cs, taken_is);
        last = rw (last_written v.lines table starts.some) (omega (arith, last, taken_is));
        line = line ∙ (λ i. record { number = length v.lines; start = sym (last_written v.lines table starts.some) i });
        place = place_fits (taken y) src s.place k.place;
        errors = rw (room_with y.error s.errors list v) inList;
      }
    where
      g : Fit (file_of s) table
      g = fit (file_of s) table k.fitted

      cs : List Char
      cs = take (taken y) (chars (drop s.place src))

      taken_is : length cs ≡ taken y
      taken_is = length-take-le (taken y) (chars (drop s.place src)) bound

      starts : FromZero v.lines
      starts = after_from_zero s.size y (view src s table list) (from_zero (file_of s) table g)

      wide : count (λ c. true) cs ≤ widths cs
      wide = count_fits (λ c. true) (taken y) src s.place

      last : line_start v.lines (length v.lines) ≤ s.offset + length cs
      last = read_last s.size s.offset cs (take s.lines table) (rw (last_start (file_of s) table g) k.last)

      line : read_line s.size s.offset cs s.line ≡ last_line v.lines
      line = held_read s src table list k cs

-- ---- a scan
-- one that is not refused gave something
given : (P : ScanLeft → Type 0) (n : ℕ) (a : ScanLeft) (s : State) (table list area : List ℕ) → (unless n a s table list area).answer.refusal ≡ 0 → (n ≡ 0 → P a) → P (unless n a s table list area)
given P zero a s table list area e f = f refl
given P (suc n) a s table list area e f = absurd (omega arith)

-- and has a state that fits, stays within the size, and has room for the line starts and the errors
not_refused : (fit size table list area : Bool) → ◌≡◌ {A = ℕ} (cond (not fit) 6 (cond size 3 (cond table 7 (cond list 8 (cond area 9 0))))) 0
    → (fit ≡ true) × (size ≡ false) × (table ≡ false) × (list ≡ false)
not_refused false size table list area e = absurd (omega arith)
not_refused true true table list area e = absurd (omega arith)
not_refused true false true list area e = absurd (omega arith)
not_refused true false false true area e = absurd (omega arith)
not_refused true false false false area e = (refl, refl, refl, refl)

pub passes : (fit : Bool) (size : ℕ) (u : Reading) (table list toWrite area : ℕ) → refusal_of fit size u table list toWrite area ≡ 0
    → (fit ≡ true) × (u.offset ≤ size) × (length u.lines ≤ table) × (length u.errors ≤ list)
passes fit size u table list toWrite area e =
    let q = not_refused fit (ltb size u.offset) (ltb table (length u.lines)) (ltb list (length u.errors)) (ltb area toWrite) e in
    (q.0, ltb-false _ _ q.1, ltb-false _ _ q.2, ltb-false _ _ q.3)

module _ (src : List ℕ) (s : State) (table list area : List ℕ) (holds : fits s src table list ≡ true) where
  -- how far the source has been read, what is read there and how it stands in the source, and how far the source is read then
  abbrev r : Reading
  r = view src s table list

  abbrev x : Lexeme
  x = lex r.mark r.rest

  abbrev p : Placed
  p = placed src (token_start r x) x

  abbrev u : Reading
  u = after s.size x r

  abbrev refusal : ℕ
  refusal = refusal_of (fits s src table list) s.size u (length table) (room_of list) (length (to_area p)) (length area)

  gives_fits : refusal ≡ 0 → fits (state_of s u) src (written u.lines table) (with_error x.error s.errors list u) ≡ true
  gives_fits z =
      let q = passes (fits s src table list) s.size u (length table) (room_of list) (length (to_area p)) (length area) z in
      fits_held (state_of s u) src (written u.lines table) (with_error x.error s.errors list u)
      (held_after src s table list (held s src table list holds) x (lex_laws.bound _ _) q.2 q.3)
      q.1

  -- what the scan leaves is taken by the next
  pub fits_after : (scan_of src s table list area).answer.refusal ≡ 0
      → let a = scan_of src s table list area in fits a.answer.state src a.table a.list ≡ true
  unfolding scan_of scan_by placed
  fits_after e =
      given (λ (a : ScanLeft). fits a.answer.state src a.table a.list ≡ true) refusal
      (gave_by s p (token_of s.base (token_start r x) r p) u table list area) s table list area e gives_fits
