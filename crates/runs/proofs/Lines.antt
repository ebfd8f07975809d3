-- Every call has the law of specs/Lines.antt: what it reads keeps the line as every character does.
use Prim.Native.Nat.{ℕ, ◌≤◌}
use mathlib.Core.Path.{◌≡◌, refl, sym, ap, ◌∙◌, subst}
use mathlib.Core.Bool.{Bool, true, false, and-false}
use mathlib.Core.List.{List, [], ◌∷◌}
use mathlib.Core.Logic.{◌≢◌, ⊎_elim}
use native.Mathlib.Omega.{arith}
use lib.ListN.{length, take, length-append, length-take}
use lib.Seq.{length-take-le}
use lib.Dec.{eqb}
use borrow.Author.Tests.{eqb-true, eqb-false, ne_eqb}
use Rattle.refusal.specs.Outcome.{refused}
use Rattle.refusal.specs.Refusals.{DOES_NOT_FIT}
use Rattle.position.specs.Lines.{line_in, StrictlyRising}
use Rattle.position.proofs.Place.{fit, last_start}
use Rattle.errors.specs.declared.layout.Error.{Error}
use Rattle.errors.specs.Errors.{room_of}
use Rattle.lines.specs.LineLaw.{Current}
use Rattle.lines.proofs.Current.{take_line, current_last, current_read}
use Rattle.lexer.specs.Lexeme.{taken}
use Rattle.lexer.proofs.Laws.{lex_laws}
use Rattle.reading.specs.Reading.{Reading, after}
use Rattle.reading.specs.Run.{scanned, next}
use Rattle.state.specs.declared.state.State.{State}
use Rattle.state.specs.State.{fresh}
use Rattle.state.specs.Fits.{file_of, fits_lines}
use Rattle.state.proofs.Lined.{lined_line}
use Rattle.queries.specs.Queries.{position_in, line_start_in, error_in}
use Rattle.scanner.specs.Scan.{view, ScanLeft, scan_of}
use Rattle.scanner.proofs.Scans.{held, scan_unfit, scan_kept}
use Rattle.scanner.proofs.Fitting.{fits_after}
use Rattle.runs.specs.Calls.{Held, Accepted, call, left, lines_in, errors_in}
use Rattle.runs.specs.Errors.{Adds}
use Rattle.runs.specs.Lines.{CurrentLine, FromState, Fits, CallLines}
use Rattle.runs.proofs.Firsts.{last_apart}
use Rattle.runs.proofs.Played.{r, x, u, gives, view_left, came}
use Rattle.runs.proofs.Errors.{found, in_list, read_has}
use Rattle.runs.proofs.Accepted.{accepted_state}
use Rattle.runs.proofs.Room.{fit_accepted, fit_fits}

-- ---- a state that fits
last_line : (src : List ℕ) (h : Held) → Fits src h → h.state.line ≡ line_in h.table h.state.lines
last_line src h f = (held h.state src h.table h.list f).line

rising_line : (src : List ℕ) (h : Held) → Fits src h → StrictlyRising (lines_in h) → CurrentLine h
rising_line src h f rising =
    let k = held h.state src h.table h.list f in
    let g = fit (file_of h.state) h.table k.fitted in
    subst (Current (lines_in h) h.state.offset) (take_line h.table h.state.lines g.some g.held ∙ sym k.line)
    (current_last (lines_in h) h.state.offset rising (rw (last_start (file_of h.state) h.table g) k.last))

-- ---- a state with another line
unless_true : (t : Bool) → (t ≡ true → ⊥) → t ≡ false
unless_true true n = absurd (n refl)
unless_true false n = refl

module _ (h : Held) (n : h.state.line ≢ line_in h.table h.state.lines) where
  wrong_scan : (src area : List ℕ) → (call src area h).answer.refusal ≡ DOES_NOT_FIT
  unfolding call
  wrong_scan src area =
      ap (λ (a : ScanLeft). a.answer.refusal)
      (scan_unfit src h.state h.table h.list area (unless_true _ (λ f. n (last_line src h f))))

  unlined : fits_lines h.state h.table ≡ false
  unlined = unless_true _ (λ f. n (lined_line h.state h.table f))

  wrong_position : (p : ℕ) → position_in h.state h.table p ≡ refused DOES_NOT_FIT
  unfolding position_in
  wrong_position p = rw unlined

  wrong_line : (line : ℕ) → line_start_in h.state h.table line ≡ refused DOES_NOT_FIT
  unfolding line_start_in
  wrong_line line = rw unlined

wrong_error : (h : Held) (i : ℕ) → h.state.line.number ≢ h.state.lines → error_in h.state h.list i ≡ refused DOES_NOT_FIT
unfolding error_in
wrong_error h i n = rw (ne_eqb h.state.line.number h.state.lines n, and-false)

-- ---- an accepted opening, whose table has one start
opening_fits : (src : List ℕ) (base size : ℕ) (h : Held) → Accepted src base size h → Fits src h
opening_fits src base size h a = fit_fits src h (fit_accepted a)

opening_line : (src : List ℕ) (base size : ℕ) (h : Held) → Accepted src base size h → CurrentLine h
unfolding fresh
opening_line src base size h a =
    let one : h.state.lines ≡ 1 = ap (λ (s : State). s.lines) (accepted_state a) in
    rising_line src h (opening_fits src base size h a) (λ k l. absurd (omega (arith, length-take h.state.lines h.table, l)))

-- ---- a call
module _ (src area : List ℕ) (h : Held) where
  -- what it reads
  reads : CurrentLine h → Current (u src area h).lines (u src area h).offset (u src area h).line
  unfolding view next after scanned
  reads k =
      let n = taken (x src area h) in
      rw (length-take-le n (r src area h).rest (lex_laws.bound _ _)) at
      (current_read h.state.size h.state.offset (take n (r src area h).rest) (lines_in h) h.state.line k)

  module _ (room : length (u src area h).errors ≤ room_of h.list) where
    gave : CurrentLine h → CurrentLine (left (gives src area h))
    unfolding view
    gave k = subst (λ (v : Reading). Current v.lines v.offset v.line) (sym (view_left src area h room)) (reads k)

    -- the error that was added is the one that was found
    is_found : (e : Error) → Adds h (gives src area h) e → e ≡ found src area h
    is_found e d =
        let more : errors_in (left (gives src area h)) ≢ errors_in h = λ z. omega (arith, ap length (sym z ∙ d.list), length-append (errors_in h) (e ∷ [])) in
        (last_apart (errors_in h) (errors_in h) e (found src area h) refl
        (sym d.list ∙ in_list src area h room ∙ rw (ne_eqb (x src area h).error 0 (read_has src area h room more)))).1

    from_state : (e : Error) → Adds h (gives src area h) e → FromState (gives src area h) e
    from_state e d = rw (is_found e d) (record { line = refl; column = refl })

  line_kept : CurrentLine h → CurrentLine (left (call src area h))
  line_kept k =
      ⊎_elim (λ c. subst (λ (a : ScanLeft). CurrentLine (left a)) (sym c.1) k)
      (λ c. subst (λ (a : ScanLeft). CurrentLine (left a)) (sym c.0) (gave c.2 k)) (came src area h)

  errors : (e : Error) → Adds h (call src area h) e → FromState (call src area h) e
  errors e =
      ⊎_elim (λ c. subst (λ (a : ScanLeft). Adds h a e → FromState a e) (sym c.1) (λ d. absurd (omega (arith, d.accepted))))
      (λ c. subst (λ (a : ScanLeft). Adds h a e → FromState a e) (sym c.0) (from_state c.2 e)) (came src area h)

fits_kept : (src area : List ℕ) (h : Held) → Fits src h → Fits src (left (call src area h))
unfolding call
fits_kept src area h f = go (eqb a.answer.refusal 0) refl
  where
    a : ScanLeft
    a = scan_of src h.state h.table h.list area

    go : (t : Bool) → eqb a.answer.refusal 0 ≡ t → Fits src (left a)
    go true e = fits_after src h.state h.table h.list area f (eqb-true _ _ e)
    go false e = rw (scan_kept src h.state h.table h.list area (eqb-false _ _ e)) f

pub call_lines : CallLines
call_lines =
    record {
      opening_fits = opening_fits;
      fits_kept = fits_kept;
      last_line = last_line;
      rising_line = rising_line;
      opening_line = opening_line;
      line_kept = line_kept;
      wrong_scan = λ src area h n. wrong_scan h n src area;
      wrong_position = λ h p n. wrong_position h n p;
      wrong_line = λ h line n. wrong_line h n line;
      wrong_error = wrong_error;
      errors = errors;
    }
