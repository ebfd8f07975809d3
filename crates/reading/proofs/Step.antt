-- What one lexeme does to a reading with more text after it, one that passes over blanks, or one in the second of two joined texts.
use Prim.Native.Nat.{ℕ, ◌+◌, ◌-◌, ◌≤◌}
use mathlib.Core.Path.{◌≡◌, refl, sym, ap, ◌∙◌}
use mathlib.Core.Bool.{Bool, true, false, cond}
use mathlib.Core.List.{List, [], ◌∷◌, ◌++◌, map, append_assoc, append-nil, map-append}
use native.Mathlib.Nat.{add-zero, add_assoc}
use native.Mathlib.Omega.{arith}
use lib.Dec.{eqb}
use lib.ListN.{length, take}
use lib.Seq.{take-append-le, drop-append-le, take-append-add, drop-append-add, take-length, drop-length}
use Rattle.utf8.specs.declared.Char.{Char}
use Rattle.utf8.specs.Chars.{widths}
use Rattle.kinds.specs.Kinds.{EOF}
use Rattle.position.specs.declared.Line.{Line}
use Rattle.position.proofs.Lines.{FromZero}
use Rattle.errors.specs.declared.layout.Error.{Error}
use Rattle.utf8.proofs.Count.{widths_append}
use Rattle.lines.specs.Starts.{read_lines}
use Rattle.lines.specs.Current.{read_line}
use Rattle.lines.specs.Joined.{over, move_line}
use Rattle.lines.proofs.Reading.{read_append}
use Rattle.lines.proofs.Kept.{read_from_zero}
use Rattle.lines.proofs.Current.{line_read_append, line_read_moved}
use Rattle.lines.proofs.Joining.{over_read}
use Rattle.lexer.specs.Lexeme.{Lexeme, taken, bare, raise}
use Rattle.reading.specs.Reading.{Reading, error_at, new_errors, after}
use Rattle.reading.specs.Run.{token, move}
use Rattle.reading.specs.Joined.{move_error}

-- ---- more text after what is left
unfoldable pub with_more : List Char → Reading → Reading
with_more t s = record { rest = s.rest ++ t; place = s.place; offset = s.offset; lines = s.lines; line = s.line; errors = s.errors; mark = s.mark }

module _ (x : Lexeme) (s : Reading) (t : List Char) (h : taken x ≤ length s.rest) where
  pub after_more : (size : ℕ) → after size x (with_more t s) ≡ with_more t (after size x s)
  unfolding after with_more
  after_more size = rw (take-append-le (taken x) s.rest t h, drop-append-le (taken x) s.rest t h)

  pub token_more : (base : ℕ) → token base x (with_more t s) ≡ token base x s
  unfolding token with_more
  token_more base = rw (take-append-le x.skipped s.rest t (omega arith))

-- ---- all that is left is passed over
unfoldable pub passed_over : ℕ → Reading → Reading
passed_over size s =
    record {
      rest = [];
      place = s.place + widths s.rest;
      offset = s.offset + length s.rest;
      lines = read_lines size s.offset s.rest s.lines;
      line = read_line size s.offset s.rest s.line;
      errors = s.errors;
      mark = false;
    }

-- a blank text gives EOF there
pub after_blank : (size : ℕ) (s : Reading) → after size (raise (length s.rest) (bare EOF 0 false)) s ≡ passed_over size s
unfolding after passed_over
after_blank size s = simp (add-zero, take-length, drop-length, append-nil)

-- what is read after the blanks
module _ (size : ℕ) (x : Lexeme) (s : Reading) (t : List Char) where
  pub after_raise : after size (raise (length s.rest) x) (with_more t s) ≡ after size x (with_more t (passed_over size s))
  unfolding after passed_over with_more
  after_raise =
      rw (
        add_assoc (length s.rest) x.skipped x.len,
        take-append-add,
        drop-append-add,
        ← add_assoc s.offset (length s.rest) (x.skipped + x.len),
        read_append,
        line_read_append,
        widths_append,
        ← add_assoc s.place,
      )

  pub token_raise : (base : ℕ) → token base (raise (length s.rest) x) (with_more t s) ≡ token base x (with_more t (passed_over size s))
  unfolding token passed_over with_more
  token_raise base =
      rw (← add_assoc s.offset (length s.rest) x.skipped, take-append-add, widths_append, ← add_assoc s.place)

-- ---- the second of two joined texts: after so many characters and bytes, line starts and errors
unfoldable pub behind : ℕ → ℕ → List ℕ → List Error → Reading → Reading
behind characters bytes starts errors s =
    record {
      rest = s.rest;
      place = bytes + s.place;
      offset = characters + s.offset;
      lines = over characters starts s.lines;
      line = move_line characters (length starts) s.line;
      errors = errors ++ map (move_error characters (length starts)) s.errors;
      mark = s.mark;
    }

-- the reading's own starts begin with 0
pub after_from_zero : (size : ℕ) (x : Lexeme) (s : Reading) → FromZero s.lines → FromZero (after size x s).lines
unfolding after
after_from_zero size x s z = read_from_zero _ _ _ _ z

module _ (n : ℕ) (starts : List ℕ) where
  error_behind : (number o : ℕ) (line : Line) → error_at number (n + o) (move_line n (length starts) line) ≡ move_error n (length starts) (error_at number o line)
  unfolding move_error move_line
  error_behind number o line =
      let e : n + o - (n + line.start) + 1 ≡ o - line.start + 1 = omega arith in
      rw e

  errors_behind : (number o : ℕ) (line : Line) (before errors : List Error)
      → (before ++ map (move_error n (length starts)) errors) ++ new_errors number (n + o) (move_line n (length starts) line)
      ≡ before ++ map (move_error n (length starts)) (errors ++ new_errors number o line)
  errors_behind number o line before errors =
      append_assoc before (map (move_error n (length starts)) errors) (new_errors number (n + o) (move_line n (length starts) line))
      ∙ ap (λ r. before ++ (map (move_error n (length starts)) errors ++ r)) (new (eqb number 0))
      ∙ ap (λ r. before ++ r) (sym (map-append (move_error n (length starts)) errors (new_errors number o line)))
    where
      new : (none : Bool) → cond none [] (error_at number (n + o) (move_line n (length starts) line) ∷ []) ≡ map (move_error n (length starts)) (cond none [] (error_at number o line ∷ []))
      new true = refl
      new false = ap (λ e. e ∷ []) (error_behind number o line)

  pub after_behind : (bytes size : ℕ) (errors : List Error) (x : Lexeme) (s : Reading) → FromZero s.lines
      → after size x (behind n bytes starts errors s) ≡ behind n bytes starts errors (after (size - n) x s)
  unfolding after behind
  after_behind bytes size errors x s z =
      let cs = take (taken x) s.rest in
      rw (
        add_assoc n s.offset (taken x),
        add_assoc bytes s.place,
        over_read n starts size s.offset cs s.lines z.some,
        line_read_moved n (length starts) size s.offset cs s.line,
        errors_behind x.error (s.offset + taken x) (read_line (size - n) s.offset cs s.line) errors s.errors,
      )

pub token_behind : (base n bytes : ℕ) (starts : List ℕ) (errors : List Error) (x : Lexeme) (s : Reading)
    → token base x (behind n bytes starts errors s) ≡ move bytes (token (base + n) x s)
unfolding token behind move
token_behind base n bytes starts errors x s =
    rw (add_assoc n s.offset x.skipped, ← add_assoc base n (s.offset + x.skipped), add_assoc bytes s.place)
