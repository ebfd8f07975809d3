-- Laws of any run: its parts, its errors, and where it stands in the text.
use Prim.Native.Nat.{ℕ, zero, suc, ◌+◌, ◌≤◌}
use mathlib.Core.Path.{◌≡◌, refl, sym, ap, ◌∙◌}
use mathlib.Core.Bool.{Bool, true, false, cond}
use mathlib.Core.List.{List, [], ◌∷◌, ◌++◌, append_assoc}
use native.Mathlib.Nat.{add-zero, add-suc, zero-add}
use native.Mathlib.Omega.{arith}
use lib.Dec.{eqb}
use lib.ListN.{length, take, drop, length-append, take-append-drop}
use lib.Seq.{length-take-le}
use borrow.Author.Tests.{eqb-true}
use Rattle.utf8.specs.declared.Char.{Char}
use Rattle.utf8.specs.Chars.{widths}
use Rattle.position.specs.Lines.{first_line, StrictlyRising}
use Rattle.position.proofs.Lines.{FromZero}
use Rattle.errors.specs.declared.layout.Error.{Error}
use Rattle.utf8.proofs.Count.{widths_append}
use Rattle.position.specs.declared.Line.{Line}
use Rattle.lines.specs.Starts.{read_lines}
use Rattle.lines.specs.Current.{read_line}
use Rattle.lines.proofs.Reading.{read_append}
use Rattle.lines.proofs.Kept.{read_rising}
use Rattle.lines.proofs.Current.{line_read_append}
use Rattle.lexer.specs.Lexeme.{Lexeme, taken, Shut}
use Rattle.reading.specs.Reading.{Reading, error_at, new_errors, after, opened}
use Rattle.reading.specs.Run.{Lexer, scanned, next, run, token, token_at}
use Rattle.reading.specs.Joined.{AllShut}
use Rattle.reading.proofs.Step.{after_from_zero}

-- ---- errors are only added
shut_left : (es fs : List Error) → AllShut (es ++ fs) → AllShut es
shut_left [] fs h = tt
shut_left (e ∷ es) fs h = (h.0, shut_left es fs h.1)

shut_right : (es fs : List Error) → AllShut (es ++ fs) → AllShut fs
shut_right [] fs h = h
shut_right (e ∷ es) fs h = shut_right es fs h.1

shut_new : (number o : ℕ) (line : Line) → AllShut (new_errors number o line) → Shut number
shut_new number o line = go (eqb number 0) refl
  where
    go : (none : Bool) → eqb number 0 ≡ none → AllShut (cond none [] (error_at number o line ∷ [])) → Shut number
    go true e h = let z = eqb-true number 0 e in ((λ q. omega arith), (λ q. omega arith))
    go false e h = h.0

module _ (size : ℕ) (x : Lexeme) (s : Reading) where
  new : List Error
  new = new_errors x.error (s.offset + taken x) (read_line size s.offset (take (taken x) s.rest) s.line)

  shut_before : AllShut (after size x s).errors → AllShut s.errors
  unfolding after new
  shut_before h = shut_left s.errors new h

  shut_this : AllShut (after size x s).errors → Shut x.error
  unfolding after new
  shut_this h = shut_new _ _ _ (shut_right s.errors new h)

-- ---- the parts of a run
module _ (lex : Lexer) (size : ℕ) where
  pub run_add : (s : Reading) (a j : ℕ) → run lex size s (a + j) ≡ run lex size (run lex size s a) j
  unfolding run
  run_add s a zero = rw add-zero
  run_add s a (suc j) = rw add-suc (ap (next lex size) (run_add s a j))

  pub run_shift : (s : Reading) (k : ℕ) → run lex size (next lex size s) k ≡ run lex size s (suc k)
  unfolding run
  run_shift s zero = refl
  run_shift s (suc k) = ap (next lex size) (run_shift s k)

  -- two readings that step alike run alike
  pub run_alike : (s u : Reading) → next lex size s ≡ next lex size u → (j : ℕ) → run lex size s (suc j) ≡ run lex size u (suc j)
  unfolding run
  run_alike s u e zero = e
  run_alike s u e (suc j) = ap (next lex size) (run_alike s u e j)

  pub token_alike : (base : ℕ) (s u : Reading) → next lex size s ≡ next lex size u → token base (scanned lex s) s ≡ token base (scanned lex u) u
      → (j : ℕ) → token_at lex base size s j ≡ token_at lex base size u j
  unfolding token_at run
  token_alike base s u e f zero = f
  token_alike base s u e f (suc j) = ap (λ x. token base (scanned lex x) x) (run_alike s u e j)

  -- a reading that steps to itself
  pub run_still : (s : Reading) → next lex size s ≡ s → (j : ℕ) → run lex size s j ≡ s
  unfolding run
  run_still s e zero = refl
  run_still s e (suc j) = ap (next lex size) (run_still s e j) ∙ e

  pub shut_run : (s : Reading) (i d : ℕ) → AllShut (run lex size s (i + d)).errors → AllShut (run lex size s i).errors
  unfolding run next
  shut_run s i zero h = rw add-zero at h
  shut_run s i (suc d) h = shut_run s i d (shut_before size (scanned lex (run lex size s (i + d))) (run lex size s (i + d)) (rw add-suc at h))

  pub shut_scan : (s : Reading) (i : ℕ) → AllShut (run lex size s (suc i)).errors → Shut (scanned lex (run lex size s i)).error
  unfolding run next
  shut_scan s i h = shut_this size (scanned lex (run lex size s i)) (run lex size s i) h

  -- the line starts of every run begin with 0 and rise
  module _ (t : List Char) where
    pub from_zero_run : (k : ℕ) → FromZero (run lex size (opened t) k).lines
    unfolding run next
    from_zero_run zero = record { some = omega arith; first = refl }
    from_zero_run (suc k) = after_from_zero size _ _ (from_zero_run k)

    pub rising_run : (k : ℕ) → StrictlyRising (run lex size (opened t) k).lines
    unfolding run next after
    rising_run zero = λ k h. absurd (omega arith)
    rising_run (suc k) = read_rising size _ _ _ (rising_run k)

  -- the positions of tokens do not fall
  pub positions_rise : (base : ℕ) (s : Reading) (k : ℕ) → (token_at lex base size s k).position ≤ (token_at lex base size s (suc k)).position
  unfolding token_at token run next after
  positions_rise base s k = omega arith

-- ---- how a reading stands in a text, of which it has read the characters p
pub record Within (size : ℕ) (t : List Char) (s : Reading) : Type 0 where
  pub p : List Char
  pub whole : p ++ s.rest ≡ t
  pub offset : s.offset ≡ length p
  pub lines : s.lines ≡ read_lines size 0 p (0 ∷ [])
  pub line : s.line ≡ read_line size 0 p first_line
  pub place : s.place ≡ widths p

pub within_opened : (size : ℕ) (t : List Char) → Within size t (opened t)
unfolding read_lines read_line
within_opened size t = record { p = []; whole = refl; offset = refl; lines = refl; line = refl; place = refl }

pub within_after : (size : ℕ) (t : List Char) (x : Lexeme) (s : Reading) → taken x ≤ length s.rest → Within size t s → Within size t (after size x s)
unfolding after
within_after size t x s h w =
    let q = take (taken x) s.rest in
    record {
      p = w.p ++ q;
      whole = append_assoc w.p q (drop (taken x) s.rest) ∙ rw take-append-drop w.whole;
      offset = omega (arith, length-append w.p q, length-take-le (taken x) s.rest h, w.offset);
      lines = sym (read_append size 0 w.p q (0 ∷ []) ∙ rw (zero-add, ← w.offset, ← w.lines));
      line = sym (line_read_append size 0 w.p q first_line ∙ rw (zero-add, ← w.offset, ← w.line));
      place = sym (widths_append w.p q ∙ rw (← w.place));
    }
