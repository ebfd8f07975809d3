-- Every call has the law of specs/Errors.antt: what it reads has the law of `lex`, and it adds the error of what it reads.
use Prim.Native.Nat.{ℕ, suc, ◌+◌, ◌≤◌}
use mathlib.Core.Path.{◌≡◌, refl, sym, ap, ◌∙◌, subst}
use mathlib.Core.Bool.{cond}
use mathlib.Core.List.{List, ◌++◌, append-nil}
use mathlib.Core.Logic.{◌≢◌, inl, inr, ⊎_elim}
use native.Mathlib.Omega.{arith}
use lib.Dec.{eqb}
use lib.ListN.{length}
use borrow.Author.Tests.{eq-eqb, ne_eqb}
use Rattle.errors.specs.declared.layout.Error.{Error}
use Rattle.errors.specs.Errors.{room_of}
use Rattle.lexer.specs.ErrorLaw.{ErrorLaw}
use Rattle.lexer.specs.Placed.{placed}
use Rattle.lexer.proofs.ErrorLaw.{lex_errors}
use Rattle.reading.specs.Reading.{Reading, error_at, new_errors, after}
use Rattle.reading.specs.Run.{scanned, next}
use Rattle.scanner.specs.Scan.{view, refused_by}
use Rattle.scanner.proofs.Scans.{errors_after}
use Rattle.runs.specs.Calls.{Held, left, errors_in}
use Rattle.runs.specs.Errors.{Adds, AnswerErrors, CallErrors}
use Rattle.runs.proofs.Played.{r, x, u, gives, view_left, came}

module _ (src area : List ℕ) (h : Held) where
  -- the error of what is read, where it has one
  abbrev pub found : Error
  found = error_at (x src area h).error (u src area h).offset (u src area h).line

  -- what is read has the law
  law : ErrorLaw (x src area h).kind (x src area h).error
  unfolding scanned
  law = lex_errors (r src area h).mark (r src area h).rest

  refused : (n : ℕ) → AnswerErrors src h (refused_by (suc n) h.state h.table h.list area)
  refused n =
      record {
        illegal_has_error = λ e. absurd (omega arith);
        illegal_or_refused = λ _. inl (λ e. omega arith, refl);
        error_has_cause = λ e. absurd (e refl);
      }

  -- ---- a call that gives a token: the errors after it, and how many they are
  after_it : (u src area h).errors ≡ errors_in h ++ new_errors (x src area h).error (u src area h).offset (u src area h).line
  unfolding view next after
  after_it = refl

  counted : (gives src area h).answer.state.errors ≡ h.state.errors + cond (eqb (x src area h).error 0) 0 1
  counted = ap length after_it ∙ errors_after (x src area h).error (u src area h).offset h.state.errors h.list (u src area h).line

  module _ (room : length (u src area h).errors ≤ room_of h.list) where
    pub in_list : errors_in (left (gives src area h)) ≡ errors_in h ++ new_errors (x src area h).error (u src area h).offset (u src area h).line
    unfolding view
    in_list = ap (λ (v : Reading). v.errors) (view_left src area h room) ∙ after_it

    adds : (x src area h).error ≢ 0 → Adds h (gives src area h) found
    adds e = record { accepted = refl; count = counted ∙ rw (ne_eqb (x src area h).error 0 e) (omega arith); list = in_list ∙ rw (ne_eqb (x src area h).error 0 e); place = refl; number = e }

    -- where the errors change, what is read has an error
    pub read_has : errors_in (left (gives src area h)) ≢ errors_in h → (x src area h).error ≢ 0
    read_has n z = n (in_list ∙ rw (eq-eqb (x src area h).error 0 z) (append-nil (errors_in h)))

    gave : AnswerErrors src h (gives src area h)
    unfolding placed
    gave =
        record {
          illegal_has_error = λ k. (found, adds (law.illegal_has_error k));
          illegal_or_refused = λ k. inr k;
          error_has_cause = λ n. (found, adds (read_has n), law.error_has_cause (read_has n));
        }

pub call_errors : CallErrors
call_errors src area h =
    ⊎_elim (λ c. subst (AnswerErrors src h) (sym c.1) (refused src area h c.0))
    (λ c. subst (AnswerErrors src h) (sym c.0) (gave src area h c.2)) (came src area h)
