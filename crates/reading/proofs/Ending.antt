-- What a run with the laws of LexLaws does at EOF and before the end of a text that ends in a line feed.
use Prim.Native.Nat.{ℕ, zero, suc, ◌≤◌}
use mathlib.Core.Path.{◌≡◌, refl, sym, ap, ◌∙◌}
use mathlib.Core.Bool.{false}
use mathlib.Core.List.{List, [], append-nil}
use mathlib.Core.Logic.{◌≢◌, ◌⊎◌, inl, inr}
use native.Mathlib.Nat.{add-zero}
use native.Mathlib.Omega.{arith}
use native.Mathlib.Decide.{dec_lt}
use lib.ListN.{length, drop, drop_of_length-le}
use Rattle.utf8.specs.declared.Char.{Char}
use Rattle.utf8.proofs.Ends.{Ends, ends_drop}
use Rattle.kinds.specs.Kinds.{EOF}
use Rattle.lines.specs.Starts.{read_lines}
use Rattle.lines.specs.Current.{read_line}
use Rattle.lexer.specs.Lexeme.{taken, Shut, bare, raise}
use Rattle.lexer.proofs.LexLaws.{LexLaws}
use Rattle.reading.specs.Reading.{Reading, after, opened}
use Rattle.reading.specs.Run.{Lexer, scanned, next, run, token}
use Rattle.reading.proofs.Step.{with_more, after_more, token_more, passed_over, after_blank, after_raise, token_raise}
use Rattle.reading.proofs.Runs.{Within, within_opened, within_after}

pub reading_path : (s u : Reading) → s.rest ≡ u.rest → s.place ≡ u.place → s.offset ≡ u.offset → s.lines ≡ u.lines → s.line ≡ u.line → s.errors ≡ u.errors → s.mark ≡ u.mark
    → s ≡ u
reading_path s u r p o l n e m = λ i. record { rest = r i; place = p i; offset = o i; lines = l i; line = n i; errors = e i; mark = m i }

-- what is left ends in a line feed, or nothing is left and no mark is set
abbrev pub EndsOrDone : Reading → Type 0
EndsOrDone s = Ends s.rest ⊎ ((s.rest ≡ []) × (s.mark ≡ false))

ends_or_none : (n : ℕ) (r : List Char) → Ends r → Ends (drop n r) ⊎ (drop n r ≡ [])
ends_or_none n r h =
    elim (dec_lt n (length r)) [
      | yes l ↦ inl (ends_drop n r l h)
      | no l ↦ let e : length r ≤ n = omega arith in inr (drop_of_length-le r e)
    ]

module _ (lex : Lexer) (laws : LexLaws lex) where
  pub scanned_bound : (s : Reading) → taken (scanned lex s) ≤ length s.rest
  unfolding scanned
  scanned_bound s = laws.bound s.mark s.rest

  -- ---- nothing left and no mark
  pub at_end : (s : Reading) → s.rest ≡ [] → s.mark ≡ false → scanned lex s ≡ bare EOF 0 false
  unfolding scanned
  at_end s e f = rw (e, f) laws.end

  pub at_end_eof : (s : Reading) → s.rest ≡ [] → s.mark ≡ false → (scanned lex s).kind ≡ EOF
  at_end_eof s e f = ap (λ x. x.kind) (at_end s e f)

  pub still : (size : ℕ) (s : Reading) → s.rest ≡ [] → s.mark ≡ false → next lex size s ≡ s
  unfolding next after read_lines read_line
  still size s e f =
      ap (λ x. after size x s) (at_end s e f)
      ∙ reading_path _ _ refl (add-zero s.place) (add-zero s.offset) refl refl (append-nil s.errors) (sym f)

  -- ---- before EOF, with more text after it
  module _ (size : ℕ) (s : Reading) (k : (scanned lex s).kind ≢ EOF) (e : Shut (scanned lex s).error) where
    pub next_ends : EndsOrDone s → EndsOrDone (next lex size s)
    unfolding next after scanned
    next_ends (inl h) = go (ends_or_none (taken (scanned lex s)) s.rest h)
      where
        go : Ends (drop (taken (scanned lex s)) s.rest) ⊎ (drop (taken (scanned lex s)) s.rest ≡ []) → EndsOrDone (next lex size s)
        go (inl g) = inl g
        go (inr g) = inr (g, laws.seam s.mark s.rest h k e g)
    next_ends (inr h) = absurd (k (at_end_eof s h.0 h.1))

    pub scanned_more : (t : List Char) → EndsOrDone s → scanned lex (with_more t s) ≡ scanned lex s
    unfolding scanned with_more
    scanned_more t (inl h) = laws.local s.mark s.rest t h k e
    scanned_more t (inr h) = absurd (k (at_end_eof s h.0 h.1))

    pub next_more : (t : List Char) → EndsOrDone s → next lex size (with_more t s) ≡ with_more t (next lex size s)
    unfolding next
    next_more t c = rw (scanned_more t c) (after_more (scanned lex s) s t (scanned_bound s) size)

    pub token_before : (base : ℕ) (t : List Char) → EndsOrDone s → token base (scanned lex (with_more t s)) (with_more t s) ≡ token base (scanned lex s) s
    token_before base t c = rw (scanned_more t c) (token_more (scanned lex s) s t (scanned_bound s) base)

  -- ---- at EOF
  module _ (size : ℕ) (s : Reading) (k : (scanned lex s).kind ≡ EOF) where
    -- it passes over all that is left
    pub scanned_eof : scanned lex s ≡ raise (length s.rest) (bare EOF 0 false)
    unfolding scanned
    scanned_eof =
        ap (lex s.mark) (sym (append-nil s.rest)) ∙ laws.blank s.mark s.rest [] k ∙ ap (raise (length s.rest)) laws.end

    pub next_eof : next lex size s ≡ passed_over size s
    unfolding next
    next_eof = rw scanned_eof (after_blank size s)

    pub eof_rest : (next lex size s).rest ≡ []
    unfolding passed_over
    eof_rest = ap (λ u. u.rest) next_eof

    pub eof_mark : (next lex size s).mark ≡ false
    unfolding passed_over
    eof_mark = ap (λ u. u.mark) next_eof

    scanned_behind : (t : List Char) → scanned lex (with_more t s) ≡ raise (length s.rest) (lex false t)
    unfolding scanned with_more
    scanned_behind t = laws.blank s.mark s.rest t k

    -- with more text after it, a scan there is one after the blanks
    pub next_over : (t : List Char) → next lex size (with_more t s) ≡ next lex size (with_more t (next lex size s))
    unfolding next scanned with_more passed_over
    next_over t =
        ap (λ x. after size x (with_more t s)) (scanned_behind t)
        ∙ after_raise size (lex false t) s t
        ∙ ap (λ u. next lex size (with_more t u)) (sym next_eof)

    pub token_over : (base : ℕ) (t : List Char) → token base (scanned lex (with_more t s)) (with_more t s)
        ≡ token base (scanned lex (with_more t (next lex size s))) (with_more t (next lex size s))
    unfolding scanned with_more passed_over
    token_over base t =
        ap (λ x. token base x (with_more t s)) (scanned_behind t) ∙ token_raise size (lex false t) s t base ∙ rw next_eof

  pub within_run : (size : ℕ) (t : List Char) (i : ℕ) → Within size t (run lex size (opened t) i)
  unfolding run next
  within_run size t zero = within_opened size t
  within_run size t (suc i) = within_after size t _ _ (scanned_bound (run lex size (opened t) i)) (within_run size t i)
