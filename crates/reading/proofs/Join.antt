-- A run over two joined texts is the run over the first and then the run over the second.
use Prim.Native.Nat.{ℕ, zero, suc, ◌+◌, ◌-◌, ◌≤◌, ◌<◌}
use mathlib.Core.Path.{◌≡◌, refl, sym, ap, ◌∙◌, subst}
use mathlib.Core.Bool.{false}
use mathlib.Core.List.{List, [], ◌∷◌, ◌++◌, map, append-nil}
use mathlib.Core.Logic.{◌⊎◌, inl, inr}
use native.Mathlib.Nat.{add-zero}
use native.Mathlib.Omega.{arith}
use lib.ListN.{length, drop}
use Rattle.utf8.specs.declared.Char.{Char}
use Rattle.utf8.specs.Chars.{widths}
use Rattle.utf8.proofs.Ends.{Ends}
use Rattle.position.specs.Lines.{first_line}
use Rattle.utf8.specs.Count.{is_lf, count}
use Rattle.lines.specs.Starts.{read_lines}
use Rattle.lines.specs.Current.{read_line}
use Rattle.lines.specs.Joined.{starts_of, move_line}
use Rattle.lines.proofs.Current.{last_line, last_line_snoc, read_last_line}
use Rattle.lines.proofs.Joining.{over_opening, over_drop, read_closed, closed_count}
use Rattle.lexer.specs.Lexeme.{Shut}
use Rattle.lexer.proofs.LexLaws.{LexLaws}
use Rattle.reading.specs.Reading.{Reading, opened}
use Rattle.reading.specs.Run.{Lexer, scanned, next, run, token, token_at, move}
use Rattle.reading.specs.Joined.{AllShut, FirstEnd, move_error, Joined}
use Rattle.reading.proofs.Step.{with_more, behind, after_behind, token_behind}
use Rattle.reading.proofs.Runs.{run_add, run_alike, token_alike, run_still, shut_run, shut_scan, from_zero_run}
use Rattle.reading.proofs.Ending.{reading_path, EndsOrDone, at_end, still, next_ends, next_more, token_before, eof_rest, eof_mark, next_over, token_over, within_run}

-- the starts that are read of a text that is empty or ends in a line feed, in a longer one: those of its lines, then that of the next
record ClosedStarts (size : ℕ) (t : List Char) : Type 0 where
  own : List ℕ
  read : read_lines size 0 t (0 ∷ []) ≡ own ++ (length t ∷ [])
  counted : length own ≡ count is_lf t

closed_starts : (size : ℕ) (t : List Char) → Ends t ⊎ (t ≡ []) → length t < size → ClosedStarts size t
unfolding read_lines
closed_starts size t (inl h) l =
    record { own = starts_of t; read = read_closed t h size l; counted = closed_count t h }
closed_starts size t (inr h) l = subst (ClosedStarts size) (sym h) (record { own = []; read = refl; counted = refl })

module _ (lex : Lexer) (laws : LexLaws lex) (base size : ℕ) (t₁ t₂ : List Char) (a : ℕ) (closed : Ends t₁ ⊎ (t₁ ≡ []))
    (fits : length t₁ + length t₂ ≤ size) (first-end : FirstEnd lex size t₁ a) where
  -- the three runs
  first : ℕ → Reading
  first i = run lex size (opened t₁) i

  second : ℕ → Reading
  second j = run lex (size - length t₁) (opened t₂) j

  both : ℕ → Reading
  both i = run lex size (opened (t₁ ++ t₂)) i

  -- ---- up to scan a the joined run is the first, with more text after it
  shut_at : (i : ℕ) → i ≤ a → Shut (scanned lex (first i)).error
  unfolding first
  shut_at i h =
      shut_scan lex size (opened t₁) i
      (shut_run lex size (opened t₁) (suc i) (a - i) (subst (λ k. AllShut (run lex size (opened t₁) k).errors) (omega arith) first-end.shut))

  ends_at : (i : ℕ) → i ≤ a → EndsOrDone (first i)
  unfolding first run
  ends_at zero h = go closed
    where
      go : Ends t₁ ⊎ (t₁ ≡ []) → Ends t₁ ⊎ ((t₁ ≡ []) × (false ≡ false))
      go (inl e) = inl e
      go (inr e) = inr (e, refl)
  ends_at (suc i) h =
      next_ends lex laws size (first i) (first-end.before i (omega arith)) (shut_at i (omega arith)) (ends_at i (omega arith))

  both_first : (i : ℕ) → i ≤ a → both i ≡ with_more t₂ (first i)
  unfolding first both run with_more
  both_first zero h = refl
  both_first (suc i) h =
      ap (next lex size) (both_first i (omega arith))
      ∙ next_more lex laws size (first i) (first-end.before i (omega arith)) (shut_at i (omega arith)) t₂ (ends_at i (omega arith))

  first_tokens : (i : ℕ) → i < a → token_at lex base size (opened (t₁ ++ t₂)) i ≡ token_at lex base size (opened t₁) i
  unfolding token_at both first
  first_tokens i h =
      ap (λ u. token base (scanned lex u) u) (both_first i (omega arith))
      ∙ token_before lex laws size (first i) (first-end.before i h) (shut_at i (omega arith)) base t₂ (ends_at i (omega arith))

  -- ---- from scan a on it is a run from the end of the first text
  seam : Reading
  seam = with_more t₂ (first (suc a))

  both_seam : (j : ℕ) → both (a + suc j) ≡ run lex size seam (suc j)
  unfolding both seam first run
  both_seam j =
      run_add lex size (opened (t₁ ++ t₂)) a (suc j)
      ∙ ap (λ u. run lex size u (suc j)) (both_first a (omega arith))
      ∙ run_alike lex size _ _ (next_over lex laws size (first a) first-end.ends t₂) j

  seam_token : (j : ℕ) → token_at lex base size (opened (t₁ ++ t₂)) (a + j) ≡ token_at lex base size seam j
  unfolding both seam first run token_at
  seam_token j =
      ap (λ u. token base (scanned lex u) u) (run_add lex size (opened (t₁ ++ t₂)) a j ∙ ap (λ u. run lex size u j) (both_first a (omega arith)))
      ∙ token_alike lex size base (with_more t₂ (first a)) seam
      (next_over lex laws size (first a) first-end.ends t₂)
      (token_over lex laws size (first a) first-end.ends base t₂) j

  -- the first run at its end has read its text
  end_rest : (first (suc a)).rest ≡ []
  unfolding first run
  end_rest = eof_rest lex laws size (first a) first-end.ends

  end_mark : (first (suc a)).mark ≡ false
  unfolding first run
  end_mark = eof_mark lex laws size (first a) first-end.ends

  end_all : (p : List Char) → p ++ (first (suc a)).rest ≡ t₁ → p ≡ t₁
  end_all p e = sym (append-nil p) ∙ (rw end_rest at e)

  end_offset : (first (suc a)).offset ≡ length t₁
  unfolding first
  end_offset = let w = within_run lex laws size t₁ (suc a) in w.offset ∙ ap length (end_all w.p w.whole)

  end_lines : (first (suc a)).lines ≡ read_lines size 0 t₁ (0 ∷ [])
  unfolding first
  end_lines = let w = within_run lex laws size t₁ (suc a) in w.lines ∙ ap (λ p. read_lines size 0 p (0 ∷ [])) (end_all w.p w.whole)

  end_line : (first (suc a)).line ≡ last_line (read_lines size 0 t₁ (0 ∷ []))
  unfolding first
  end_line =
      let w = within_run lex laws size t₁ (suc a) in
      w.line ∙ ap (λ p. read_line size 0 p first_line) (end_all w.p w.whole) ∙ read_last_line size 0 t₁ (0 ∷ [])

  end_place : (first (suc a)).place ≡ widths t₁
  unfolding first
  end_place = let w = within_run lex laws size t₁ (suc a) in w.place ∙ ap widths (end_all w.p w.whole)

  -- what the run from there is to be
  record Behind (j : ℕ) : Type 0 where
    token_is : token_at lex base size seam j ≡ move (widths t₁) (token_at lex (base + length t₁) (size - length t₁) (opened t₂) j)
    lines_are : (run lex size seam j).lines ≡ (first (suc a)).lines ++ map (λ x. length t₁ + x) (drop 1 (second j).lines)
    errors_are : (run lex size seam j).errors ≡ (first (suc a)).errors ++ map (move_error (length t₁) (count is_lf t₁)) (second j).errors

  -- ---- a second text with something in it
  module _ (some : 0 < length t₂) where
    table : ClosedStarts size t₁
    table = closed_starts size t₁ closed (omega arith)

    -- the first line of the second text, in the joined one
    seam_line : (first (suc a)).line ≡ move_line (length t₁) (length table.own) first_line
    unfolding move_line
    seam_line =
        let n : length table.own + 1 ≡ suc (length table.own) = omega arith in
        end_line ∙ ap last_line table.read ∙ last_line_snoc table.own (length t₁) ∙ rw (n, add-zero (length t₁))

    -- the second run's reading, in the joined run
    shifted : Reading → Reading
    shifted s = behind (length t₁) (widths t₁) table.own (first (suc a)).errors s

    seam_shifted : seam ≡ shifted (opened t₂)
    unfolding seam with_more shifted behind
    seam_shifted =
        reading_path _ _
        (ap (λ r. r ++ t₂) end_rest)
        (end_place ∙ sym (add-zero (widths t₁)))
        (end_offset ∙ sym (add-zero (length t₁)))
        (end_lines ∙ table.read ∙ sym (over_opening (length t₁) table.own))
        seam_line
        (sym (append-nil (first (suc a)).errors))
        end_mark

    next_shifted : (j : ℕ) → next lex size (shifted (second j)) ≡ shifted (next lex (size - length t₁) (second j))
    unfolding next second scanned shifted behind
    next_shifted j =
        after_behind (length t₁) table.own (widths t₁) size (first (suc a)).errors (scanned lex (second j)) (second j)
        (from_zero_run lex (size - length t₁) t₂ j)

    run_shifted : (j : ℕ) → run lex size seam j ≡ shifted (second j)
    unfolding second run
    run_shifted zero = seam_shifted
    run_shifted (suc j) = ap (next lex size) (run_shifted j) ∙ next_shifted j

    some_behind : (j : ℕ) → Behind j
    unfolding token_at second scanned shifted behind
    some_behind j =
        record {
          token_is =
              ap (λ u. token base (scanned lex u) u) (run_shifted j)
              ∙ token_behind base (length t₁) (widths t₁) table.own (first (suc a)).errors (scanned lex (second j)) (second j);
          lines_are =
              ap (λ u. u.lines) (run_shifted j)
              ∙ over_drop (length t₁) table.own (second j).lines (from_zero_run lex (size - length t₁) t₂ j)
              ∙ ap (λ r. r ++ map (λ x. length t₁ + x) (drop 1 (second j).lines)) (sym (end_lines ∙ table.read));
          errors_are = ap (λ u. u.errors) (run_shifted j) ∙ rw table.counted;
        }

  -- ---- a second text with nothing in it
  module _ (nothing : t₂ ≡ []) where
    seam_rest : seam.rest ≡ []
    unfolding seam with_more
    seam_rest = ap (λ r. r ++ t₂) end_rest ∙ nothing

    seam_mark : seam.mark ≡ false
    unfolding seam with_more
    seam_mark = end_mark

    seam_still : (j : ℕ) → run lex size seam j ≡ seam
    seam_still j = run_still lex size seam (still lex laws size seam seam_rest seam_mark) j

    second_still : (j : ℕ) → second j ≡ opened t₂
    unfolding second
    second_still j =
        run_still lex (size - length t₁) (opened t₂) (still lex laws (size - length t₁) (opened t₂) nothing refl) j

    none_token : (j : ℕ) → token_at lex base size seam j ≡ move (widths t₁) (token_at lex (base + length t₁) (size - length t₁) (opened t₂) j)
    unfolding token_at token second seam with_more move
    none_token j =
        ap (λ u. token base (scanned lex u) u) (seam_still j)
        ∙ ap (λ x. token base x seam) (at_end lex laws seam seam_rest seam_mark)
        ∙ (simp (end_offset, end_place, add-zero))
        ∙ ap (move (widths t₁))
        (sym (ap (λ u. token (base + length t₁) (scanned lex u) u) (second_still j)
        ∙ ap (λ x. token (base + length t₁) x (opened t₂)) (at_end lex laws (opened t₂) nothing refl)))

    none_behind : (j : ℕ) → Behind j
    unfolding seam with_more
    none_behind j =
        record {
          token_is = none_token j;
          lines_are = rw (seam_still j, second_still j) (sym (append-nil _));
          errors_are = rw (seam_still j, second_still j) (sym (append-nil _));
        }

  all_behind : (j : ℕ) → Behind j
  all_behind j = elim (some? t₂) [ inl e ↦ none_behind e j | inr h ↦ some_behind h j ]
    where
      some? : (t : List Char) → (t ≡ []) ⊎ (0 < length t)
      some? [] = inl refl
      some? (c ∷ cs) = inr (omega arith)

  lines_behind : (j : ℕ) → 0 < j → (both (a + j)).lines ≡ (first (suc a)).lines ++ map (λ x. length t₁ + x) (drop 1 (second j).lines)
  unfolding both first second with_more
  lines_behind zero h = absurd (omega arith)
  lines_behind (suc k) h = ap (λ u. u.lines) (both_seam k) ∙ (all_behind (suc k)).lines_are

  errors_behind : (j : ℕ) → 0 < j → (both (a + j)).errors ≡ (first (suc a)).errors ++ map (move_error (length t₁) (count is_lf t₁)) (second j).errors
  unfolding both first second with_more
  errors_behind zero h = absurd (omega arith)
  errors_behind (suc k) h = ap (λ u. u.errors) (both_seam k) ∙ (all_behind (suc k)).errors_are

  pub joined : Joined lex base size t₁ t₂ a
  unfolding both first second with_more
  joined =
      record {
        first_token = first_tokens;
        first_lines = λ i h. ap (λ u. u.lines) (both_first i h);
        first_errors = λ i h. ap (λ u. u.errors) (both_first i h);
        second_token = λ j. seam_token j ∙ (all_behind j).token_is;
        second_lines = lines_behind;
        second_errors = errors_behind;
      }
