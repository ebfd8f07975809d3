-- The joined run over any calls: after the openings each run of calls is the run with no bound on lines and errors.
use Prim.Native.Nat.{ℕ, zero, suc, ◌+◌, ◌-◌, ◌≤◌, ◌<◌}
use mathlib.Core.Path.{◌≡◌, refl, sym, ap, ◌∙◌, subst}
use mathlib.Core.Bool.{Bool, true, false}
use mathlib.Core.List.{List, [], ◌∷◌, ◌++◌, map, append_assoc}
use mathlib.Core.Logic.{◌≢◌}
use native.Mathlib.Omega.{arith}
use lib.Dec.{eqb}
use lib.ListN.{length, take, drop, length-append, length-drop, take-append-drop}
use borrow.Author.Tests.{eqb-true, eqb-false}
use Rattle.utf8.specs.declared.Char.{Char}
use Rattle.utf8.specs.Chars.{chars}
use Rattle.utf8.proofs.Append.{chars_append}
use Rattle.kinds.specs.Kinds.{EOF}
use Rattle.utf8.proofs.Count.{widths_append}
use Rattle.lexer.specs.Lex.{lex}
use Rattle.lexer.proofs.Laws.{lex_laws}
use Rattle.reading.specs.Reading.{Reading, opened}
use Rattle.reading.specs.Run.{scanned, run, token, token_at, move}
use Rattle.reading.specs.Joined.{AllShut, FirstEnd, Joined}
use Rattle.reading.proofs.Ending.{scanned_bound, within_run}
use Rattle.reading.proofs.Scanner.{scan_joined}
use Rattle.scanner.specs.Scan.{view}
use Rattle.runs.specs.Calls.{Held, Accepted, Seen, play, tokens, Record, record_of}
use Rattle.runs.specs.Joined.{Closed, ThreeRuns, NoEof, FirstEof, move_seen, joined_record, JoinedRuns}
use Rattle.runs.proofs.Seen.{seen_of, firsts, view_of}
use Rattle.runs.proofs.Played.{played_view, played_tokens}
use Rattle.runs.proofs.Accepted.{accepted_view, accepted_base, accepted_size, accepted_formed, accepted_fits}
use Rattle.runs.proofs.Parts.{seen_moved, seen_kept}
use Rattle.runs.proofs.Firsts.{last_apart, length_firsts, firsts_alike, firsts_add, map_firsts}
use Rattle.runs.proofs.Closing.{widths_chars, closed_ends}

-- ---- one run, with no bound on lines and errors

-- how far a source has been read after k scans, and what scan k + 1 shows
abbrev read_at : List ℕ → ℕ → ℕ → Reading
read_at src size k = run lex size (opened (chars src)) k

abbrev shown_at : List ℕ → ℕ → ℕ → ℕ → Seen
shown_at src base size k = seen_of src (token_at lex base size (opened (chars src)) k)

-- what k scans come to
unfoldable record_at : List ℕ → ℕ → ℕ → ℕ → Record
record_at src base size k =
    record { given = firsts (shown_at src base size) k; lines = (read_at src size k).lines; errors = (read_at src size k).errors }

record_path : (r s : Record) → r.given ≡ s.given → r.lines ≡ s.lines → r.errors ≡ s.errors → r ≡ s
record_path r s a b c = λ i. record { given = a i; lines = b i; errors = c i }

module _ (src : List ℕ) (base size : ℕ) (h : Held) (a : Accepted src base size h) where
  at_view : (areas : List (List ℕ)) (k : ℕ) → length (tokens src areas h) ≡ k → view_of src (play src areas h) ≡ read_at src size k
  at_view areas k e =
      played_view src areas h
      ∙ ap (run lex h.state.size (view_of src h)) e
      ∙ ap (λ s. run lex h.state.size s k) (accepted_view a)
      ∙ ap (λ n. run lex n (opened (chars src)) k) (accepted_size a)

  at_tokens : (areas : List (List ℕ)) (k : ℕ) → length (tokens src areas h) ≡ k → tokens src areas h ≡ firsts (shown_at src base size) k
  at_tokens areas k e =
      played_tokens src areas h
      ∙ ap (λ n. firsts (λ i. seen_of src (token_at lex h.state.base h.state.size (view_of src h) i)) n) e
      ∙ rw (accepted_view a, accepted_base a, accepted_size a)

  -- any calls that gave k tokens have come to what k scans come to
  at_record : (areas : List (List ℕ)) (k : ℕ) → length (tokens src areas h) ≡ k → record_of src areas h ≡ record_at src base size k
  unfolding record_of record_at view
  at_record areas k e =
      let v = at_view areas k e in
      record_path _ _ (at_tokens areas k e) (ap (λ r. r.lines) v) (ap (λ r. r.errors) v)

-- ---- the first run, at its first EOF
noeof_left : (l m : List Seen) → NoEof (l ++ m) → NoEof l
noeof_left [] m h = tt
noeof_left (t ∷ l) m h = (h.0, noeof_left l m h.1)

noeof_last : (l : List Seen) (t : Seen) → NoEof (l ++ (t ∷ [])) → t.token.kind ≢ EOF
noeof_last [] t h = h.0
noeof_last (u ∷ l) t h = noeof_last l t h.1

noeof_at : (f : ℕ → Seen) (k : ℕ) → NoEof (firsts f k) → (i : ℕ) → i < k → (f i).token.kind ≢ EOF
unfolding firsts
noeof_at f zero h i l = absurd (omega arith)
noeof_at f (suc k) h i l = go (eqb i k) refl (noeof_at f k (noeof_left (firsts f k) (f k ∷ []) h) i)
  where
    go : (b : Bool) → eqb i k ≡ b → (i < k → (f i).token.kind ≢ EOF) → (f i).token.kind ≢ EOF
    go true e g = subst (λ n. (f n).token.kind ≢ EOF) (sym (eqb-true i k e)) (noeof_last (firsts f k) (f k) h)
    go false e g = let n : i ≢ k = eqb-false i k e in g (omega arith)

module _ (x : List ℕ) (base size : ℕ) (h : Held) (a : Accepted x base size h) (ending : List (List ℕ)) (ts : List Seen) (f : FirstEof x h ending ts) where
  ends_count : length (tokens x ending h) ≡ suc (length ts)
  unfolding record_of
  ends_count = ap length f.all ∙ length-append ts (f.last ∷ []) ∙ omega arith

  ends_tokens : (firsts (shown_at x base size) (length ts) ≡ ts) × (shown_at x base size (length ts) ≡ f.last)
  unfolding record_of firsts
  ends_tokens =
      last_apart (firsts (shown_at x base size) (length ts)) ts (shown_at x base size (length ts)) f.last
      (length_firsts (shown_at x base size) (length ts))
      (sym (at_tokens x base size h a ending (suc (length ts)) ends_count) ∙ f.all)

  first_end : FirstEnd lex size (chars x) (length ts)
  unfolding seen_of token_at token record_at
  first_end =
      record {
        before = noeof_at (shown_at x base size) (length ts) (subst NoEof (sym ends_tokens.0) f.before);
        ends = ap (λ t. t.token.kind) ends_tokens.1 ∙ f.ends;
        shut = subst (λ r. AllShut r.errors) (at_record x base size h a ending (suc (length ts)) ends_count) f.shut;
      }

-- ---- the three runs
module _ (x y : List ℕ) (base size : ℕ) (h h₁ h₂ : Held) (closed : Closed x) (a : Accepted (x ++ y) base size h) (a₁ : Accepted x base size h₁)
    (a₂ : Accepted y (base + length (chars x)) (size - length (chars x)) h₂) (ending : List (List ℕ)) (ts : List Seen) (f : FirstEof x h₁ ending ts) where
  abbrev t₁ : List Char
  t₁ = chars x

  abbrev t₂ : List Char
  t₂ = chars y

  both : chars (x ++ y) ≡ t₁ ++ t₂
  both = chars_append x y (accepted_formed a₁)

  together : Joined lex base size t₁ t₂ (length ts)
  together =
      scan_joined base size t₁ t₂ (length ts) (closed_ends x closed)
      (omega (arith, accepted_fits a, ap length both, length-append t₁ t₂))
      (first_end x base size h₁ a₁ ending ts f)

  both_read : (k : ℕ) → read_at (x ++ y) size k ≡ run lex size (opened (t₁ ++ t₂)) k
  both_read k = ap (λ t. run lex size (opened t) k) both

  both_token : (k : ℕ) → token_at lex base size (opened (chars (x ++ y))) k ≡ token_at lex base size (opened (t₁ ++ t₂)) k
  both_token k = ap (λ t. token_at lex base size (opened t) k) both

  -- a token of the first run shows the same with y after x
  kept : (i : ℕ) → seen_of (x ++ y) (token_at lex base size (opened t₁) i) ≡ shown_at x base size i
  unfolding token_at token
  kept i =
      let s = read_at x size i in
      let k = (scanned lex s).skipped in
      let w = within_run lex lex_laws size t₁ i in
      seen_kept x y (token_at lex base size (opened t₁) i) (w.p ++ take k s.rest) (drop k s.rest) (accepted_formed a₁)
      (append_assoc w.p (take k s.rest) (drop k s.rest) ∙ rw take-append-drop w.whole)
      (sym (widths_append w.p (take k s.rest) ∙ rw (← w.place)))
      (omega (arith, scanned_bound lex lex_laws s, length-drop k s.rest))

  first_shown : (i : ℕ) → i < length ts → shown_at (x ++ y) base size i ≡ shown_at x base size i
  first_shown i l = ap (seen_of (x ++ y)) (both_token i ∙ together.first_token i l) ∙ kept i

  second_shown : (j : ℕ) → shown_at (x ++ y) base size (length ts + j) ≡ move_seen (length x) (shown_at y (base + length t₁) (size - length t₁) j)
  second_shown j =
      let t = token_at lex (base + length t₁) (size - length t₁) (opened t₂) j in
      ap (seen_of (x ++ y)) (both_token (length ts + j) ∙ together.second_token j ∙ ap (λ n. move n t) (widths_chars x)) ∙ seen_moved x y t

  first_record : (k : ℕ) → k ≤ length ts → record_at (x ++ y) base size k ≡ record_at x base size k
  unfolding record_at
  first_record k l =
      record_path _ _ (firsts_alike (shown_at (x ++ y) base size) (shown_at x base size) k (λ i m. first_shown i (omega arith)))
      (ap (λ r. r.lines) (both_read k) ∙ together.first_lines k l)
      (ap (λ r. r.errors) (both_read k) ∙ together.first_errors k l)

  second_given : (j : ℕ) → firsts (shown_at (x ++ y) base size) (length ts + j)
      ≡ ts ++ map (move_seen (length x)) (firsts (shown_at y (base + length t₁) (size - length t₁)) j)
  second_given j =
      let g = shown_at (x ++ y) base size in
      let u = shown_at y (base + length t₁) (size - length t₁) in
      let first : firsts g (length ts) ≡ ts = firsts_alike g (shown_at x base size) (length ts) first_shown ∙ (ends_tokens x base size h₁ a₁ ending ts f).0 in
      let second : firsts (λ i. g (length ts + i)) j ≡ map (move_seen (length x)) (firsts u j) =
      firsts_alike (λ i. g (length ts + i)) (λ i. move_seen (length x) (u i)) j (λ i l. second_shown i) ∙ sym (map_firsts (move_seen (length x)) u j) in
      firsts_add g (length ts) j ∙ rw (first, second)

  second_record : (j : ℕ) → 0 < j → record_at (x ++ y) base size (length ts + j)
      ≡ joined_record x ts (record_at x base size (suc (length ts))) (record_at y (base + length t₁) (size - length t₁) j)
  unfolding record_at
  second_record j l =
      record_path _ _ (second_given j) (ap (λ r. r.lines) (both_read (length ts + j)) ∙ together.second_lines j l)
      (ap (λ r. r.errors) (both_read (length ts + j)) ∙ together.second_errors j l)

  joined : JoinedRuns x y h h₁ h₂ ending ts
  joined =
      record {
        first = λ both first e l.
            at_record (x ++ y) base size h a both _ e ∙ first_record _ l ∙ sym (at_record x base size h₁ a₁ first _ refl);
        second = λ both second e l.
            at_record (x ++ y) base size h a both _ e
            ∙ second_record _ l
            ∙ sym
            (rw (at_record x base size h₁ a₁ ending _ (ends_count x base size h₁ a₁ ending ts f), at_record y _ _ h₂ a₂ second _ refl));
      }

pub joined_runs : (x y : List ℕ) (base size : ℕ) (h h₁ h₂ : Held) → ThreeRuns x y base size h h₁ h₂ → (ending : List (List ℕ)) (ts : List Seen)
    → FirstEof x h₁ ending ts → JoinedRuns x y h h₁ h₂ ending ts
joined_runs x y base size h h₁ h₂ r = joined x y base size h h₁ h₂ r.closed r.joined r.first r.second
