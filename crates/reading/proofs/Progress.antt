-- A run comes to EOF and stays there, and no two inserted semicolons are neighbours.
use Prim.Native.Nat.{ℕ, zero, suc, ◌+◌, ◌*◌, ◌≤◌, ◌<◌}
use mathlib.Core.Path.{◌≡◌, refl, sym, ap, ◌∙◌}
use mathlib.Core.Bool.{Bool, true, false, true≢false}
use mathlib.Core.List.{List}
use mathlib.Core.Logic.{◌≢◌, inl, inr}
use native.Mathlib.Omega.{arith}
use lib.Dec.{eqb}
use lib.ListN.{length, drop, length-drop}
use borrow.Author.Tests.{eqb-true, eqb-false}
use Rattle.utf8.specs.declared.Char.{Char}
use Rattle.kinds.specs.Kinds.{EOF}
use Rattle.utf8.specs.Count.{one}
use Rattle.utf8.proofs.Count.{one_le}
use Rattle.lexer.specs.Lexeme.{Lexeme, taken}
use Rattle.lexer.proofs.LexLaws.{Moves, LexLaws}
use Rattle.reading.specs.Reading.{Reading, after, opened}
use Rattle.reading.specs.Run.{Lexer, scanned, next, run, token, token_at}
use Rattle.reading.proofs.Runs.{run_shift}
use Rattle.reading.proofs.Ending.{at_end_eof, scanned_eof, eof_rest, eof_mark}

-- the tokens before EOF are at most two for a character left, and one for the mark
unfoldable tokens_left : Reading → ℕ
tokens_left s = 2 * length s.rest + one s.mark

module _ (lex : Lexer) (laws : LexLaws lex) (size : ℕ) where
  tokens_fall : (s : Reading) → (scanned lex s).kind ≢ EOF → tokens_left (next lex size s) < tokens_left s
  unfolding tokens_left next after scanned
  tokens_fall s k = go (laws.moves s.mark s.rest k)
    where
      x : Lexeme
      x = lex s.mark s.rest

      go : Moves s.mark x → 2 * length (drop (taken x) s.rest) + one x.mark < 2 * length s.rest + one s.mark
      go (inl h) =
          omega (arith, h.0, length-drop (taken x) s.rest, laws.bound s.mark s.rest, one_le x.mark)
      go (inr h) = omega (arith, length-drop (taken x) s.rest, ap one h.0, ap one h.3)

  eof_next : (s : Reading) → (scanned lex s).kind ≡ EOF → (scanned lex (next lex size s)).kind ≡ EOF
  eof_next s k = at_end_eof lex laws (next lex size s) (eof_rest lex laws size s k) (eof_mark lex laws size s k)

  -- after EOF comes EOF
  pub eof_stays : (s : Reading) → (scanned lex s).kind ≡ EOF → (j : ℕ) → (scanned lex (run lex size s j)).kind ≡ EOF
  unfolding run
  eof_stays s k zero = k
  eof_stays s k (suc j) = eof_next (run lex size s j) (eof_stays s k j)

  eof_comes : (n : ℕ) (s : Reading) → tokens_left s ≤ n → (j : ℕ) → n ≤ j → (scanned lex (run lex size s j)).kind ≡ EOF
  eof_comes zero s h j l = go (eqb (scanned lex s).kind EOF) refl
    where
      go : (b : Bool) → eqb (scanned lex s).kind EOF ≡ b → (scanned lex (run lex size s j)).kind ≡ EOF
      go true e = eof_stays s (eqb-true _ _ e) j
      go false e = absurd (omega (arith, tokens_fall s (eqb-false _ _ e)))
  eof_comes (suc n) s h zero l = absurd (omega arith)
  eof_comes (suc n) s h (suc j) l = go (eqb (scanned lex s).kind EOF) refl (λ f. eof_comes n (next lex size s) f j (omega arith))
    where
      go : (b : Bool) → eqb (scanned lex s).kind EOF ≡ b
          → (tokens_left (next lex size s) ≤ n → (scanned lex (run lex size (next lex size s) j)).kind ≡ EOF)
          → (scanned lex (run lex size s (suc j))).kind ≡ EOF
      go true e f = eof_stays s (eqb-true _ _ e) (suc j)
      go false e f = rw (← run_shift lex size s j) (f (omega (arith, tokens_fall s (eqb-false _ _ e))))

  -- in a text of n characters scan 2 n + 1 gives EOF, and so does every one after it
  pub eof_by : (base : ℕ) (t : List Char) (j : ℕ) → 2 * length t + 1 ≤ suc j → (token_at lex base size (opened t) j).kind ≡ EOF
  unfolding token_at token tokens_left
  eof_by base t j h = eof_comes (2 * length t) (opened t) (omega arith) j (omega arith)

  -- an inserted semicolon needs the mark and clears it
  inserted_marks : (s : Reading) → (scanned lex s).inserted ≡ true → (s.mark ≡ true) × ((scanned lex s).mark ≡ false)
  unfolding scanned
  inserted_marks s h = go (eqb (scanned lex s).kind EOF) refl
    where
      by_moves : Moves s.mark (lex s.mark s.rest) → (s.mark ≡ true) × ((scanned lex s).mark ≡ false)
      by_moves (inl q) = absurd (true≢false (sym h ∙ q.1))
      by_moves (inr q) = (q.0, q.3)

      go : (b : Bool) → eqb (scanned lex s).kind EOF ≡ b → (s.mark ≡ true) × ((scanned lex s).mark ≡ false)
      go true e = absurd (true≢false (sym h ∙ ap (λ x. x.inserted) (scanned_eof lex laws size s (eqb-true _ _ e))))
      go false e = by_moves (laws.moves s.mark s.rest (eqb-false _ _ e))

  -- no two inserted tokens are neighbours
  pub no_neighbours : (base : ℕ) (s : Reading) (k : ℕ) → (token_at lex base size s k).inserted ≡ true → (token_at lex base size s (suc k)).inserted ≡ true → ⊥
  unfolding token_at token run next after
  no_neighbours base s k h g =
      true≢false (sym (inserted_marks (run lex size s (suc k)) g).0 ∙ (inserted_marks (run lex size s k) h).1)
