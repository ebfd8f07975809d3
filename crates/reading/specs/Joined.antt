-- A run over two joined texts is the run over the first and then the run over the second.
use Rattle.std.specs.Prelude.{ℕ, suc, ◌+◌, ◌-◌, ◌≤◌, ◌<◌, ◌≡◌, List, [], ◌∷◌, ◌++◌, map, ◌≢◌, length, drop}
use Rattle.utf8.specs.declared.Char.{Char}
use Rattle.utf8.specs.Chars.{widths}
use Rattle.kinds.specs.Kinds.{EOF}
use Rattle.errors.specs.declared.layout.Error.{Error}
use Rattle.utf8.specs.Count.{is_lf, count}
use Rattle.lexer.specs.Lexeme.{Shut}
use Rattle.reading.specs.Reading.{opened}
use Rattle.reading.specs.Run.{Lexer, scanned, run, token_at, move}

-- none of the errors is an open raw string or an open comment
abbrev pub AllShut : List Error → Type 0
AllShut [] = Unit {0}
AllShut (e ∷ es) = Shut e.number × AllShut es

-- a is the number of scans before the first EOF
pub record FirstEnd (lex : Lexer) (size : ℕ) (t : List Char) (a : ℕ) : Type 0 where
  -- none of the first a scans gives EOF
  pub before : (i : ℕ) → i < a → (scanned lex (run lex size (opened t) i)).kind ≢ EOF
  -- the next one does
  pub ends : (scanned lex (run lex size (opened t) a)).kind ≡ EOF
  -- and no raw string and no comment was left open
  pub shut : AllShut (run lex size (opened t) (suc a)).errors

-- the same error, so many characters and lines on
unfoldable pub move_error : ℕ → ℕ → Error → Error
move_error characters lines e =
    record { offset = characters + e.offset; line = lines + e.line; column = e.column; number = e.number }

-- t₁ and t₂ are joined in a file with this base and size; the second run's file follows t₁, with
-- the rest of the size
pub record Joined (lex : Lexer) (base size : ℕ) (t₁ t₂ : List Char) (a : ℕ) : Type 0 where
  -- before the first run's EOF the joined run gives the first run's tokens
  pub first_token : (i : ℕ) → i < a → token_at lex base size (opened (t₁ ++ t₂)) i ≡ token_at lex base size (opened t₁) i
  -- after as many scans it has recorded the same line starts
  pub first_lines : (i : ℕ) → i ≤ a → (run lex size (opened (t₁ ++ t₂)) i).lines ≡ (run lex size (opened t₁) i).lines
  -- and the same errors
  pub first_errors : (i : ℕ) → i ≤ a → (run lex size (opened (t₁ ++ t₂)) i).errors ≡ (run lex size (opened t₁) i).errors
  -- from there on, in place of that EOF, it gives the second run's tokens at the same positions,
  -- with the first text's bytes before them
  pub second_token : (j : ℕ) → token_at lex base size (opened (t₁ ++ t₂)) (a + j)
      ≡ move (widths t₁) (token_at lex (base + length t₁) (size - length t₁) (opened t₂) j)
  -- its line starts are the first run's and then the second's without its first, each raised by the
  -- first text's characters
  pub second_lines : (j : ℕ) → 0 < j → (run lex size (opened (t₁ ++ t₂)) (a + j)).lines
      ≡ (run lex size (opened t₁) (suc a)).lines ++ map (λ x. length t₁ + x) (drop 1 (run lex (size - length t₁) (opened t₂) j).lines)
  -- its errors are the first run's and then the second's, each moved on by the first text's
  -- characters and line feeds
  pub second_errors : (j : ℕ) → 0 < j → (run lex size (opened (t₁ ++ t₂)) (a + j)).errors
      ≡ (run lex size (opened t₁) (suc a)).errors ++ map (move_error (length t₁) (count is_lf t₁)) (run lex (size - length t₁) (opened t₂) j).errors
