-- The theorems about runs, at the scanner's own lexer.
use Prim.Native.Nat.{ℕ, suc, ◌+◌, ◌*◌, ◌≤◌}
use mathlib.Core.Path.{◌≡◌}
use mathlib.Core.Bool.{true}
use mathlib.Core.List.{List, []}
use mathlib.Core.Logic.{◌⊎◌}
use lib.ListN.{length}
use Rattle.utf8.specs.declared.Char.{Char}
use Rattle.utf8.proofs.Ends.{Ends}
use Rattle.kinds.specs.Kinds.{EOF}
use Rattle.position.specs.Lines.{StrictlyRising}
use Rattle.lexer.specs.Lex.{lex}
use Rattle.lexer.proofs.Laws.{lex_laws}
use Rattle.reading.specs.Reading.{Reading, opened}
use Rattle.reading.specs.Run.{scanned, run, token_at}
use Rattle.reading.specs.Joined.{FirstEnd, Joined}
use Rattle.reading.proofs.Runs.{rising_run, positions_rise}
use Rattle.reading.proofs.Join.{joined}
use Rattle.reading.proofs.Progress.{eof_by, eof_stays, no_neighbours}

-- the first text is empty or ends in a line feed, and both fit the size
pub scan_joined : (base size : ℕ) (t₁ t₂ : List Char) (a : ℕ) → Ends t₁ ⊎ (t₁ ≡ []) → length t₁ + length t₂ ≤ size → FirstEnd lex size t₁ a
    → Joined lex base size t₁ t₂ a
scan_joined = joined lex lex_laws

-- in a text of n characters scan 2 n + 1 gives EOF, and so does every one after it
pub scan_eof_by : (size base : ℕ) (t : List Char) (j : ℕ) → 2 * length t + 1 ≤ suc j → (token_at lex base size (opened t) j).kind ≡ EOF
scan_eof_by = eof_by lex lex_laws

pub scan_eof_stays : (size : ℕ) (s : Reading) → (scanned lex s).kind ≡ EOF → (j : ℕ) → (scanned lex (run lex size s j)).kind ≡ EOF
scan_eof_stays = eof_stays lex lex_laws

pub scan_positions_rise : (size base : ℕ) (s : Reading) (k : ℕ) → (token_at lex base size s k).position ≤ (token_at lex base size s (suc k)).position
scan_positions_rise = positions_rise lex

-- no two inserted semicolons are neighbours
pub scan_no_neighbours : (size base : ℕ) (s : Reading) (k : ℕ) → (token_at lex base size s k).inserted ≡ true → (token_at lex base size s (suc k)).inserted ≡ true → ⊥
scan_no_neighbours = no_neighbours lex lex_laws

pub scan_lines_rise : (size : ℕ) (t : List Char) (k : ℕ) → StrictlyRising (run lex size (opened t) k).lines
scan_lines_rise = rising_run lex
