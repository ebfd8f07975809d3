-- Runs of digits: "An underscore stands between digits or after a prefix, never doubled, never
-- last."
use Rattle.std.specs.Prelude.{ℕ, suc, Bool, true, false, cond, ◌||◌, List, [], ◌∷◌, ltb, eqb}
use Prim.Native.Char.{code}
use Rattle.utf8.specs.declared.Char.{Char}
use Rattle.digits.specs.Digit.{digit_val, is_decimal}

-- how many characters a run has, and whether an underscore is misplaced where it stopped
pub record Run : Type 0 where
  pub len : ℕ
  pub misplaced : Bool

-- nothing more is read
abbrev pub end_of_run : Bool → Run
end_of_run misplaced = record { len = 0; misplaced = misplaced }

-- one character before
abbrev pub longer_run : Run → Run
longer_run d = record { len = suc d.len; misplaced = d.misplaced }

-- the longest run of digits below the base and single underscores; `under`: the character before it
-- is an underscore
unfoldable pub digit_run : ℕ → Bool → List Char → Run
digit_run base under [] = end_of_run under
digit_run base under (c ∷ r) =
    cond (ltb (digit_val c.code) base) (longer_run (digit_run base false r))
    (cond (eqb c.code (code "_")) (cond under (end_of_run true) (longer_run (digit_run base true r))) (end_of_run under))

-- the same where no underscore may come first
unfoldable pub strict_run : ℕ → List Char → Run
strict_run base [] = end_of_run false
strict_run base (c ∷ r) = cond (eqb c.code (code "_")) (end_of_run true) (digit_run base false (c ∷ r))

-- ---- "the longest run of digits and underscores", which request 3 takes after a 0: they may stand
-- in any order
abbrev pub is_digit_or_underscore : ℕ → Bool
is_digit_or_underscore c = is_decimal c || eqb c (code "_")

-- how many characters the run has
unfoldable pub run_len : List Char → ℕ
run_len [] = 0
run_len (c ∷ r) = cond (is_digit_or_underscore c.code) (suc (run_len r)) 0
