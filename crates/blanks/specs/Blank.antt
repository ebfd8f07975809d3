-- Blanks: "Space, tab, CR, and LF unless "now" is set, are skipped." The mark is what 01 calls
-- "now".
use Rattle.std.specs.Prelude.{ℕ, suc, ◌+◌, Bool, cond, not, ◌&&◌, ◌||◌, List, [], ◌∷◌, ltb, eqb, Some, None}
use Prim.Native.Char.{code}
use Rattle.utf8.specs.declared.Char.{Char}
use Rattle.blanks.specs.declared.Skipped.{Skipped}

-- space, tab, CR
unfoldable pub is_space : ℕ → Bool
is_space c = eqb c (code " ") || eqb c (code "\t") || eqb c (code "\r")

unfoldable pub is_blank : Bool → ℕ → Bool
is_blank mark c = is_space c || (eqb c (code "\n") && not mark)

-- how many characters are skipped, how many of them are line feeds, and how many come up to the
-- last line feed, with it
pub record Skip : Type 0 where
  pub len : ℕ
  pub lfs : ℕ
  pub line : ℕ

abbrev pub nothing : Skip
nothing = record { len = 0; lfs = 0; line = 0 }

-- the character of code c before what is skipped
abbrev pub before : ℕ → Skip → Skip
before c x =
    record {
      len = suc x.len;
      lfs = cond (eqb c (code "\n")) (suc x.lfs) x.lfs;
      line = cond (ltb 0 x.line) (suc x.line) (cond (eqb c (code "\n")) 1 0);
    }

unfoldable pub skip : Bool → List Char → Skip
skip mark [] = nothing
skip mark (c ∷ r) = cond (is_blank mark c.code) (before c.code (skip mark r)) nothing

-- blanks that start at a place, as the code gives them; only after a line feed there is a last line
abbrev pub skipped_at : ℕ → Skip → Skipped
skipped_at at x = record { end = at + x.len; lfs = x.lfs; line = cond (ltb 0 x.line) (Some (at + x.line)) None }
