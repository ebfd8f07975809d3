-- Words: "Letter (ASCII or `_`): the longest run of letters and ASCII digits".
use Rattle.std.specs.Prelude.{ℕ, suc, Bool, cond, ◌||◌, List, [], ◌∷◌, eqb}
use Prim.Native.Char.{code}
use Rattle.basics.specs.Between.{between}
use Rattle.utf8.specs.declared.Char.{Char}

unfoldable pub is_letter : ℕ → Bool
is_letter c = between (code "a") c (code "z") || between (code "A") c (code "Z") || eqb c (code "_")

unfoldable pub is_word : ℕ → Bool
is_word c = is_letter c || between (code "0") c (code "9")

-- how many characters the run has
unfoldable pub word_len : List Char → ℕ
word_len [] = 0
word_len (c ∷ r) = cond (is_word c.code) (suc (word_len r)) 0
