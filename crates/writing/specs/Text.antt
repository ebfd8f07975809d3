-- Steps of the code. No public contract cites this file.
-- The text of characters, with or without CR: the two cases are `encoded` and `clean`.
use Rattle.std.specs.Prelude.{Bool, cond, not, ◌||◌, List, [], ◌∷◌, ◌++◌, ℕ}
use Rattle.utf8.specs.declared.Char.{Char}
use Rattle.utf8.specs.Chars.{encode}
use Rattle.utf8.specs.Count.{is_cr}

unfoldable pub text : Bool → List Char → List ℕ
text crs [] = []
text crs (c ∷ cs) = cond (crs || not (is_cr c)) (encode c.code) [] ++ text crs cs
