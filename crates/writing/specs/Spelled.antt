-- Steps of the code. No public contract cites this file.
-- The text of a number byte by byte.
use Rattle.std.specs.Prelude.{ℕ, ◌+◌, cond, List, [], ◌∷◌, ◌++◌, eqb}
use Prim.Native.Char.{code}
use Rattle.numbers.specs.declared.Spelling.{Spelling}
use Rattle.numbers.specs.declared.Spelling.TheVariants.{AsRead, LowerPrefix, OctalPrefix, LowerExponent}
use Rattle.numbers.specs.Spelling.{lower}

-- an E as e
abbrev pub lower_exponent : ℕ → ℕ
lower_exponent b = cond (eqb b (code "E")) (code "e") b

-- what the text has of a byte that was read after k others
unfoldable pub spelled_byte : Spelling → ℕ → ℕ → List ℕ
spelled_byte AsRead k b = b ∷ []
spelled_byte LowerPrefix k b = cond (eqb k 1) (lower b) b ∷ []
spelled_byte OctalPrefix k b = cond (eqb k 0) (b ∷ code "o" ∷ []) (b ∷ [])
spelled_byte LowerExponent k b = lower_exponent b ∷ []

-- the text of bytes that were read after k others
unfoldable pub spelled_from : Spelling → ℕ → List ℕ → List ℕ
spelled_from spelling k [] = []
spelled_from spelling k (b ∷ bs) = spelled_byte spelling k b ++ spelled_from spelling (k + 1) bs
