-- The text of a number: "Prefixes are written lower case in the text, and so is the exponent's e." A
-- bare octal number "gains an o": `017` gives `0o17`, and `0_600` gives `0o_600`. The digits of a
-- decimal number stay "as written", also after a leading 0.
use Rattle.std.specs.Prelude.{ℕ, ◌+◌, Bool, true, false, cond, List, [], ◌∷◌, map, eqb}
use Prim.Native.Char.{code}
use Rattle.basics.specs.Between.{between}
use Rattle.numbers.specs.declared.Spelling.{Spelling}
use Rattle.numbers.specs.declared.Spelling.TheVariants.{AsRead, LowerPrefix, OctalPrefix, LowerExponent}

-- a letter in lower case, which is 32 codes after its upper case
abbrev pub lower : ℕ → ℕ
lower b = cond (between (code "A") b (code "Z")) (b + 32) b

-- the second byte in lower case
abbrev pub lower_second : List ℕ → List ℕ
lower_second [] = []
lower_second (a ∷ []) = a ∷ []
lower_second (a ∷ b ∷ bs) = a ∷ lower b ∷ bs

-- an o after the first byte
abbrev pub gain_o : List ℕ → List ℕ
gain_o [] = []
gain_o (a ∷ bs) = a ∷ code "o" ∷ bs

-- each E as e
abbrev pub lower_e : List ℕ → List ℕ
lower_e bs = map (λ b. cond (eqb b (code "E")) (code "e") b) bs

-- does a spelling keep the bytes read?
abbrev pub is_as_read : Spelling → Bool
is_as_read AsRead = true
is_as_read LowerPrefix = false
is_as_read OctalPrefix = false
is_as_read LowerExponent = false

-- the text, from the bytes read
unfoldable pub number_text : Spelling → List ℕ → List ℕ
number_text AsRead bs = bs
number_text LowerPrefix bs = lower_second bs
number_text OctalPrefix bs = gain_o bs
number_text LowerExponent bs = lower_e bs
