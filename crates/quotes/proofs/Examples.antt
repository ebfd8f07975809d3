-- Worked examples of bodies, by computing the definitions.
use Prim.Native.Nat.{ℕ}
use Prim.Native.Char.{code}
use mathlib.Core.Path.{◌≡◌, refl}
use mathlib.Core.Bool.{true, false}
use mathlib.Core.List.{List, [], ◌∷◌}
use Rattle.basics.specs.Spelling.{spelled}
use Rattle.utf8.specs.Chars.{chars, chars_from, first_char, octets, encode}
use Rattle.kinds.specs.Kinds.{ILLEGAL}
use Rattle.errors.specs.Numbers.{OPEN_QUOTE, UNKNOWN_ESCAPE, CUT_ESCAPE, BAD_ESCAPE, NO_CODE_POINT, NOT_ONE_CHARACTER}
use Rattle.digits.specs.Digit.{digit_val}
use Rattle.escapes.specs.EscapeDigits.{escape_digits}
use Rattle.escapes.specs.Escape.{letter, byte_of, code_point_of, octal_escape, following, hex_escape, escape_of}
use Rattle.quotes.specs.Body.{Body, body_from, body, body_at, quoted_at}
use Rattle.quotes.specs.Literal.{double_quote, single_quote, char_kind, char_error}

-- a string's body and a character literal's, from after the opening quote
abbrev string : List ℕ → Body
string s = body double_quote (chars s)

abbrev character : List ℕ → Body
character s = body single_quote (chars s)

-- left by a bad escape before the first character
abbrev left : ℕ → ℕ → Body
left len error = record { len = len; closed = false; error = error; count = 0; code = 0; value = []; escaped = false; strays = 0 }

pub examples :
    (string (spelled "\\400\"") ≡ left 4 NO_CODE_POINT)
    × (string (spelled "\\U00110000\"") ≡ left 10 NO_CODE_POINT)
    × (character (spelled "\\uD800'") ≡ left 6 NO_CODE_POINT)
    × (string (spelled "\\'\"") ≡ left 1 UNKNOWN_ESCAPE)
    × (string (spelled "\\xg1\"") ≡ left 2 BAD_ESCAPE)
    × (string (spelled "\\u00e") ≡ left 5 CUT_ESCAPE)
    × (character (spelled "\\xff' x") ≡ record { len = 5; closed = true; error = 0; count = 1; code = 255; value = 255 ∷ []; escaped = true; strays = 0 })
    × (character (spelled "ab'") ≡ record { len = 3; closed = true; error = 0; count = 2; code = code "a"; value = spelled "ab"; escaped = false; strays = 0 })
    × (char_kind (character (spelled "ab'")) ≡ ILLEGAL)
    × (char_error (character (spelled "ab'")) ≡ NOT_ONE_CHARACTER)
    × (char_error (character (spelled "'")) ≡ NOT_ONE_CHARACTER)
    × (char_error (character (spelled "ab")) ≡ OPEN_QUOTE)
    × ((string (spelled "\\u00e9\\n\"")).value ≡ 0xC3 ∷ 0xA9 ∷ code "\n" ∷ [])
    × (quoted_at double_quote (code "x" ∷ 0xFF ∷ double_quote ∷ []) 0 ≡ record { end = 3; chars = 3; closed = true; error = 0; count = 2; code = code "x"; escaped = false; strays = 1; bytes = 2 })
unfolding chars_from first_char octets encode digit_val escape_digits letter byte_of code_point_of octal_escape following hex_escape escape_of body_from body_at
examples = (refl, refl, refl, refl, refl, refl, refl, refl, refl, refl, refl, refl, refl, refl)
