-- Worked examples, by computation.
use mathlib.Core.Path.{◌≡◌, refl}
use mathlib.Core.List.{[], ◌∷◌}
use Rattle.utf8.specs.Chars.{chars_from, first_char}
use Rattle.validation.specs.Answers.{valid, not_utf8, checked_of}

-- an overlong form, and a surrogate half
overlong : checked_of (0x2F ∷ 0xC0 ∷ 0xAE ∷ []) ≡ not_utf8 1
unfolding chars_from first_char
overlong = refl

half : checked_of (0x2F ∷ 0x2F ∷ 0xED ∷ 0xA0 ∷ 0x80 ∷ []) ≡ not_utf8 2
unfolding chars_from first_char
half = refl

cut : checked_of (0xC3 ∷ 0xA9 ∷ 0xE2 ∷ 0x82 ∷ []) ≡ not_utf8 2
unfolding chars_from first_char
cut = refl

replacement : checked_of (0xEF ∷ 0xBF ∷ 0xBD ∷ []) ≡ valid 1
unfolding chars_from first_char
replacement = refl
