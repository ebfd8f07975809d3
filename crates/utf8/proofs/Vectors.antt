-- Worked examples, by computation.
use mathlib.Core.Path.{◌≡◌, refl}
use mathlib.Core.List.{[], ◌∷◌}
use Rattle.utf8.specs.Chars.{chars_from, chars, first_char}

-- A, not identical to, Alpha, full stop (RFC 3629, section 7)
rfc_1 : chars (0x41 ∷ 0xE2 ∷ 0x89 ∷ 0xA2 ∷ 0xCE ∷ 0x91 ∷ 0x2E ∷ [])
    ≡ record { code = 0x41; width = 1 } ∷ record { code = 0x2262; width = 3 } ∷ record { code = 0x391; width = 2 } ∷ record { code = 0x2E; width = 1 } ∷ []
unfolding chars_from first_char
rfc_1 = refl

-- U+233B4
rfc_4 : chars (0xEF ∷ 0xBB ∷ 0xBF ∷ 0xF0 ∷ 0xA3 ∷ 0x8E ∷ 0xB4 ∷ []) ≡ record { code = 0xFEFF; width = 3 } ∷ record { code = 0x233B4; width = 4 } ∷ []
unfolding chars_from first_char
rfc_4 = refl
