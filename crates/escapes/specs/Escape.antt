-- Escapes, by the Go specification's "Rune literals" and "String literals".
use Rattle.std.specs.Prelude.{ℕ, suc, true, false, cond, List, [], ◌∷◌, ltb, eqb}
use Prim.Native.Char.{code}
use Rattle.utf8.specs.declared.Char.{Char}
use Rattle.utf8.specs.Chars.{is_scalar}
use Rattle.errors.specs.Numbers.{UNKNOWN_ESCAPE, CUT_ESCAPE, NO_CODE_POINT}
use Rattle.digits.specs.Digit.{digit_val}
use Rattle.escapes.specs.Answers.{Meaning, character, no_character, Escape}
use Rattle.escapes.specs.EscapeDigits.{Digits, escape_digits}

-- the entry of a table for a character; 0 where it has none
abbrev pub entry_for : ℕ → List (ℕ × ℕ) → ℕ
entry_for c [] = 0
entry_for c (row ∷ rows) = cond (eqb c row.0) row.1 (entry_for c rows)

-- the code that a letter, or a backslash, gives
abbrev pub letters : List (ℕ × ℕ)
letters =
    (code "a", 0x07)
    ∷ (code "b", 0x08)
    ∷ (code "f", 0x0C)
    ∷ (code "n", code "\n")
    ∷ (code "r", code "\r")
    ∷ (code "t", code "\t")
    ∷ (code "v", 0x0B)
    ∷ (code "\\", code "\\")
    ∷ []

unfoldable pub letter : ℕ → ℕ
letter c = entry_for c letters

-- how many hexadecimal digits follow a letter
abbrev pub digit_counts : List (ℕ × ℕ)
digit_counts = (code "x", 2) ∷ (code "u", 4) ∷ (code "U", 8) ∷ []

unfoldable pub following : ℕ → ℕ
following c = entry_for c digit_counts

-- digits whose number is out of range: "a surrogate .. with error 12", and by request 1 "An
-- over-range escape now records error 12"
abbrev pub out_of_range : Meaning
out_of_range = no_character NO_CODE_POINT

-- a byte by its digits
unfoldable pub byte_of : Digits → Meaning
byte_of n = cond (eqb n.error 0) (cond (ltb 0xFF n.value) out_of_range (character n.value true)) (no_character n.error)

-- a code by its digits
unfoldable pub code_point_of : Digits → Meaning
code_point_of n = cond (eqb n.error 0) (cond (is_scalar n.value) (character n.value false) out_of_range) (no_character n.error)

-- one that is not read, for an error
abbrev pub unread_escape : ℕ → Escape
unread_escape error = record { len = 0; meaning = no_character error }

-- one character that gives a code
abbrev pub single_escape : ℕ → Escape
single_escape c = record { len = 1; meaning = character c false }

-- three octal digits
unfoldable pub octal_escape : List Char → Escape
octal_escape r = record { len = (escape_digits 8 3 0 r).len; meaning = byte_of (escape_digits 8 3 0 r) }

-- the escape of hexadecimal digits, by its first character and what follows it
unfoldable pub hex_escape : ℕ → List Char → Escape
hex_escape first r =
    cond (eqb (following first) 0) (unread_escape UNKNOWN_ESCAPE)
    (record {
      len = suc (escape_digits 16 (following first) 0 r).len;
      meaning = cond (eqb first (code "x")) (byte_of (escape_digits 16 (following first) 0 r)) (code_point_of (escape_digits 16 (following first) 0 r));
    })

-- the escape that follows a backslash in a literal with the quote given; the end of the text cuts
-- it
unfoldable pub escape_of : ℕ → List Char → Escape
escape_of quote [] = unread_escape CUT_ESCAPE
escape_of quote (c ∷ r) =
    cond (eqb (letter c.code) 0)
    (cond (eqb c.code quote) (single_escape c.code) (cond (ltb (digit_val c.code) 8) (octal_escape (c ∷ r)) (hex_escape c.code r)))
    (single_escape (letter c.code))
