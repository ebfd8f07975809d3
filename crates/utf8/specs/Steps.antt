-- Steps of the code. No public contract cites this file.
-- What is tested byte by byte; proofs/Rows.antt shows that it finds the row of the table.
use Rattle.std.specs.Prelude.{ℕ, Bool, cond, ltb, eqb}
use Rattle.basics.specs.Between.{between}
use Rattle.utf8.specs.declared.Char.{Char}
use Rattle.utf8.specs.Chars.{char_of}

-- UTF8-tail: 80-BF
abbrev pub is_tail : ℕ → Bool
is_tail b = between 0x80 b 0xBF

-- the least and the greatest second byte after a first byte
unfoldable pub low : ℕ → ℕ
low a = cond (eqb a 0xE0) 0xA0 (cond (eqb a 0xF0) 0x90 0x80)

unfoldable pub high : ℕ → ℕ
high a = cond (eqb a 0xED) 0x9F (cond (eqb a 0xF4) 0x8F 0xBF)

-- may b come after the first byte a
abbrev pub second : ℕ → ℕ → Bool
second a b = between (low a) b (high a)

-- the length of the well-formed sequence that four bytes begin with; 0 where they begin with none
unfoldable pub sequence : ℕ → ℕ → ℕ → ℕ → ℕ
sequence a b c d =
    cond (ltb a 0x80) 1
    (cond (between 0xC2 a 0xDF) (cond (is_tail b) 2 0)
    (cond (between 0xE0 a 0xEF) (cond (second a b) (cond (is_tail c) 3 0) 0)
    (cond (between 0xF0 a 0xF4) (cond (second a b) (cond (is_tail c) (cond (is_tail d) 4 0) 0) 0) 0)))

-- the character that a text's first four bytes begin with; a byte past the end counts as 0, which
-- continues nothing
unfoldable pub decoded : ℕ → ℕ → ℕ → ℕ → Char
decoded a b c d = char_of (sequence a b c d) a b c d
