-- The characters of a text: what is at a place, all of them, whether each is well formed, and the
-- bytes of a code.
use Rattle.std.specs.Prelude.{ℕ, zero, suc, pred, ◌+◌, ◌*◌, ◌/◌, ◌%◌, Bool, true, cond, not, ◌&&◌, ◌||◌, List, [], ◌∷◌, ◌++◌, ltb, eqb, length, get_or, drop}
use Rattle.basics.specs.Between.{between}
use Rattle.utf8.specs.declared.Char.{Char}
use Rattle.utf8.specs.Table.{rows, matched}

-- a byte that starts no well-formed character is read as U+FFFD
abbrev pub stray : Char
stray = record { code = 0xFFFD; width = 1 }

-- what is read past the end
abbrev pub ended : Char
ended = record { code = 0; width = 0 }

-- the code that the first n of four bytes stand for: the low bits of each, in order
abbrev pub code_of : ℕ → ℕ → ℕ → ℕ → ℕ → ℕ
code_of n a b c d =
    cond (eqb n 1) a
    (cond (eqb n 2) (a % 32 * 64 + b % 64)
    (cond (eqb n 3) (a % 16 * 4096 + b % 64 * 64 + c % 64)
    (a % 8 * 262144 + b % 64 * 4096 + c % 64 * 64 + d % 64)))

-- the character that the first n of four bytes stand for; of none, a stray byte
abbrev pub char_of : ℕ → ℕ → ℕ → ℕ → ℕ → Char
char_of n a b c d = cond (eqb n 0) stray (record { code = code_of n a b c d; width = n })

-- the character at the head of a text: what the row of the table that it begins with says
unfoldable pub first_char : List ℕ → Char
first_char s = char_of (matched rows s) (get_or s 0 0) (get_or s 1 0) (get_or s 2 0) (get_or s 3 0)

-- the character at a place
unfoldable pub char_at : List ℕ → ℕ → Char
char_at s at = cond (ltb at (length s)) (first_char (drop at s)) ended

-- the characters of a text, after k bytes that belong to the character before
unfoldable pub chars_from : ℕ → List ℕ → List Char
chars_from k [] = []
chars_from zero (b ∷ s) = first_char (b ∷ s) ∷ chars_from (pred (first_char (b ∷ s)).width) s
chars_from (suc k) (b ∷ s) = chars_from k s

abbrev pub chars : List ℕ → List Char
chars s = chars_from 0 s

-- the code of the next character, 0 at the end
abbrev pub peek : List Char → ℕ
peek [] = 0
peek (c ∷ cs) = c.code

-- how many bytes characters take
abbrev pub widths : List Char → ℕ
widths [] = 0
widths (c ∷ cs) = c.width + widths cs

-- is a character a stray byte? U+FFFD itself is written in three bytes
abbrev pub is_stray : Char → Bool
is_stray c = eqb c.width 1 && eqb c.code 0xFFFD

abbrev pub no_stray : List Char → Bool
no_stray [] = true
no_stray (c ∷ cs) = not (is_stray c) && no_stray cs

abbrev pub well_formed : List ℕ → Bool
well_formed s = no_stray (chars s)

-- how many bytes the characters before the first stray byte take
abbrev pub bytes_before : List Char → ℕ
bytes_before [] = 0
bytes_before (c ∷ cs) = cond (is_stray c) 0 (c.width + bytes_before cs)

-- the bytes of a character by its code (RFC 3629, section 3)
unfoldable pub octets : ℕ → List ℕ
octets n =
    cond (ltb n 0x80) (n ∷ [])
    (cond (ltb n 0x800) ((0xC0 + n / 64) ∷ (0x80 + n % 64) ∷ [])
    (cond (ltb n 0x10000) ((0xE0 + n / 4096) ∷ (0x80 + n / 64 % 64) ∷ (0x80 + n % 64) ∷ [])
    ((0xF0 + n / 262144) ∷ (0x80 + n / 4096 % 64) ∷ (0x80 + n / 64 % 64) ∷ (0x80 + n % 64) ∷ [])))

-- a Unicode scalar value: no surrogate, and none above 10FFFF
abbrev pub is_scalar : ℕ → Bool
is_scalar n = ltb n 0xD800 || between 0xE000 n 0x10FFFF

-- the bytes that a code is written in; a number that is no Unicode scalar value has none
unfoldable pub encode : ℕ → List ℕ
encode n = cond (is_scalar n) (octets n) []

abbrev pub encoded : List Char → List ℕ
encoded [] = []
encoded (c ∷ cs) = encode c.code ++ encoded cs
