-- The texts that a scan gives an INT or a FLOAT.
use Rattle.std.specs.Prelude.{ℕ, ◌+◌, Bool, cond, ◌&&◌, ◌||◌, List, leb, eqb, length, get_or}
use Prim.Native.Char.{code}
use Rattle.utf8.specs.Chars.{chars}
use Rattle.kinds.specs.Kinds.{INT, FLOAT}
use Rattle.position.specs.Place.{max_position}
use Rattle.numbers.specs.Number.{Numeral, starts_number, number}
use Rattle.numbers.specs.Spelling.{is_as_read}

-- the kinds of real numbers; an IMAG is none
abbrev pub is_real : ℕ → Bool
is_real kind = eqb kind INT || eqb kind FLOAT

-- the number at the start of a text of n bytes is of that kind, is the whole text, and is written as
-- it was read
abbrev pub is_all : ℕ → ℕ → Numeral → Bool
is_all kind n x = eqb x.kind kind && (eqb x.len n && is_as_read x.spelling)

-- a text that starts with 0o
abbrev pub starts_octal : List ℕ → Bool
starts_octal t = eqb (get_or t 0 0) (code "0") && eqb (get_or t 1 0) (code "o")

-- a scan reads no character past the size, and the size is at most the largest position. Only an
-- octal text can have a byte more than was read: the o that it gained
abbrev pub most_bytes : List ℕ → ℕ
most_bytes t = max_position + cond (starts_octal t) 1 0

-- false where "the token is neither INT nor FLOAT, or no scan gives that kind such a text". The scan
-- may be one of bytes that were never opened. `GivenByScan` in quantity_scans says that this is so
unfoldable pub is_given : ℕ → List ℕ → Bool
is_given kind t =
    is_real kind
    && (starts_number (get_or t 0 0) (get_or t 1 0)
    && (is_all kind (length t) (number (chars t)) && leb (length t) (most_bytes t)))
