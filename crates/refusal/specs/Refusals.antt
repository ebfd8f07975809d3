-- The numbers of the refusals, under the names that the documents give them.
use Rattle.std.specs.Prelude.{ℕ}

-- ---- from the input
-- opening: not UTF-8
abbrev pub NOT_UTF8 : ℕ
NOT_UTF8 = 1

-- opening: too long
abbrev pub TOO_LONG : ℕ
TOO_LONG = 2

-- size below n, or base + size too large; a scan: an offset would pass the size
abbrev pub BAD_SIZE : ℕ
BAD_SIZE = 3

-- position outside base to base + size
abbrev pub NO_POSITION : ℕ
NO_POSITION = 4

-- line 0 or above the count
abbrev pub NO_LINE : ℕ
NO_LINE = 5

-- ---- from the state
-- the state, or a part of a token, does not fit what a call is lent, or a slice of numbers is too
-- short
abbrev pub DOES_NOT_FIT : ℕ
DOES_NOT_FIT = 6

-- more line starts than the table holds
abbrev pub TABLE_FULL : ℕ
TABLE_FULL = 7

-- an error and a full list
abbrev pub LIST_FULL : ℕ
LIST_FULL = 8

-- more bytes of text and value to be written than the text area holds
abbrev pub AREA_FULL : ℕ
AREA_FULL = 9

-- ---- from a token
-- the token is neither INT nor FLOAT, or no scan gives that kind such a text
abbrev pub NO_NUMBER : ℕ
NO_NUMBER = 10

-- no m below 2^64 and k up to 18 for the number behind a literal
abbrev pub NO_PAIR : ℕ
NO_PAIR = 11
