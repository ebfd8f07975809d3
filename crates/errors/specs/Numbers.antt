-- The numbers of the errors, under the names that the documents give them. 0 means no error.
use Rattle.std.specs.Prelude.{ℕ}

-- binary number
abbrev pub BAD_BINARY : ℕ
BAD_BINARY = 1

-- octal number
abbrev pub BAD_OCTAL : ℕ
BAD_OCTAL = 2

-- hexadecimal number
abbrev pub BAD_HEXADECIMAL : ℕ
BAD_HEXADECIMAL = 3

-- `_` misplaced
abbrev pub MISPLACED_UNDERSCORE : ℕ
MISPLACED_UNDERSCORE = 4

-- exponent
abbrev pub BAD_EXPONENT : ℕ
BAD_EXPONENT = 5

-- raw string not closed
abbrev pub OPEN_RAW_STRING : ℕ
OPEN_RAW_STRING = 6

-- comment not closed
abbrev pub OPEN_COMMENT : ℕ
OPEN_COMMENT = 7

-- string or character not closed
abbrev pub OPEN_QUOTE : ℕ
OPEN_QUOTE = 8

-- unknown escape
abbrev pub UNKNOWN_ESCAPE : ℕ
UNKNOWN_ESCAPE = 9

-- escape cut by the end
abbrev pub CUT_ESCAPE : ℕ
CUT_ESCAPE = 10

-- bad character in escape
abbrev pub BAD_ESCAPE : ℕ
BAD_ESCAPE = 11

-- escape of no byte, or of no Unicode code point
abbrev pub NO_CODE_POINT : ℕ
NO_CODE_POINT = 12

-- character literal not of one character
abbrev pub NOT_ONE_CHARACTER : ℕ
NOT_ONE_CHARACTER = 13

-- no token: a character that starts none, or `..`
abbrev pub UNKNOWN_TOKEN : ℕ
UNKNOWN_TOKEN = 14
