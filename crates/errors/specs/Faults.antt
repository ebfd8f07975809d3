-- The number of the error of each fault.
use Rattle.std.specs.Prelude.{ℕ, Option, Some, None}
use Rattle.errors.specs.declared.fault.Fault.{Fault}
use Rattle.errors.specs.declared.fault.Fault.TheVariants.{BadBinary, BadOctal, BadHexadecimal, MisplacedUnderscore, BadExponent, OpenRawString, OpenComment, OpenQuote, UnknownEscape, CutEscape, BadEscape, NoCodePoint, NotOneCharacter, UnknownToken}
use Rattle.errors.specs.Numbers.{BAD_BINARY, BAD_OCTAL, BAD_HEXADECIMAL, MISPLACED_UNDERSCORE, BAD_EXPONENT, OPEN_RAW_STRING, OPEN_COMMENT, OPEN_QUOTE, UNKNOWN_ESCAPE, CUT_ESCAPE, BAD_ESCAPE, NO_CODE_POINT, NOT_ONE_CHARACTER, UNKNOWN_TOKEN}

abbrev pub fault_number : Fault → ℕ
fault_number BadBinary = BAD_BINARY
fault_number BadOctal = BAD_OCTAL
fault_number BadHexadecimal = BAD_HEXADECIMAL
fault_number MisplacedUnderscore = MISPLACED_UNDERSCORE
fault_number BadExponent = BAD_EXPONENT
fault_number OpenRawString = OPEN_RAW_STRING
fault_number OpenComment = OPEN_COMMENT
fault_number OpenQuote = OPEN_QUOTE
fault_number UnknownEscape = UNKNOWN_ESCAPE
fault_number CutEscape = CUT_ESCAPE
fault_number BadEscape = BAD_ESCAPE
fault_number NoCodePoint = NO_CODE_POINT
fault_number NotOneCharacter = NOT_ONE_CHARACTER
fault_number UnknownToken = UNKNOWN_TOKEN

-- 0 where there is no fault
abbrev pub error_number : Option Fault → ℕ
error_number None = 0
error_number (Some fault) = fault_number fault
