-- Numbers, from the characters that are left: how many are read, kind, error, and how the text
-- differs from what was read.
use Rattle.std.specs.Prelude.{ℕ, ◌+◌, Bool, false, cond, not, ◌&&◌, ◌||◌, List, leb, eqb, drop}
use Prim.Native.Char.{code}
use Rattle.utf8.specs.declared.Char.{Char}
use Rattle.utf8.specs.Chars.{peek}
use Rattle.kinds.specs.Kinds.{ILLEGAL, INT, FLOAT, IMAG}
use Rattle.errors.specs.Numbers.{BAD_BINARY, BAD_OCTAL, BAD_HEXADECIMAL, MISPLACED_UNDERSCORE, BAD_EXPONENT}
use Rattle.digits.specs.Digit.{is_decimal}
use Rattle.kinds.specs.Number.{kind_number}
use Rattle.errors.specs.Faults.{error_number}
use Rattle.numbers.specs.declared.Number.{Number}
use Rattle.numbers.specs.declared.Spelling.{Spelling}
use Rattle.numbers.specs.declared.Spelling.TheVariants.{AsRead, LowerPrefix, OctalPrefix, LowerExponent}
use Rattle.numbers.specs.Run.{Run, digit_run, strict_run, is_digit_or_underscore, run_len}

pub record Numeral : Type 0 where
  pub kind : ℕ
  pub len : ℕ
  pub error : ℕ
  pub spelling : Spelling

-- a number of the kind and of len characters, without an error
abbrev pub good : ℕ → ℕ → Spelling → Numeral
good kind len s = record { kind = kind; len = len; error = 0; spelling = s }

-- an error ends the number
abbrev pub illegal : ℕ → ℕ → Spelling → Numeral
illegal error len s = record { kind = ILLEGAL; len = len; error = error; spelling = s }

-- n characters before
abbrev pub after_chars : ℕ → Numeral → Numeral
after_chars n x = record { kind = x.kind; len = n + x.len; error = x.error; spelling = x.spelling }

-- the digits of an exponent
abbrev pub exponent_digits : Spelling → Run → Numeral
exponent_digits s d = cond d.misplaced (illegal MISPLACED_UNDERSCORE d.len s) (cond (eqb d.len 0) (illegal BAD_EXPONENT 0 s) (good FLOAT d.len s))

-- after the e: a sign, if there is one, and digits
unfoldable pub exponent : Spelling → List Char → Numeral
exponent s r =
    cond (eqb (peek r) (code "+") || eqb (peek r) (code "-")) (after_chars 1 (exponent_digits s (strict_run 10 (drop 1 r))))
    (exponent_digits s (strict_run 10 r))

-- after the digits: an exponent, whose e is written lower case, or the number ends here
unfoldable pub finish : ℕ → List Char → Numeral
finish kind r =
    cond (eqb (peek r) (code "e")) (after_chars 1 (exponent AsRead (drop 1 r)))
    (cond (eqb (peek r) (code "E")) (after_chars 1 (exponent LowerExponent (drop 1 r))) (good kind 0 AsRead))

-- after the point
unfoldable pub fraction : List Char → Numeral
fraction r =
    cond (strict_run 10 r).misplaced (illegal MISPLACED_UNDERSCORE (strict_run 10 r).len AsRead)
    (after_chars (strict_run 10 r).len (finish FLOAT (drop (strict_run 10 r).len r)))

-- after the digits of a decimal number: a point and a fraction, an exponent, or nothing
unfoldable pub decimal_rest : List Char → Numeral
decimal_rest r = cond (eqb (peek r) (code ".")) (after_chars 1 (fraction (drop 1 r))) (finish INT r)

-- a decimal number
unfoldable pub decimal : List Char → Numeral
decimal r =
    cond (digit_run 10 false r).misplaced (illegal MISPLACED_UNDERSCORE (digit_run 10 false r).len AsRead)
    (after_chars (digit_run 10 false r).len (decimal_rest (drop (digit_run 10 false r).len r)))

-- the digits of a prefixed number, and the character after them: an error where there is no digit,
-- or a decimal digit follows a binary or octal number
abbrev pub prefixed_digits : ℕ → ℕ → Spelling → Run → ℕ → Numeral
prefixed_digits base error s d next =
    cond d.misplaced (illegal MISPLACED_UNDERSCORE d.len s)
    (cond (eqb d.len 0 || (leb base 8 && is_decimal next)) (illegal error d.len s) (good INT d.len s))

-- after a prefix, which is the 0 alone in a bare octal number
unfoldable pub prefixed : ℕ → ℕ → Spelling → List Char → Numeral
prefixed base error s r = prefixed_digits base error s (digit_run base false r) (peek (drop (digit_run base false r).len r))

-- before one of these, a number with a leading 0 is decimal
abbrev pub makes_decimal : ℕ → Bool
makes_decimal c = eqb c (code ".") || eqb c (code "e") || eqb c (code "E") || eqb c (code "i")

-- of a number that starts with 0 and has no letter of a prefix. Request 3: "After a 0 followed by a
-- digit or underscore, take the longest run of digits and underscores. Before `.`, e, E or i it is
-- decimal .. Otherwise the bare octal rules apply". So in the Go specification `072.40` is 72.40,
-- `0123i` is 123i, and `0_600` is octal.
abbrev pub is_bare_octal : List Char → Bool
is_bare_octal r = is_digit_or_underscore (peek (drop 1 r)) && not (makes_decimal (peek (drop (run_len r) r)))

-- such a number: bare octal, or decimal. "A misplaced underscore ends either as in `1__0`."
unfoldable pub bare_zero : List Char → Numeral
bare_zero r = cond (is_bare_octal r) (after_chars 1 (prefixed 8 BAD_OCTAL OctalPrefix (drop 1 r))) (decimal r)

-- a number that starts with 0, by the character b after it
abbrev pub zero_by : ℕ → List Char → Numeral
zero_by b r =
    cond (eqb b (code "x")) (after_chars 2 (prefixed 16 BAD_HEXADECIMAL AsRead (drop 2 r)))
    (cond (eqb b (code "X")) (after_chars 2 (prefixed 16 BAD_HEXADECIMAL LowerPrefix (drop 2 r)))
    (cond (eqb b (code "o")) (after_chars 2 (prefixed 8 BAD_OCTAL AsRead (drop 2 r)))
    (cond (eqb b (code "O")) (after_chars 2 (prefixed 8 BAD_OCTAL LowerPrefix (drop 2 r)))
    (cond (eqb b (code "b")) (after_chars 2 (prefixed 2 BAD_BINARY AsRead (drop 2 r)))
    (cond (eqb b (code "B")) (after_chars 2 (prefixed 2 BAD_BINARY LowerPrefix (drop 2 r))) (bare_zero r))))))

unfoldable pub leading_zero : List Char → Numeral
leading_zero r = zero_by (peek (drop 1 r)) r

-- a number but for an i that may follow
unfoldable pub without_i : List Char → Numeral
without_i r = cond (eqb (peek r) (code ".")) (after_chars 1 (fraction (drop 1 r))) (cond (eqb (peek r) (code "0")) (leading_zero r) (decimal r))

-- "A following i makes INT or FLOAT an IMAG."
abbrev pub imaginary : Numeral → ℕ → Numeral
imaginary x next =
    cond (eqb x.kind ILLEGAL) x
    (cond (eqb next (code "i")) (record { kind = IMAG; len = x.len + 1; error = 0; spelling = x.spelling }) x)

-- the first two characters of a number: a digit, or "a `.` before a digit"
abbrev pub starts_number : ℕ → ℕ → Bool
starts_number first second = is_decimal first || (eqb first (code ".") && is_decimal second)

unfoldable pub number : List Char → Numeral
number r = imaginary (without_i r) (peek (drop (without_i r).len r))

-- ---- a number that starts at a place: its kind and its error by number, and the place after it
pub record NumberSaid : Type 0 where
  pub kind : ℕ
  pub end : ℕ
  pub error : ℕ
  pub spelling : Spelling

-- as the code gives it
abbrev pub number_said : Number → NumberSaid
number_said n = record { kind = kind_number n.kind; end = n.end; error = error_number n.error; spelling = n.spelling }

-- as the definition has it
abbrev pub number_at : ℕ → Numeral → NumberSaid
number_at at x = record { kind = x.kind; end = at + x.len; error = x.error; spelling = x.spelling }
