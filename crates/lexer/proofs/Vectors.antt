-- Worked examples: what the first scan of a text reads, by computation.
use Prim.Native.String.{String}
use mathlib.Core.Path.{◌≡◌, refl}
use mathlib.Core.Bool.{Bool, true, false}
use lib.ListN.{take}
use Rattle.basics.specs.Same.{same}
use Rattle.basics.specs.Spelling.{spelled}
use Rattle.utf8.specs.Chars.{chars_from, chars, first_char, octets, encode}
use Rattle.kinds.specs.Kinds.{ILLEGAL, EOF, COMMENT, IDENT, INT, FLOAT, IMAG, FOR, DEFINE}
use Rattle.kinds.specs.Table.{keywords, operators, kind_named}
use Rattle.errors.specs.Numbers.{BAD_OCTAL, MISPLACED_UNDERSCORE, NO_CODE_POINT, NOT_ONE_CHARACTER, UNKNOWN_TOKEN}
use Rattle.digits.specs.Digit.{digit_val}
use Rattle.words.specs.Word.{is_letter, is_word, word_len}
use Rattle.blanks.specs.Blank.{is_space, is_blank, skip}
use Rattle.operators.specs.Longest.{begins, longest}
use Rattle.numbers.specs.declared.Spelling.TheVariants.{LowerPrefix, OctalPrefix}
use Rattle.numbers.specs.Run.{digit_run, strict_run, run_len}
use Rattle.numbers.specs.Number.{finish, fraction, decimal_rest, decimal, prefixed, bare_zero, leading_zero, without_i, number}
use Rattle.numbers.specs.Spelling.{number_text}
use Rattle.escapes.specs.EscapeDigits.{escape_digits}
use Rattle.escapes.specs.Escape.{letter, byte_of, octal_escape, escape_of}
use Rattle.quotes.specs.Body.{body_from}
use Rattle.spans.specs.Span.{to_stop, to_star_slash}
use Rattle.spans.specs.Body.{clean}
use Rattle.spans.specs.Line.{blank_to_end, ends_line}
use Rattle.lexer.specs.declared.lexed.Text.{Text}
use Rattle.lexer.specs.declared.lexed.Text.TheVariants.{Number, WithoutCr, WithLf}
use Rattle.lexer.specs.declared.lexed.Value.TheVariants.{Raw}
use Rattle.lexer.specs.Lexeme.{Lexeme, shown, bare, inserted_semicolon, raise}
use Rattle.lexer.specs.Words.{word_lexeme, lex_number}
use Rattle.lexer.specs.Quotes.{lex_string, lex_char, lex_raw}
use Rattle.lexer.specs.Comments.{comment, lex_comment}
use Rattle.lexer.specs.Lex.{lex_operator, lex_dot, lex_slash, lex_by, lex_token, lex}
use Rattle.lexer.specs.Making.{text_way, value_way}

-- the first scan of a text, with or without the mark
abbrev first : Bool → String → Lexeme
first mark s = lex mark (chars (spelled s))

empty : first false "" ≡ bare EOF 0 false
unfolding chars_from skip lex_token lex
empty = refl

semicolon : first true "" ≡ inserted_semicolon
unfolding chars_from skip lex_token lex
semicolon = refl

ident : first false " x" ≡ raise 1 (shown IDENT 1 (spelled "x") 0 true)
unfolding chars_from first_char octets encode skip is_blank is_space is_letter is_word word_len same kind_named keywords word_lexeme lex_by lex_token lex
ident = refl

keyword : first false "for" ≡ bare FOR 3 false
unfolding chars_from first_char octets encode skip is_blank is_space is_letter is_word word_len same kind_named keywords word_lexeme lex_by lex_token lex
keyword = refl

define : first true ":=1" ≡ bare DEFINE 2 false
unfolding chars_from first_char octets encode skip is_blank is_space is_letter begins longest operators lex_operator lex_by lex_token lex
define = refl

octal : first false "08" ≡ shown ILLEGAL 1 (spelled "0o") BAD_OCTAL true
unfolding chars_from first_char octets encode skip is_blank is_space is_letter digit_val digit_run strict_run decimal prefixed run_len bare_zero leading_zero without_i number number_text lex_number lex_by lex_token lex
octal = refl

-- a 0 before a digit or an underscore: what follows the run decides
leading-zero
    : (first false "072.40" ≡ shown FLOAT 6 (spelled "072.40") 0 true) × (first false "0123i" ≡ shown IMAG 5 (spelled "0123i") 0 true)
    × (first false "0_600" ≡ shown INT 5 (spelled "0o_600") 0 true) × (first false "0_8" ≡ shown ILLEGAL 2 (spelled "0o_") MISPLACED_UNDERSCORE true)
    × (first false "0__7.5" ≡ shown ILLEGAL 2 (spelled "0_") MISPLACED_UNDERSCORE true)
unfolding chars_from first_char octets encode skip is_blank is_space is_letter digit_val digit_run strict_run finish fraction decimal_rest decimal prefixed run_len bare_zero leading_zero without_i number number_text lex_number lex_by lex_token lex
leading-zero = (refl, refl, refl, refl, refl)

hexadecimal : first false "0X1F" ≡ shown INT 4 (spelled "0x1F") 0 true
unfolding chars_from first_char octets encode skip is_blank is_space is_letter digit_val digit_run strict_run decimal prefixed run_len bare_zero leading_zero without_i number number_text lex_number lex_by lex_token lex
hexadecimal = refl

doubled : first false "1__0" ≡ shown ILLEGAL 2 (spelled "1_") MISPLACED_UNDERSCORE true
unfolding chars_from first_char octets encode skip is_blank is_space is_letter digit_val digit_run strict_run decimal without_i number number_text lex_number lex_by lex_token lex
doubled = refl

two_dots : first true "..x" ≡ shown ILLEGAL 2 (spelled "..") UNKNOWN_TOKEN true
unfolding chars_from first_char octets encode skip is_blank is_space is_letter lex_dot lex_by lex_token lex
two_dots = refl

no_character : first false "''" ≡ shown ILLEGAL 2 (spelled "''") NOT_ONE_CHARACTER true
unfolding chars_from first_char octets encode skip is_blank is_space is_letter body_from lex_char lex_by lex_token lex
no_character = refl

over_range : first false "\"\\400\"" ≡ shown ILLEGAL 5 (spelled "\"\\400") NO_CODE_POINT true
unfolding chars_from first_char octets encode skip is_blank is_space is_letter digit_val escape_digits letter byte_of octal_escape escape_of body_from lex_string lex_by lex_token lex
over_range = refl

-- `/* c */ r` under the mark: the comment does not end the line
inside : first true " /* c */ r" ≡ raise 1 (shown COMMENT 7 (spelled "/* c */") 0 true)
unfolding chars_from first_char octets encode skip is_blank is_space is_letter to_star_slash clean blank_to_end ends_line comment lex_comment lex_slash lex_by lex_token lex
inside = refl

-- a comment at the end does
at_end : first true " /* c */" ≡ raise 1 inserted_semicolon
unfolding chars_from first_char octets encode skip is_blank is_space is_letter blank_to_end ends_line lex_comment lex_slash lex_by lex_token lex
at_end = refl

-- ---- how text and value of the first token are made
abbrev way : String → Text
way s = let r = chars (spelled s) in let x = lex_token false r in text_way (take x.len r) x

octal_way : way "08" ≡ Number OctalPrefix
unfolding same chars_from first_char octets encode is_letter digit_val digit_run strict_run decimal prefixed run_len bare_zero leading_zero without_i number number_text lex_number lex_by lex_token
octal_way = refl

prefix_way : way "0X1F" ≡ Number LowerPrefix
unfolding same chars_from first_char octets encode is_letter digit_val digit_run strict_run decimal prefixed run_len bare_zero leading_zero without_i number number_text lex_number lex_by lex_token
prefix_way = refl

line_way : way "// c" ≡ WithLf
unfolding same chars_from first_char octets encode is_letter to_stop clean comment lex_comment lex_slash lex_by lex_token
line_way = refl

-- a raw string
raw_way : let r = chars (spelled "`c`") in let x = lex_token false r in (text_way (take x.len r) x ≡ WithoutCr) × (value_way (take x.len r) x ≡ Raw)
unfolding same chars_from first_char octets encode is_letter to_stop clean lex_raw lex_by lex_token
raw_way = (refl, refl)
