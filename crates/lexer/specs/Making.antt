-- How the text and the value of a lexeme are made of the characters read.
use Rattle.std.specs.Prelude.{ℕ, Bool, cond, ◌&&◌, ◌||◌, List, eqb, length, drop}
use Prim.Native.Char.{code}
use Rattle.basics.specs.Same.{same}
use Rattle.utf8.specs.declared.Char.{Char}
use Rattle.utf8.specs.Chars.{peek, encoded}
use Rattle.kinds.specs.Kinds.{COMMENT, STRING}
use Rattle.digits.specs.Digit.{is_decimal}
use Rattle.numbers.specs.declared.Spelling.{Spelling}
use Rattle.numbers.specs.declared.Spelling.TheVariants.{AsRead as Same, LowerPrefix, OctalPrefix, LowerExponent}
use Rattle.numbers.specs.Spelling.{number_text}
use Rattle.spans.specs.Body.{clean}
use Rattle.lexer.specs.declared.lexed.Text.{Text}
use Rattle.lexer.specs.declared.lexed.Text.TheVariants.{Empty, AsRead, Number, WithoutCr, WithLf}
use Rattle.lexer.specs.declared.lexed.Value.{Value}
use Rattle.lexer.specs.declared.lexed.Value.TheVariants.{Empty as NoValue, Interpreted, Raw}
use Rattle.lexer.specs.Lexeme.{Lexeme}

-- a number starts with a digit, or with a point before one
abbrev pub is_number : List Char → Bool
is_number cs = is_decimal (peek cs) || (eqb (peek cs) (code ".") && is_decimal (peek (drop 1 cs)))

-- a raw string with a backquote
abbrev pub is_raw : List Char → Bool
is_raw cs = eqb (peek cs) (code "`")

-- the spelling of a number: the first of these that makes its text of the bytes read. Of `1E5` a
-- prefix in lower case would make the same, so the exponent comes before it
abbrev pub spelling_of : List ℕ → List ℕ → Spelling
spelling_of text bytes =
    cond (same text (number_text Same bytes)) Same
    (cond (same text (number_text OctalPrefix bytes)) OctalPrefix
    (cond (same text (number_text LowerExponent bytes)) LowerExponent LowerPrefix))

-- a raw string or a comment is without CR; a line comment that no line feed closes gains one
abbrev pub clean_way : List Char → List ℕ → Text
clean_way cs text = cond (same text (clean cs)) WithoutCr WithLf

-- how the text of a lexeme is made of its characters cs
abbrev pub text_way : List Char → Lexeme → Text
text_way cs x =
    cond (eqb (length x.text) 0) Empty
    (cond (is_number cs) (Number (spelling_of x.text (encoded cs)))
    (cond (is_raw cs || eqb x.kind COMMENT) (clean_way cs x.text) AsRead))

-- how its value is
abbrev pub value_way : List Char → Lexeme → Value
value_way cs x = cond (eqb x.kind STRING) (cond (is_raw cs) Raw Interpreted) NoValue
