-- The quotes of string and character literals, and the kind and the error of a literal by its body.
use Rattle.std.specs.Prelude.{ℕ, cond, ◌&&◌, eqb}
use Prim.Native.Char.{code}
use Rattle.kinds.specs.Kinds.{ILLEGAL, CHAR, STRING}
use Rattle.errors.specs.Numbers.{NOT_ONE_CHARACTER}
use Rattle.quotes.specs.Body.{Body}

abbrev pub double_quote : ℕ
double_quote = code "\""

abbrev pub single_quote : ℕ
single_quote = code "'"

-- a closed string is a STRING, any other is ILLEGAL; its error is its body's
abbrev pub string_kind : Body → ℕ
string_kind b = cond b.closed STRING ILLEGAL

-- a character literal has one character; closed with another number of them it is an error
abbrev pub char_kind : Body → ℕ
char_kind b = cond (b.closed && eqb b.count 1) CHAR ILLEGAL

abbrev pub char_error : Body → ℕ
char_error b = cond b.closed (cond (eqb b.count 1) 0 NOT_ONE_CHARACTER) b.error
