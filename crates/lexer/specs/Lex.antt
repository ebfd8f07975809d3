-- One scan: blanks, then one rule by the first character. The mark is what 01 calls "now".
use Rattle.std.specs.Prelude.{ℕ, Bool, false, cond, ◌&&◌, ◌||◌, not, List, [], ◌∷◌, eqb, take, drop}
use Prim.Native.Char.{code}
use Rattle.utf8.specs.declared.Char.{Char}
use Rattle.utf8.specs.Chars.{peek, encoded}
use Rattle.kinds.specs.Kinds.{ILLEGAL, EOF}
use Rattle.kinds.specs.Table.{sets_mark}
use Rattle.errors.specs.Numbers.{UNKNOWN_TOKEN}
use Rattle.digits.specs.Digit.{is_decimal}
use Rattle.words.specs.Word.{is_letter}
use Rattle.blanks.specs.Blank.{skip}
use Rattle.operators.specs.Longest.{operator_of}
use Rattle.lexer.specs.Lexeme.{Lexeme, shown, bare, inserted_semicolon, raise}
use Rattle.lexer.specs.Words.{lex_word, lex_number}
use Rattle.lexer.specs.Quotes.{lex_string, lex_char, lex_raw}
use Rattle.lexer.specs.Comments.{lex_comment}

-- n characters that are no token: "`..` without a third dot, or any other single character: ILLEGAL,
-- mark kept." Where 01 goes on "No error is recorded", request 1 has "records a new error 14"
abbrev pub lex_illegal : Bool → ℕ → List Char → Lexeme
lex_illegal mark n r = shown ILLEGAL n (encoded (take n r)) UNKNOWN_TOKEN mark

-- "Operators otherwise: the longest one"; where there is none, the character starts no token
unfoldable pub lex_operator : Bool → List Char → Lexeme
lex_operator mark r =
    cond (eqb (operator_of r).kind ILLEGAL) (lex_illegal mark 1 r) (bare (operator_of r).kind (operator_of r).len (sets_mark (operator_of r).kind))

-- "A `.` before a digit starts a number."
unfoldable pub lex_dot : Bool → List Char → Lexeme
lex_dot mark r =
    cond (is_decimal (peek (drop 1 r))) (lex_number r)
    (cond (eqb (peek (drop 1 r)) (code ".") && not (eqb (peek (drop 2 r)) (code "."))) (lex_illegal mark 2 r) (lex_operator mark r))

-- "`//` or `/*`" is a comment
unfoldable pub lex_slash : Bool → List Char → Lexeme
lex_slash mark r = cond (eqb (peek (drop 1 r)) (code "/") || eqb (peek (drop 1 r)) (code "*")) (lex_comment mark r) (lex_operator mark r)

-- a token that is no word, number or literal, by its first character, c
abbrev pub lex_other : Bool → ℕ → List Char → Lexeme
lex_other mark c r = cond (eqb c (code ".")) (lex_dot mark r) (cond (eqb c (code "/")) (lex_slash mark r) (lex_operator mark r))

-- by the first character, c
unfoldable pub lex_by : Bool → ℕ → List Char → Lexeme
lex_by mark c r =
    cond (is_letter c) (lex_word r)
    (cond (is_decimal c) (lex_number r)
    (cond (eqb c (code "\n")) inserted_semicolon
    (cond (eqb c (code "\"")) (lex_string r)
    (cond (eqb c (code "'")) (lex_char r)
    (cond (eqb c (code "`")) (lex_raw r) (lex_other mark c r))))))

-- after the blanks; "LF, or the end, with "now" set: an inserted SEMICOLON .. At the end without
-- it: EOF."
unfoldable pub lex_token : Bool → List Char → Lexeme
lex_token mark [] = cond mark inserted_semicolon (bare EOF 0 false)
lex_token mark (c ∷ r) = lex_by mark c.code (c ∷ r)

-- one scan
unfoldable pub lex : Bool → List Char → Lexeme
lex mark r = raise (skip mark r).len (lex_token mark (drop (skip mark r).len r))
