-- `lex` has the law of specs/ErrorLaw.antt: each rule has it.
use Prim.Native.Nat.{ℕ}
use Prim.Native.Char.{code}
use mathlib.Core.Path.{◌≡◌, refl}
use mathlib.Core.Bool.{Bool, true, false, cond, not, ◌&&◌, ◌||◌}
use mathlib.Core.List.{List, [], ◌∷◌}
use mathlib.Core.Logic.{◌≢◌, inl, inr}
use native.Mathlib.Omega.{arith}
use lib.Dec.{eqb}
use lib.ListN.{drop}
use borrow.Author.Tests.{eqb-false}
use Rattle.basics.proofs.Choice.{cond_ind}
use Rattle.utf8.specs.declared.Char.{Char}
use Rattle.utf8.specs.Chars.{peek}
use Rattle.kinds.specs.Kinds.{ILLEGAL, EOF, COMMENT, IDENT, CHAR, STRING, SEMICOLON}
use Rattle.kinds.specs.Table.{ident_token}
use Rattle.errors.specs.Numbers.{OPEN_RAW_STRING, OPEN_COMMENT, NOT_ONE_CHARACTER}
use Rattle.digits.specs.Digit.{is_decimal}
use Rattle.words.specs.Word.{is_letter}
use Rattle.blanks.specs.Blank.{skip}
use Rattle.numbers.proofs.Tested.{number_illegal, number_error}
use Rattle.quotes.specs.Body.{body}
use Rattle.quotes.proofs.Bodies.{closed_sound, open_error}
use Rattle.spans.specs.Span.{to_stop, to_star_slash}
use Rattle.operators.specs.Longest.{operator_of}
use Rattle.lexer.specs.Lexeme.{Lexeme}
use Rattle.lexer.specs.ErrorLaw.{LeftOpen, ErrorLaw, LexErrors}
use Rattle.lexer.specs.Words.{word_lexeme, lex_word, lex_number}
use Rattle.lexer.specs.Quotes.{lex_string, lex_char, lex_raw}
use Rattle.lexer.specs.Comments.{comment_ends_line, comment, lex_comment}
use Rattle.lexer.specs.Lex.{lex_illegal, lex_operator, lex_dot, lex_slash, lex_by, lex_token, lex}
use Rattle.lexer.proofs.Known.{word_legal}

abbrev Lawful : Lexeme → Type 0
Lawful x = ErrorLaw x.kind x.error

-- ---- a token with and without an error, and one that may be left open
legal : (kind : ℕ) → kind ≢ ILLEGAL → ErrorLaw kind 0
legal kind k = record { illegal_has_error = λ e. absurd (k e); error_has_cause = λ n. absurd (n refl) }

illegal : (error : ℕ) → error ≢ 0 → ErrorLaw ILLEGAL error
illegal error n = record { illegal_has_error = λ _. n; error_has_cause = λ _. inl refl }

open_or : (closed : Bool) (kind error : ℕ) → kind ≢ ILLEGAL → LeftOpen kind error → ErrorLaw kind (cond closed 0 error)
open_or true kind error k o = legal kind k
open_or false kind error k o = record { illegal_has_error = λ e. absurd (k e); error_has_cause = λ _. inr o }

-- ---- words, numbers and literals
law_word : (r : List Char) → Lawful (lex_word r)
unfolding word_lexeme
law_word r =
    cond_ind Lawful (eqb (ident_token _) IDENT) _ _ (λ _. legal IDENT (λ e. omega arith)) (λ _. legal (ident_token _) (word_legal _))

law_number : (r : List Char) → Lawful (lex_number r)
unfolding lex_number
law_number r = record { illegal_has_error = number_illegal r; error_has_cause = λ e. inl (number_error r e) }

law_string : (r : List Char) → Lawful (lex_string r)
unfolding lex_string
law_string r = let q = drop 1 r in go (body (code "\"") q).closed (body (code "\"") q).error (closed_sound (code "\"") q) (open_error (code "\"") q)
  where
    go : (closed : Bool) (error : ℕ) → (closed ≡ true → error ≡ 0) → (closed ≡ false → error ≢ 0) → ErrorLaw (cond closed STRING ILLEGAL) error
    go true error f g = rw (f refl) (legal STRING (λ e. omega arith))
    go false error f g = illegal error (g refl)

law_char : (r : List Char) → Lawful (lex_char r)
unfolding lex_char
law_char r = let b = body (code "'") (drop 1 r) in go b.closed (eqb b.count 1) b.error (open_error (code "'") (drop 1 r))
  where
    go : (closed one : Bool) (error : ℕ) → (closed ≡ false → error ≢ 0)
        → ErrorLaw (cond (closed && one) CHAR ILLEGAL) (cond closed (cond one 0 NOT_ONE_CHARACTER) error)
    go true true error g = legal CHAR (λ e. omega arith)
    go true false error g = illegal NOT_ONE_CHARACTER (λ e. omega arith)
    go false one error g = illegal error (g refl)

law_raw : (r : List Char) → Lawful (lex_raw r)
unfolding lex_raw
law_raw r = open_or (to_stop (code "`") (drop 1 r)).closed STRING OPEN_RAW_STRING (λ e. omega arith) (inl (refl, refl))

-- ---- semicolons, comments, operators and what is no token
law_semicolon : ErrorLaw SEMICOLON 0
law_semicolon = legal SEMICOLON (λ e. omega arith)

law_comment : (mark : Bool) (r : List Char) → Lawful (lex_comment mark r)
unfolding lex_comment comment
law_comment mark r =
    cond_ind Lawful (mark && comment_ends_line r) _ _ (λ _. law_semicolon)
    (λ _. cond_ind Lawful (eqb (peek (drop 1 r)) (code "/")) _ _ (λ _. legal COMMENT (λ e. omega arith))
    (λ _. open_or (to_star_slash false (drop 2 r)).closed COMMENT OPEN_COMMENT (λ e. omega arith) (inr (refl, refl))))

law_illegal : (mark : Bool) (n : ℕ) (r : List Char) → Lawful (lex_illegal mark n r)
law_illegal mark n r = illegal _ (λ e. omega arith)

law_operator : (mark : Bool) (r : List Char) → Lawful (lex_operator mark r)
unfolding lex_operator
law_operator mark r =
    let o = operator_of r in
    cond_ind Lawful (eqb o.kind ILLEGAL) _ _ (λ _. law_illegal mark 1 r) (λ e. legal o.kind (eqb-false o.kind ILLEGAL e))

law_dot : (mark : Bool) (r : List Char) → Lawful (lex_dot mark r)
unfolding lex_dot
law_dot mark r =
    cond_ind Lawful (is_decimal (peek (drop 1 r))) _ _ (λ _. law_number r)
    (λ _. cond_ind Lawful (eqb (peek (drop 1 r)) (code ".") && not (eqb (peek (drop 2 r)) (code "."))) _ _ (λ _. law_illegal mark 2 r) (λ _. law_operator mark r))

law_slash : (mark : Bool) (r : List Char) → Lawful (lex_slash mark r)
unfolding lex_slash
law_slash mark r =
    cond_ind Lawful (eqb (peek (drop 1 r)) (code "/") || eqb (peek (drop 1 r)) (code "*")) _ _ (λ _. law_comment mark r) (λ _. law_operator mark r)

-- ---- one scan
law_by : (mark : Bool) (c : ℕ) (r : List Char) → Lawful (lex_by mark c r)
unfolding lex_by
law_by mark c r =
    cond_ind Lawful (is_letter c) _ _ (λ _. law_word r)
    (λ _. cond_ind Lawful (is_decimal c) _ _ (λ _. law_number r)
    (λ _. cond_ind Lawful (eqb c (code "\n")) _ _ (λ _. law_semicolon)
    (λ _. cond_ind Lawful (eqb c (code "\"")) _ _ (λ _. law_string r)
    (λ _. cond_ind Lawful (eqb c (code "'")) _ _ (λ _. law_char r)
    (λ _. cond_ind Lawful (eqb c (code "`")) _ _ (λ _. law_raw r)
    (λ _. cond_ind Lawful (eqb c (code ".")) _ _ (λ _. law_dot mark r)
    (λ _. cond_ind Lawful (eqb c (code "/")) _ _ (λ _. law_slash mark r) (λ _. law_operator mark r))))))))

law_token : (mark : Bool) (r : List Char) → Lawful (lex_token mark r)
unfolding lex_token
law_token mark [] = cond_ind Lawful mark _ _ (λ _. law_semicolon) (λ _. legal EOF (λ e. omega arith))
law_token mark (c ∷ r) = law_by mark c.code (c ∷ r)

pub lex_errors : LexErrors
unfolding lex
lex_errors mark r = law_token mark (drop (skip mark r).len r)
