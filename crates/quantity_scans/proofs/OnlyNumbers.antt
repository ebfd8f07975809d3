-- Only a number is an INT or a FLOAT.
use Prim.Native.Nat.{ℕ}
use Prim.Native.Char.{code}
use mathlib.Core.Path.{◌≡◌, refl}
use mathlib.Core.Bool.{Bool, true, false, not, ◌&&◌, ◌||◌, false≢true}
use mathlib.Core.List.{List, [], ◌∷◌}
use mathlib.Core.Logic.{inl, inr}
use native.Mathlib.Omega.{arith}
use lib.Dec.{T, eqb}
use lib.ListN.{drop}
use borrow.Author.Tests.{eqb-true, ne_eqb}
use Rattle.basics.specs.Same.{same}
use Rattle.basics.proofs.Choice.{cond_ind, and_split, between_true, below_it}
use Rattle.basics.proofs.Every.{each_ind}
use Rattle.utf8.specs.declared.Char.{Char}
use Rattle.utf8.specs.Chars.{peek}
use Rattle.kinds.specs.Kinds.{ILLEGAL, EOF, COMMENT, IDENT, CHAR, STRING, SEMICOLON}
use Rattle.kinds.specs.Table.{keywords, operators, kind_named, ident_token}
use Rattle.digits.specs.Digit.{is_decimal}
use Rattle.words.specs.Word.{is_letter}
use Rattle.operators.specs.Longest.{operator_of}
use Rattle.operators.proofs.Bounds.{longest_ind}
use Rattle.quotes.specs.Body.{body}
use Rattle.lexer.specs.Lexeme.{Lexeme, inserted_semicolon}
use Rattle.lexer.specs.Words.{word_lexeme, lex_word, lex_number}
use Rattle.lexer.specs.Quotes.{lex_string, lex_char, lex_raw}
use Rattle.lexer.specs.Comments.{comment_ends_line, comment, lex_comment}
use Rattle.lexer.specs.Lex.{lex_illegal, lex_operator, lex_dot, lex_slash, lex_by, lex_token}
use Rattle.lexer.specs.Making.{is_number}
use Rattle.quantity_query.specs.Given.{is_real}
use Rattle.quantity_scans.proofs.Zeros.{Real}

-- ---- kinds that are neither
abbrev Other : ℕ → Type 0
Other kind = Real kind → ⊥

other : (kind : ℕ) → T (not (is_real kind)) → Other kind
other kind t (inl e) = rw e at t
other kind t (inr e) = rw e at t

word_other : (word : List ℕ) → Other (ident_token word)
unfolding keywords kind_named
word_other word =
    each_ind (λ row. not (is_real row.kind)) (λ rows. Other (kind_named word rows)) (other IDENT tt)
    (λ row rows t rest. cond_ind Other (same word row.name) _ _ (λ _. other row.kind t) (λ _. rest)) keywords tt

operator_other : (r : List Char) → Other (operator_of r).kind
unfolding operators
operator_other r = longest_ind (λ x. Other x.kind) (λ row. not (is_real row.kind)) r (other ILLEGAL tt) (λ row t _. other row.kind t) operators tt

-- ---- each rule but a number's
abbrev OtherLexeme : Lexeme → Type 0
OtherLexeme x = Other x.kind

lex_word_other : (r : List Char) → OtherLexeme (lex_word r)
unfolding word_lexeme
lex_word_other r = cond_ind OtherLexeme (eqb (ident_token _) IDENT) _ _ (λ _. other IDENT tt) (λ _. word_other _)

lex_operator_other : (mark : Bool) (r : List Char) → OtherLexeme (lex_operator mark r)
unfolding lex_operator
lex_operator_other mark r = cond_ind OtherLexeme (eqb (operator_of r).kind ILLEGAL) _ _ (λ _. other ILLEGAL tt) (λ _. operator_other r)

lex_string_other : (r : List Char) → OtherLexeme (lex_string r)
unfolding lex_string
lex_string_other r = cond_ind Other (body (code "\"") (drop 1 r)).closed STRING ILLEGAL (λ _. other STRING tt) (λ _. other ILLEGAL tt)

lex_char_other : (r : List Char) → OtherLexeme (lex_char r)
unfolding lex_char
lex_char_other r =
    let b = body (code "'") (drop 1 r) in cond_ind Other (b.closed && eqb b.count 1) CHAR ILLEGAL (λ _. other CHAR tt) (λ _. other ILLEGAL tt)

lex_raw_other : (r : List Char) → OtherLexeme (lex_raw r)
unfolding lex_raw
lex_raw_other r = other STRING tt

lex_slash_other : (mark : Bool) (r : List Char) → OtherLexeme (lex_slash mark r)
unfolding lex_slash lex_comment comment
lex_slash_other mark r =
    cond_ind OtherLexeme (eqb (peek (drop 1 r)) (code "/") || eqb (peek (drop 1 r)) (code "*")) _ _
    (λ _. cond_ind OtherLexeme (mark && comment_ends_line r) inserted_semicolon _ (λ _. other SEMICOLON tt)
    (λ _. cond_ind OtherLexeme (eqb (peek (drop 1 r)) (code "/")) _ _ (λ _. other COMMENT tt) (λ _. other COMMENT tt)))
    (λ _. lex_operator_other mark r)

-- ---- one rule or another
-- where the kind of x is one of the two, a number starts
abbrev NumberOr : List Char → Lexeme → Type 0
NumberOr r x = Real x.kind → is_number r ≡ true

never : (r : List Char) (x : Lexeme) → OtherLexeme x → NumberOr r x
never r x o k = absurd (o k)

module _ (mark : Bool) (r : List Char) where
  dot : eqb (peek r) (code ".") ≡ true → NumberOr r (lex_dot mark r)
  unfolding lex_dot
  dot p =
      cond_ind (NumberOr r) (is_decimal (peek (drop 1 r))) _ _ (λ d k. rw (eqb-true (peek r) (code ".") p, d))
      (λ _. cond_ind (NumberOr r) (eqb (peek (drop 1 r)) (code ".") && not (eqb (peek (drop 2 r)) (code "."))) _ _
      (λ _. never r (lex_illegal mark 2 r) (other ILLEGAL tt)) (λ _. never r (lex_operator mark r) (lex_operator_other mark r)))

  by_first : NumberOr r (lex_by mark (peek r) r)
  unfolding lex_by
  by_first =
      cond_ind (NumberOr r) (is_letter (peek r)) _ _ (λ _. never r (lex_word r) (lex_word_other r))
      (λ _. cond_ind (NumberOr r) (is_decimal (peek r)) _ _ (λ d k. rw d)
      (λ _. cond_ind (NumberOr r) (eqb (peek r) (code "\n")) _ _ (λ _. never r inserted_semicolon (other SEMICOLON tt))
      (λ _. cond_ind (NumberOr r) (eqb (peek r) (code "\"")) _ _ (λ _. never r (lex_string r) (lex_string_other r))
      (λ _. cond_ind (NumberOr r) (eqb (peek r) (code "'")) _ _ (λ _. never r (lex_char r) (lex_char_other r))
      (λ _. cond_ind (NumberOr r) (eqb (peek r) (code "`")) _ _ (λ _. never r (lex_raw r) (lex_raw_other r))
      (λ _. cond_ind (NumberOr r) (eqb (peek r) (code ".")) _ _ dot
      (λ _. cond_ind (NumberOr r) (eqb (peek r) (code "/")) _ _ (λ _. never r (lex_slash mark r) (lex_slash_other mark r))
      (λ _. never r (lex_operator mark r) (lex_operator_other mark r)))))))))

pub number_starts : (mark : Bool) (r : List Char) → Real (lex_token mark r).kind → is_number r ≡ true
unfolding lex_token
number_starts mark [] k = absurd (cond_ind OtherLexeme mark inserted_semicolon _ (λ _. other SEMICOLON tt) (λ _. other EOF tt) k)
number_starts mark (c ∷ r) k = by_first mark (c ∷ r) k

-- ---- where a number starts it is read
no_letter : (c : ℕ) → is_decimal c ≡ true → is_letter c ≡ false
unfolding is_letter
no_letter c d =
    let q = between_true (code "0") c (code "9") d in
    rw (below_it (code "a") c (code "z") (omega (arith, q)), below_it (code "A") c (code "Z") (omega (arith, q)), ne_eqb c (code "_") (λ e. omega (arith, q, e)))

pub number_read : (mark : Bool) (r : List Char) → is_number r ≡ true → lex_token mark r ≡ lex_number r
unfolding lex_token lex_by lex_dot is_letter
number_read mark [] t = absurd (false≢true t)
number_read mark (c ∷ r) t = go (is_decimal c.code) refl
  where
    go : (b : Bool) → is_decimal c.code ≡ b → lex_by mark c.code (c ∷ r) ≡ lex_number (c ∷ r)
    go true d = rw (no_letter c.code d, d)
    go false d =
        let a = and_split (eqb c.code (code ".")) (is_decimal (peek r)) (rw d at t) in
        rw (eqb-true c.code (code ".") a.0, a.1)
