-- What a scan reads at a place: an INT or a FLOAT has a text that is read again, and where a number
-- starts the scan reads it.
use Prim.Native.Nat.{ℕ, ◌+◌}
use Prim.Native.Char.{code}
use mathlib.Core.Path.{◌≡◌, refl, subst}
use mathlib.Core.Bool.{Bool, true, false}
use mathlib.Core.List.{List, [], ◌∷◌}
use mathlib.Core.Logic.{⊎_elim}
use native.Mathlib.Omega.{arith}
use lib.ListN.{drop}
use borrow.Author.Tests.{eqb-true, ne_eqb}
use Rattle.basics.proofs.Choice.{either, and_split, between_true}
use Rattle.utf8.specs.declared.Char.{Char}
use Rattle.utf8.specs.Chars.{chars, peek}
use Rattle.digits.specs.Digit.{is_decimal}
use Rattle.blanks.specs.Blank.{is_space, is_blank, nothing, skip}
use Rattle.blanks.proofs.Lengths.{skip_place}
use Rattle.lexer.specs.Lexeme.{Lexeme, raise}
use Rattle.lexer.specs.Words.{lex_number}
use Rattle.lexer.specs.Lex.{lex_token, lex}
use Rattle.lexer.specs.Making.{is_number}
use Rattle.lexer.proofs.Numerals.{number_facts}
use Rattle.quantity_scans.proofs.Zeros.{Real}
use Rattle.quantity_scans.proofs.Texts.{ReadAgain, text_read}
use Rattle.quantity_scans.proofs.OnlyNumbers.{number_starts, number_read}

token_again : (mark : Bool) (s : List ℕ) (at : ℕ) → let x = lex_token mark (chars (drop at s)) in Real x.kind → ReadAgain x.kind x.len x.text
unfolding lex_number
token_again mark s at k =
    let r = chars (drop at s) in
    let st = number_starts mark r k in
    let e = number_read mark r st in
    rw (e, (number_facts s at).shown) (text_read s at st (subst (λ (x : Lexeme). Real x.kind) e k))

-- behind the blanks
pub lexed_again : (mark : Bool) (s : List ℕ) (at : ℕ) → let x = lex mark (chars (drop at s)) in Real x.kind → ReadAgain x.kind x.len x.text
unfolding lex
lexed_again mark s at k =
    rw (skip_place mark s at) (token_again mark s (at + (skip mark (chars (drop at s))).len) (rw (skip_place mark s at) at k))

-- ---- a number is no blank
digit_no_blank : (mark : Bool) (c : ℕ) → is_decimal c ≡ true → is_blank mark c ≡ false
unfolding is_blank is_space
digit_no_blank mark c d =
    let q = between_true (code "0") c (code "9") d in
    rw (
      ne_eqb c (code " ") (λ e. omega (arith, q, e)),
      ne_eqb c (code "\t") (λ e. omega (arith, q, e)),
      ne_eqb c (code "\r") (λ e. omega (arith, q, e)),
      ne_eqb c (code "\n") (λ e. omega (arith, q, e)),
    )

number_no_blank : (mark : Bool) (r : List Char) → is_number r ≡ true → skip mark r ≡ nothing
unfolding skip is_blank is_space
number_no_blank mark [] t = refl
number_no_blank mark (c ∷ r) t =
    ⊎_elim (λ (d : is_decimal c.code ≡ true). rw (digit_no_blank mark c.code d))
    (λ (d : is_decimal c.code ≡ false). rw (eqb-true c.code (code ".") (and_split _ (is_decimal (peek r)) (rw d at t)).0)) (either (is_decimal c.code))

pub lexed_number : (mark : Bool) (r : List Char) → is_number r ≡ true → lex mark r ≡ raise 0 (lex_number r)
unfolding lex
lexed_number mark r t = rw (number_no_blank mark r t, number_read mark r t)
