-- Words and numbers.
use Rattle.std.specs.Prelude.{ℕ, true, cond, List, eqb, take}
use Rattle.utf8.specs.declared.Char.{Char}
use Rattle.utf8.specs.Chars.{encoded}
use Rattle.kinds.specs.Kinds.{IDENT}
use Rattle.kinds.specs.Table.{ident_token, sets_mark}
use Rattle.words.specs.Word.{word_len}
use Rattle.numbers.specs.Number.{number}
use Rattle.numbers.specs.Spelling.{number_text}
use Rattle.lexer.specs.Lexeme.{Lexeme, shown, bare}

-- "one of the 25 keywords, else IDENT"
unfoldable pub word_lexeme : ℕ → List ℕ → Lexeme
word_lexeme len word = cond (eqb (ident_token word) IDENT) (shown IDENT len word 0 true) (bare (ident_token word) len (sets_mark (ident_token word)))

abbrev pub lex_word : List Char → Lexeme
lex_word r = word_lexeme (word_len r) (encoded (take (word_len r) r))

unfoldable pub lex_number : List Char → Lexeme
lex_number r =
    shown (number r).kind (number r).len (number_text (number r).spelling (encoded (take (number r).len r))) (number r).error true
