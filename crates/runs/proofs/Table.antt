-- The table holds, by computation.
use Prim.Native.Nat.{ℕ, zero, suc}
use mathlib.Core.Path.{◌≡◌, refl}
use lib.ListN.{replicate}
use Rattle.basics.specs.Same.{same}
use Rattle.utf8.specs.Chars.{chars_from, first_char, octets, encode}
use Rattle.kinds.specs.Table.{keywords, kind_named}
use Rattle.digits.specs.Digit.{digit_val}
use Rattle.words.specs.Word.{is_letter, is_word, word_len}
use Rattle.blanks.specs.Blank.{is_space, is_blank, skip}
use Rattle.numbers.specs.Run.{digit_run, run_len}
use Rattle.numbers.specs.Number.{finish, decimal_rest, decimal, prefixed, bare_zero, leading_zero, without_i, number}
use Rattle.numbers.specs.Spelling.{number_text}
use Rattle.escapes.specs.EscapeDigits.{escape_digits}
use Rattle.escapes.specs.Escape.{letter, byte_of, octal_escape, escape_of}
use Rattle.quotes.specs.Body.{body_from}
use Rattle.spans.specs.Span.{to_stop, to_star_slash}
use Rattle.spans.specs.Body.{clean}
use Rattle.spans.specs.Line.{blank_to_end, ends_line}
use Rattle.lexer.specs.Words.{word_lexeme, lex_number}
use Rattle.lexer.specs.Quotes.{lex_string, lex_char, lex_raw}
use Rattle.lexer.specs.Comments.{comment, lex_comment}
use Rattle.lexer.specs.Lex.{lex_slash, lex_by, lex_token, lex}
use Rattle.lexer.specs.Placed as Placed
use Rattle.lines.specs.Starts.{read_lines}
use Rattle.lines.specs.Current.{read_line}
use Rattle.position.specs.Place.{in_range, fitting}
use Rattle.errors.specs.Layout.{numbers, record_at}
use Rattle.errors.specs.Errors.{errors_of}
use Rattle.reading.specs.Reading.{after}
use Rattle.state.specs.State.{fresh}
use Rattle.opening.specs.Opening.{open_of}
use Rattle.parts.specs.Shown.{shown_of}
use Rattle.scanner.specs.Scan.{view, scan_by, scan_of}
use Rattle.runs.specs.Calls.{call, play, tokens}
use Rattle.runs.specs.Table.{rows, All, TableHolds}

-- n tokens whose text and value are shown
abbrev shown : (n : ℕ) → All {A = ℕ} (λ k. (zero ≡ zero) × (zero ≡ zero)) (replicate n 0)
shown zero = tt
shown (suc n) = ((refl, refl), shown n)

-- one row and the rows after it
infixr 5 ◌also◌
abbrev ◌also◌ : {A B : Type 0} → A → B → A × B
◌also◌ a b = (a, b)

pub table_holds : TableHolds
unfolding rows same chars_from first_char octets encode keywords kind_named digit_val is_letter is_word word_len is_space is_blank skip digit_run finish decimal_rest decimal prefixed run_len bare_zero leading_zero without_i number number_text escape_digits letter byte_of octal_escape escape_of body_from to_stop to_star_slash clean blank_to_end ends_line word_lexeme lex_number lex_string lex_char lex_raw comment lex_comment lex_slash lex_by lex_token lex Placed.placed read_lines read_line in_range fitting numbers record_at errors_of after fresh open_of shown_of view scan_by scan_of call play tokens
table_holds =
    record { accepted = record { lent = replicate 4 0; opening = refl }; gives = refl; shown = shown 1; errors = refl } also
    record { accepted = record { lent = replicate 4 0; opening = refl }; gives = refl; shown = shown 3; errors = refl } also
    record { accepted = record { lent = replicate 4 0; opening = refl }; gives = refl; shown = shown 4; errors = refl } also
    record { accepted = record { lent = replicate 4 0; opening = refl }; gives = refl; shown = shown 3; errors = refl } also
    record { accepted = record { lent = replicate 4 0; opening = refl }; gives = refl; shown = shown 3; errors = refl } also
    record { accepted = record { lent = replicate 4 0; opening = refl }; gives = refl; shown = shown 3; errors = refl } also
    record { accepted = record { lent = replicate 4 0; opening = refl }; gives = refl; shown = shown 4; errors = refl } also
    record { accepted = record { lent = replicate 4 0; opening = refl }; gives = refl; shown = shown 5; errors = refl } also
    record { accepted = record { lent = replicate 4 0; opening = refl }; gives = refl; shown = shown 4; errors = refl } also
    record { accepted = record { lent = replicate 4 0; opening = refl }; gives = refl; shown = shown 3; errors = refl } also
    record { accepted = record { lent = replicate 4 0; opening = refl }; gives = refl; shown = shown 3; errors = refl } also
    tt
