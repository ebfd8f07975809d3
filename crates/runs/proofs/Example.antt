-- A worked example of the joined runs: `x = 017` LF and `08`, with refused scans in the first run and in the joined one.
use Prim.Native.Nat.{ℕ, ◌+◌, ◌≤◌, ◌<◌}
use Prim.Native.String.{String}
use mathlib.Core.Path.{◌≡◌, refl}
use mathlib.Core.Bool.{Bool, true, false, cond}
use mathlib.Core.List.{List, [], ◌∷◌, ◌++◌, map}
use mathlib.Core.Logic.{inr}
use lib.Dec.{lit≤, lit<}
use lib.ListN.{length, take, replicate}
use borrow.Author.Tests.{eqb-false}
use Rattle.basics.specs.Same.{same}
use Rattle.basics.specs.Spelling.{spelled}
use Rattle.utf8.specs.Chars.{chars_from, first_char, octets, encode}
use Rattle.kinds.specs.Kinds.{ILLEGAL, EOF, IDENT, INT, ASSIGN, SEMICOLON}
use Rattle.kinds.specs.Table.{keywords, operators, kind_named}
use Rattle.digits.specs.Digit.{digit_val}
use Rattle.words.specs.Word.{is_letter, is_word, word_len}
use Rattle.blanks.specs.Blank.{is_space, is_blank, skip}
use Rattle.operators.specs.Longest.{begins, longest}
use Rattle.numbers.specs.Run.{digit_run, run_len}
use Rattle.numbers.specs.Number.{finish, decimal_rest, decimal, prefixed, bare_zero, leading_zero, without_i, number}
use Rattle.numbers.specs.Spelling.{number_text}
use Rattle.lexer.specs.Words.{word_lexeme, lex_number}
use Rattle.lexer.specs.Lex.{lex_operator, lex_by, lex_token, lex}
use Rattle.lexer.specs.Placed as Placed
use Rattle.lines.specs.Starts.{read_lines}
use Rattle.lines.specs.Current.{read_line}
use Rattle.position.specs.Place.{in_range, fitting}
use Rattle.errors.specs.Layout.{numbers, record_at}
use Rattle.errors.specs.Errors.{errors_of}
use Rattle.reading.specs.Reading.{after}
use Rattle.state.specs.State.{fresh}
use Rattle.opening.specs.Opening.{open_of}
use Rattle.parts.specs.Shown.{shown_of}
use Rattle.scanner.specs.Scan.{view, part_from, refused_by, scan_by, scan_of}
use Rattle.runs.specs.Calls.{Held, Accepted, call, Seen, play, tokens, record_of}
use Rattle.runs.specs.Joined.{NoEof, FirstEof, JoinedRuns, joined_record}
use Rattle.runs.specs.Table.{shown_token, error, shows}
use Rattle.runs.proofs.Joined.{joined_runs}

-- the texts: of 8 characters and of 2
abbrev x : List ℕ
x = spelled "x = 017\n"

abbrev y : List ℕ
y = spelled "08"

-- what the openings leave, with buffers of three lengths
abbrev h : Held
h = record { state = fresh 100 20; table = 0 ∷ 7 ∷ 7 ∷ []; list = replicate 4 9 }

abbrev h₁ : Held
h₁ = record { state = fresh 100 20; table = 0 ∷ 0 ∷ []; list = [] }

abbrev h₂ : Held
h₂ = record { state = fresh 108 12; table = 0 ∷ []; list = replicate 8 0 }

opens : Accepted (x ++ y) 100 20 h
unfolding chars_from first_char in_range fresh open_of
opens = record { lent = replicate 3 7; opening = refl }

opens₁ : Accepted x 100 20 h₁
unfolding chars_from first_char in_range fresh open_of
opens₁ = record { lent = replicate 2 0; opening = refl }

opens₂ : Accepted y 108 12 h₂
unfolding chars_from first_char in_range fresh open_of
opens₂ = record { lent = 5 ∷ []; opening = refl }

-- the areas of the first run's scans up to its EOF: too small is the third, of 3 bytes for `0o17`
abbrev ending : List (List ℕ)
ending = [] ∷ [] ∷ replicate 3 0 ∷ replicate 5 0 ∷ [] ∷ [] ∷ []

-- those of the second run's scans
abbrev second : List (List ℕ)
second = replicate 6 0 ∷ [] ∷ [] ∷ [] ∷ []

-- and of the joined run's, other ones: too small are the third for `0o17` and the sixth for `0o`
abbrev joined : List (List ℕ)
joined = replicate 1 0 ∷ [] ∷ [] ∷ replicate 4 1 ∷ replicate 2 0 ∷ replicate 1 1 ∷ replicate 2 1 ∷ [] ∷ [] ∷ [] ∷ []

-- a token without a value that starts at a place of the source, which is its offset too; its text is shown from there, or from the text area
abbrev seen : ℕ → Bool → ℕ → Bool → String → Seen
seen kind inserted start area text =
    record {
      token =
          record {
            kind = kind;
            inserted = inserted;
            position = 100 + start;
            code = 0;
            text = part_from area (cond area 0 start) (length (spelled text));
            value = part_from false start 0;
          };
      text = record { bytes = spelled text; refusal = 0 };
      value = record { bytes = []; refusal = 0 };
    }

-- the first run's tokens before its EOF
abbrev ts : List Seen
ts = seen IDENT false 0 false "x" ∷ seen ASSIGN false 2 false "" ∷ seen INT false 4 true "0o17" ∷ seen SEMICOLON true 7 false "" ∷ []

-- after them comes the EOF; and how many tokens the runs give
given : FirstEof x h₁ ending ts
    × (length (tokens (x ++ y) (take 4 joined) h) ≡ length (tokens x (take 4 ending) h₁))
    × (length (tokens x (take 4 ending) h₁) ≤ length ts)
    × (length (tokens (x ++ y) joined h) ≡ length ts + length (tokens y second h₂))
    × (0 < length (tokens y second h₂))
unfolding same chars_from first_char octets encode keywords operators kind_named digit_val is_letter is_word word_len is_space is_blank skip begins longest digit_run finish decimal_rest decimal prefixed run_len bare_zero leading_zero without_i number number_text word_lexeme lex_number lex_operator lex_by lex_token lex Placed.placed read_lines read_line in_range fitting numbers record_at errors_of after fresh shown_of view scan_by scan_of call play tokens record_of
given =
    let before : NoEof ts = (eqb-false IDENT EOF refl, (eqb-false ASSIGN EOF refl, (eqb-false INT EOF refl, (eqb-false SEMICOLON EOF refl, tt)))) in
    (record { last = seen EOF false 8 false ""; all = refl; before = before; ends = refl; shut = tt }, refl, lit≤ tt, refl, lit< tt)

joins : JoinedRuns x y h h₁ h₂ ending ts
unfolding chars_from first_char
joins = joined_runs x y 100 20 h h₁ h₂ (record { closed = inr (spelled "x = 017", refl); joined = opens; first = opens₁; second = opens₂ }) ending ts given.0

-- three tokens on, the joined run has come to what the first has
pub first_part : record_of (x ++ y) (take 4 joined) h ≡ record_of x (take 4 ending) h₁
first_part = joins.first (take 4 joined) (take 4 ending) given.1 given.2

-- at its EOF, to what both have
pub whole : record_of (x ++ y) joined h ≡ joined_record x ts (record_of x ending h₁) (record_of y second h₂)
whole = joins.second joined second given.3 given.4

-- the first run before its third scan
abbrev two : Held
two = play x (take 2 ending) h₁

-- the third scan is refused by 9 and leaves all as it was; the joined run's line starts, its error, which is the second run's, but on line 2,
-- and its tokens
pub computed :
    (call x (replicate 3 0) two ≡ refused_by 9 two.state two.table two.list (replicate 3 0))
    × ((record_of (x ++ y) joined h).lines ≡ 0 ∷ 8 ∷ [])
    × ((record_of y second h₂).errors ≡ error 2 1 1 2 ∷ [])
    × ((record_of (x ++ y) joined h).errors ≡ error 2 9 2 2 ∷ [])
    × (map shows (tokens (x ++ y) joined h)
    ≡ shown_token IDENT 100 "x" ∷ shown_token ASSIGN 102 "" ∷ shown_token INT 104 "0o17" ∷ shown_token SEMICOLON 107 ""
    ∷ shown_token ILLEGAL 108 "0o" ∷ shown_token INT 109 "8" ∷ shown_token SEMICOLON 110 "" ∷ shown_token EOF 110 "" ∷ [])
unfolding same chars_from first_char octets encode keywords operators kind_named digit_val is_letter is_word word_len is_space is_blank skip begins longest digit_run finish decimal_rest decimal prefixed run_len bare_zero leading_zero without_i number number_text word_lexeme lex_number lex_operator lex_by lex_token lex Placed.placed read_lines read_line in_range fitting numbers record_at errors_of after fresh shown_of view scan_by scan_of call play tokens record_of
computed = (refl, refl, refl, refl, refl)
