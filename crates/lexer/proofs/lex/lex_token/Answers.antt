-- `lexer::lex::lex_token` meets its contract: at the end, and by the first byte.
use Prim.Native.Nat.{◌+◌, ◌<◌}
use Prim.Native.Char.{code}
use mathlib.Core.Path.{◌≡◌, sym, ap, ◌∙◌}
use mathlib.Core.Bool.{true, false, ◌&&◌, ◌||◌}
use native.Mathlib.Omega.{arith}
use native.Mathlib.Nat.{add-zero}
use lib.Dec.{eqb}
use lib.ListN.{length, get_or, drop}
use borrow.Author.Rules.{rules}
use Rattle.basics.proofs.Choice.{none_of}
use Rattle.utf8.specs.Chars.{chars}
use Rattle.kinds.specs.declared.kind.Kind.TheVariants.{Eof}
use Rattle.digits.specs.Digit.{is_decimal}
use Rattle.words.specs.Word.{is_letter}
use Rattle.lexer.specs.Placed.{said, placed}
use Rattle.lexer.proofs.Said.{semicolon_said}
use Rattle.lexer.proofs.Ways.{number_there}
use Rattle.lexer.proofs.Ascii.{ascii_none}
use Rattle.lexer.proofs.Tokens.{bare_said}
use Rattle.lexer.proofs.Dispatch.{end_marked, end_unmarked, word_is, number_is, feed_is, string_is, char_is, raw_is, other_is}
use Rattle.lexer.proofs.lex.lex_token.Goals as goal
use Rattle.lexer.proofs.lex.lex_token.Goals.{Else-is_letter, Else-starts_number, Then-is_letter, Then-starts_number}

pub returns-then-mark : goal.returns-then-mark
returns-then-mark c =
    let a = c.args in
    ap (said a.src.now a.at) c.inserted_semicolon.ensures ∙ semicolon_said a.src.now a.at
    ∙ ap (placed a.src.now a.at) (end_marked a.mark a.src.now a.at c.if-src-at.true c.if-mark.true)

pub returns-then-src-at : goal.returns-then-src-at
returns-then-src-at c =
    let a = c.args in
    ap (said a.src.now a.at) c.bare.ensures
    ∙ bare_said a.src.now a.at a.at 0 Eof false (ascii_none (chars (drop a.at a.src.now))) (sym (add-zero a.at)) (λ e. omega arith)
    ∙ ap (placed a.src.now a.at) (end_unmarked a.mark a.src.now a.at c.if-src-at.true c.if-mark.false)

-- ---- a letter
letter : (c : Then-is_letter) → let a = c.args in is_letter (get_or a.src.now a.at 0) ≡ true
letter c = sym c.is_letter.ensures ∙ c.if-is_letter.true

pub returns-then-is_letter : goal.returns-then-is_letter
returns-then-is_letter c =
    let a = c.args in
    c.lex_word.ensures ∙ ap (placed a.src.now a.at) (word_is a.mark a.src.now a.at c.if-src-at.false (letter (goal.at.returns-then-is_letter c).Then-is_letter))

-- a byte stands at the place
there : (c : Else-is_letter) → c.args.at < length c.args.src.now
there c = c.if-src-at.false

-- the byte after it
second : (c : Else-is_letter) → get_or c.args.src.now (c.args.at + 1) 0 ≡ c.byte-second.result
second c = sym c.byte-second.ensures

no_letter : (c : Else-is_letter) → is_letter (get_or c.args.src.now c.args.at 0) ≡ false
no_letter c = sym c.is_letter.ensures ∙ c.if-is_letter.false

-- ---- a number
starts : (c : Then-starts_number)
    → let a = c.args in
    is_decimal (get_or a.src.now a.at 0) || (eqb (get_or a.src.now a.at 0) (code ".") && is_decimal c.byte-second.result) ≡ true
starts c = sym c.starts_number.ensures ∙ c.if-starts_number.true

pub lex_number-requires : goal.lex_number-requires
lex_number-requires c =
    let a = c.args in
    (search rules, number_there a.src.now a.at (rw (second (goal.at.lex_number-requires c).Else-is_letter) (starts (goal.at.lex_number-requires c).Then-starts_number)))

pub returns-then-starts_number : goal.returns-then-starts_number
returns-then-starts_number c =
    let a = c.args in
    c.lex_number.ensures
    ∙ ap (placed a.src.now a.at) (number_is a.mark a.src.now a.at (there (goal.at.returns-then-starts_number c).Else-is_letter) c.byte-second.result (second (goal.at.returns-then-starts_number c).Else-is_letter) (no_letter (goal.at.returns-then-starts_number c).Else-is_letter) (starts (goal.at.returns-then-starts_number c).Then-starts_number))

no_number : (c : Else-starts_number)
    → let a = c.args in
    (is_decimal (get_or a.src.now a.at 0) ≡ false) × (eqb (get_or a.src.now a.at 0) (code ".") && is_decimal c.byte-second.result ≡ false)
no_number c = none_of _ _ (sym c.starts_number.ensures ∙ c.if-starts_number.false)

pub returns-in-10 : goal.returns-in-10
returns-in-10 c =
    let a = c.args in
    ap (said a.src.now a.at) c.inserted_semicolon-in-10.ensures ∙ semicolon_said a.src.now a.at
    ∙ ap (placed a.src.now a.at) (feed_is a.mark a.src.now a.at (there (goal.at.returns-in-10 c).Else-is_letter) c.in-10.is)

pub returns-in-34 : goal.returns-in-34
returns-in-34 c =
    let a = c.args in
    c.lex_string.ensures ∙ ap (placed a.src.now a.at) (string_is a.mark a.src.now a.at (there (goal.at.returns-in-34 c).Else-is_letter) c.in-34.is)

pub returns-in-39 : goal.returns-in-39
returns-in-39 c =
    let a = c.args in
    c.lex_char.ensures ∙ ap (placed a.src.now a.at) (char_is a.mark a.src.now a.at (there (goal.at.returns-in-39 c).Else-is_letter) c.in-39.is)

pub returns-in-96 : goal.returns-in-96
returns-in-96 c =
    let a = c.args in
    c.lex_raw.ensures ∙ ap (placed a.src.now a.at) (raw_is a.mark a.src.now a.at (there (goal.at.returns-in-96 c).Else-is_letter) c.in-96.is)

pub returns-in_default : goal.returns-in_default
returns-in_default c =
    let a = c.args in
    c.lex_other.ensures
    ∙ ap (placed a.src.now a.at) (other_is a.mark a.src.now a.at (there (goal.at.returns-in_default c).Else-is_letter) (no_letter (goal.at.returns-in_default c).Else-is_letter) (no_number (goal.at.returns-in_default c).Else-starts_number).0
    (omega arith) (omega arith) (omega arith) (omega arith))
