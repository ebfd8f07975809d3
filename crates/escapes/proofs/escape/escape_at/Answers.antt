-- `escapes::escape::escape_at` meets its contract: by the byte and the character at the place.
use Prim.Native.Nat.{◌≤◌, ◌<◌}
use mathlib.Core.Path.{◌≡◌, sym, ap, ◌∙◌}
use native.Mathlib.Omega.{arith}
use lib.ListN.{length, get_or}
use borrow.Author.Tests.{eqb-false}
use Rattle.utf8.proofs.First.{there_fits}
use Rattle.digits.specs.Digit.{digit_val}
use Rattle.escapes.specs.Escape.{letter, single_escape}
use Rattle.escapes.proofs.EscapeLaws.{escape_end, escape_letter, escape_quote, escape_octal, escape_hex}
use Rattle.escapes.proofs.Steps.{entry_none, entry_some}
use Rattle.escapes.proofs.escape.escape_at.Goals as goal
use Rattle.escapes.proofs.escape.escape_at.Goals.{In-Some, In_default-letter_code}

pub returns-in_default : goal.returns-in_default
returns-in_default c =
    let a = c.args in
    c.unread.ensures ∙ sym (escape_end a.quote a.src.now a.at c.in_default.ensures.lookup.3)

there : (c : In-Some) → c.args.at < length c.args.src.now
there c = c.in-Some.ensures.lookup.3.0

-- the byte that was read is the one at the place
byte_is : (c : In-Some) → c.in-Some.field-0.now ≡ get_or c.args.src.now c.args.at 0
byte_is c = c.in-Some.ensures.lookup.3.1 0

pub returns-in-Some-letter_code : goal.returns-in-Some-letter_code
returns-in-Some-letter_code c =
    let a = c.args in
    let here = (goal.at.returns-in-Some-letter_code c).In-Some in
    let i = rw (byte_is here) at (entry_some _ _ c.in-Some-letter_code.ensures) in
    c.single.ensures ∙ ap single_escape (sym i.0) ∙ sym (escape_letter a.quote a.src.now a.at (there here) (eqb-false _ _ i.1))

-- past the second test the byte is no letter
no_letter : (c : In_default-letter_code) → let a = c.args in letter (get_or a.src.now a.at 0) ≡ 0
no_letter c = ap letter (sym (c.in-Some.ensures.lookup.3.1 0)) ∙ entry_none _ c.in_default-letter_code.ensures

pub returns-then-c-quote : goal.returns-then-c-quote
returns-then-c-quote c =
    let r = c.char_at-c in
    let a = c.args in
    c.single-then-c-quote.ensures
    ∙ sym (escape_quote a.quote a.src.now a.at r.result (there (goal.at.returns-then-c-quote c).In-Some) r.ensures (no_letter (goal.at.returns-then-c-quote c).In_default-letter_code) c.if-c-quote.true)

pub returns-then-digit_val-lt8 : goal.returns-then-digit_val-lt8
returns-then-digit_val-lt8 c =
    let r = c.char_at-c in
    let a = c.args in
    let here = (goal.at.returns-then-digit_val-lt8 c).In-Some in
    let d : digit_val (get_or a.src.now a.at 0) < 8 = rw (c.digit_val.ensures, byte_is here) at c.if-digit_val-lt8.true in
    c.octal_at.ensures
    ∙ sym (escape_octal a.quote a.src.now a.at r.result (there here) r.ensures (no_letter (goal.at.returns-then-digit_val-lt8 c).In_default-letter_code) c.if-c-quote.false d)

pub overflow_add-at : goal.overflow_add-at
overflow_add-at c =
    let r = c.char_at-c in
    let a = c.args in
    omega (arith, there_fits a.src.now a.at r.result (there (goal.at.overflow_add-at c).In-Some) r.ensures)

pub returns : goal.returns
returns c =
    let r = c.char_at-c in
    let a = c.args in
    let here = (goal.at.returns c).In-Some in
    let d : 8 ≤ digit_val (get_or a.src.now a.at 0) = rw (c.digit_val.ensures, byte_is here) at c.if-digit_val-lt8.false in
    let e = rw (byte_is here) at c.hex_at.ensures in
    e
    ∙ sym (escape_hex a.quote a.src.now a.at r.result (there here) r.ensures (no_letter (goal.at.returns c).In_default-letter_code) c.if-c-quote.false d)
