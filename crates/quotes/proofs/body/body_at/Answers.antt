use Prim.Native.Nat.{◌+◌, ◌-◌, ◌^◌, ◌≤◌, ◌<◌}
use mathlib.Core.Path.{◌≡◌, refl, sym, ap, ◌∙◌}
use native.Mathlib.Omega.{arith}
use lib.ListN.{length, get_or, drop}
use Rattle.utf8.proofs.First.{there_fits, there_least}
use Rattle.utf8.specs.Chars.{chars}
use Rattle.escapes.specs.Escape.{escape_of}
use Rattle.escapes.specs.Answers.{character, no_character, code_of, is_byte, meaning_of, says}
use Rattle.errors.specs.Faults.{fault_number}
use Rattle.quotes.specs.Steps.{quote_code, escape_piece, char_piece, plain_piece}
use Rattle.escapes.proofs.Sizes.{escape_gives}
use Rattle.quotes.proofs.Bounds.{quote_low, Sized, escape_sized, char_sized, plain_sized, added_within, room_add, room_stop, less, one_le, none_le, right_part, fit64}
use Rattle.quotes.proofs.Places.{joined_start, escape_fits, step_end, step_quote, step_lf, step_bad, step_escape, step_plain}
use Rattle.quotes.proofs.PlainRuns.{run_len, run_some, run_fits, step_run}
use Rattle.quotes.proofs.body.body_at.Goals as goal
use Rattle.quotes.proofs.body.body_at.Goals.{Else-b-close, After-char_at-c, After-escape_at-e, After-plain_end, At-loop-p, In-Ok, In-loop-p}

-- the text is short of half the numbers
short : (c : At-loop-p) → length c.args.src.now < 2 ^ 63
short c = omega (arith, c.well_formed.0.1)

no_quote : (c : Else-b-close) → get_or c.args.src.now c.loop-p.p 0 ≡ quote_code c.args.quote → ⊥
no_quote c e = c.if-b-close.false (e ∙ sym c.byte-close.ensures)

pub loop-p-init : goal.loop-p-init
loop-p-init c = ((none_le _, none_le _, none_le _, none_le _, refl), none_le _, joined_start _)

-- ---- the closing quote, and a line feed in its place
pub returns-then-b-close : goal.returns-then-b-close
returns-then-b-close c =
    let a = c.args in
    let quote = quote_code a.quote in
    let low = quote_low a.quote in
    c.stop.ensures
    ∙ step_quote quote low a.src.now c.loop-p.p c.loop-p.content c.loop-p-test.true c.loop-p.invariant.0.4 (c.if-b-close.true ∙ c.byte-close.ensures)
    ∙ sym c.loop-p.invariant.2

pub returns-then-b-eq10 : goal.returns-then-b-eq10
returns-then-b-eq10 c =
    let a = c.args in
    let quote = quote_code a.quote in
    let low = quote_low a.quote in
    c.stop-then-b-eq10.ensures
    ∙ step_lf quote low a.src.now c.loop-p.p c.loop-p.content c.loop-p-test.true (no_quote (goal.at.returns-then-b-eq10 c).Else-b-close) c.loop-p.invariant.0.4 c.if-b-eq10.true
    ∙ sym c.loop-p.invariant.2

-- ---- an escape
escape_is : (c : After-escape_at-e) → says c.escape_at-e.result ≡ escape_of (quote_code c.args.quote) (chars (drop (c.loop-p.p + 1) c.args.src.now))
escape_is c = rw c.byte-close.ensures at c.escape_at-e.ensures

-- it ends within the text
fits : (c : After-escape_at-e) → c.loop-p.p + (c.escape_at-e.result.len + 1) ≤ length c.args.src.now
fits c = escape_fits _ _ _ (says c.escape_at-e.result) c.loop-p-test.true (escape_is c)

pub overflow_add-n : goal.overflow_add-n
overflow_add-n c = record { fits = fit64 _ _ (right_part _ _ _ (fits (goal.at.overflow_add-n c).After-escape_at-e)) (short (goal.at.overflow_add-n c).At-loop-p) }

pub overflow_add-p-in_default : goal.overflow_add-p-in_default
overflow_add-p-in_default c = record { fits = fit64 _ _ (fits (goal.at.overflow_add-p-in_default c).After-escape_at-e) (short (goal.at.overflow_add-p-in_default c).At-loop-p) }

pub stop-requires-in_default : goal.stop-requires-in_default
stop-requires-in_default c =
    room_stop _ _ c.loop-p.content _ c.loop-p.invariant.0 (fits (goal.at.stop-requires-in_default c).After-escape_at-e) (short (goal.at.stop-requires-in_default c).At-loop-p)

pub returns-in_default : goal.returns-in_default
returns-in_default c =
    let x = c.escape_at-e in
    let slash = c.if-b-eq92.true in
    let a = c.args in
    let quote = quote_code a.quote in
    let low = quote_low a.quote in
    let bad : meaning_of x.result.given ≡ no_character (fault_number c.in_default.field-0) = rw c.in_default.is in
    rw (c.stop-in_default.ensures, c.err.ensures.value, c.in_default.is)
    (step_bad quote low a.src.now c.loop-p.p c.loop-p.content c.loop-p-test.true (no_quote (goal.at.returns-in_default c).Else-b-close) slash (says x.result) (escape_is (goal.at.returns-in_default c).After-escape_at-e) (fault_number c.in_default.field-0) c.loop-p.invariant.0.4 bad
    ∙ sym c.loop-p.invariant.2)

-- what it gives is no longer than twice the escape
sized : (c : In-Ok)
    → let n = c.escape_at-e.result.len + 1 in
    Sized n (escape_piece n (code_of c.in-Ok.given) (is_byte c.in-Ok.given))
sized c =
    let x = c.escape_at-e in
    let v = c.in-Ok in
    escape_sized (x.result.len + 1) (code_of v.given) (is_byte v.given) (one_le _)
    (escape_gives _ _ (says x.result) (character (code_of v.given) (is_byte v.given)) (rw c.byte-close.ensures at c.escape_at-e.ensures) (ap meaning_of v.is))

pub with-content-requires : goal.with-content-requires
with-content-requires c =
    let v = c.in-Ok in
    rw c.escape.ensures
    (room_add c.loop-p.p _ _ c.loop-p.content (escape_piece _ (code_of v.given) (is_byte v.given)) c.loop-p.invariant.0 (sized (goal.at.with-content-requires c).In-Ok) (fits (goal.at.with-content-requires c).After-escape_at-e) (short (goal.at.with-content-requires c).At-loop-p))

pub overflow_add-p-then-b-eq92-2 : goal.overflow_add-p-then-b-eq92-2
overflow_add-p-then-b-eq92-2 c = record { fits = fit64 _ _ (fits (goal.at.overflow_add-p-then-b-eq92-2 c).After-escape_at-e) (short (goal.at.overflow_add-p-then-b-eq92-2 c).At-loop-p) }

pub loop-p-preserved-then-b-eq92 : goal.loop-p-preserved-then-b-eq92
loop-p-preserved-then-b-eq92 c =
    let v = c.in-Ok in
    let x = c.escape_at-e in
    let slash = c.if-b-eq92.true in
    let a = c.args in
    let quote = quote_code a.quote in
    let low = quote_low a.quote in
    let n = x.result.len + 1 in
    let w = added_within c.loop-p.p n _ c.loop-p.content (escape_piece n (code_of v.given) (is_byte v.given)) c.loop-p.invariant.0 (sized (goal.at.loop-p-preserved-then-b-eq92 c).In-Ok) (fits (goal.at.loop-p-preserved-then-b-eq92 c).After-escape_at-e) in
    rw (c.with-content.ensures, c.escape.ensures) (
      w.0,
      w.1,
      c.loop-p.invariant.2
          ∙ step_escape quote low a.src.now c.loop-p.p c.loop-p.content c.loop-p-test.true (no_quote (goal.at.loop-p-preserved-then-b-eq92 c).Else-b-close) slash (says x.result) (escape_is (goal.at.loop-p-preserved-then-b-eq92 c).After-escape_at-e) (code_of v.given) (is_byte v.given) (ap meaning_of v.is),
    )

-- ---- a run of plain characters
-- it has a first one, and ends within the text
run : (c : After-plain_end) → (c.loop-p.p ≤ c.plain_end.result) × (1 ≤ c.plain_end.result - c.loop-p.p)
run c = run_some (quote_code c.args.quote) _ c.loop-p.p c.plain_end.result c.plain_end.ensures

run_inside : (c : After-plain_end) → c.loop-p.p + (c.plain_end.result - c.loop-p.p) ≤ length c.args.src.now
run_inside c = run_fits (quote_code c.args.quote) _ c.loop-p.p c.plain_end.result c.plain_end.ensures c.loop-p-test.true

pub with-content-requires-then-b-lt128 : goal.with-content-requires-then-b-lt128
with-content-requires-then-b-lt128 c =
    let b = get_or c.args.src.now c.loop-p.p 0 in
    rw c.run.ensures
    (room_add c.loop-p.p _ _ c.loop-p.content (plain_piece _ b) c.loop-p.invariant.0 (plain_sized _ b (run (goal.at.with-content-requires-then-b-lt128 c).After-plain_end).1) (run_inside (goal.at.with-content-requires-then-b-lt128 c).After-plain_end) (short (goal.at.with-content-requires-then-b-lt128 c).At-loop-p))

pub loop-p-preserved-then-b-lt128 : goal.loop-p-preserved-then-b-lt128
loop-p-preserved-then-b-lt128 c =
    let e = c.plain_end in
    let a = c.args in
    let quote = quote_code a.quote in
    let low = quote_low a.quote in
    let n = e.result - c.loop-p.p in
    let b = get_or a.src.now c.loop-p.p 0 in
    let w = added_within c.loop-p.p n _ c.loop-p.content (plain_piece n b) c.loop-p.invariant.0 (plain_sized n b (run (goal.at.loop-p-preserved-then-b-lt128 c).After-plain_end).1) (run_inside (goal.at.loop-p-preserved-then-b-lt128 c).After-plain_end) in
    rw (c.with-content-then-b-lt128.ensures, c.run.ensures) (
      w.0,
      w.1,
      c.loop-p.invariant.2
          ∙ step_run quote low a.src.now c.loop-p.content c.loop-p.p n (run_len quote a.src.now c.loop-p.p e.result e.ensures) c.loop-p-test.true (no_quote (goal.at.loop-p-preserved-then-b-lt128 c).Else-b-close) c.if-b-eq10.false c.if-b-eq92.false c.if-b-lt128.true,
    )

-- it is within the text, and takes a byte or more
char_fits : (c : After-char_at-c) → c.loop-p.p + c.char_at-c.result.width ≤ length c.args.src.now
char_fits c = there_fits _ _ c.char_at-c.result c.loop-p-test.true c.char_at-c.ensures

char_least : (c : After-char_at-c) → 1 ≤ c.char_at-c.result.width
char_least c = there_least _ _ c.char_at-c.result c.loop-p-test.true c.char_at-c.ensures

pub with-content-requires-else-b-lt128 : goal.with-content-requires-else-b-lt128
with-content-requires-else-b-lt128 c =
    let r = c.char_at-c.result in
    rw c.char.ensures
    (room_add c.loop-p.p _ _ c.loop-p.content (char_piece r) c.loop-p.invariant.0 (char_sized r (char_least (goal.at.with-content-requires-else-b-lt128 c).After-char_at-c)) (char_fits (goal.at.with-content-requires-else-b-lt128 c).After-char_at-c) (short (goal.at.with-content-requires-else-b-lt128 c).At-loop-p))

pub overflow_add-p-else-b-lt128 : goal.overflow_add-p-else-b-lt128
overflow_add-p-else-b-lt128 c = record { fits = fit64 _ _ (char_fits (goal.at.overflow_add-p-else-b-lt128 c).After-char_at-c) (short (goal.at.overflow_add-p-else-b-lt128 c).At-loop-p) }

pub loop-p-smaller : goal.loop-p-smaller
loop-p-smaller c =
    less c.loop-p.p c.char_at-c.result.width _ (char_fits (goal.at.loop-p-smaller c).After-char_at-c) (char_least (goal.at.loop-p-smaller c).After-char_at-c)

pub loop-p-preserved : goal.loop-p-preserved
loop-p-preserved c =
    let r = c.char_at-c in
    let a = c.args in
    let quote = quote_code a.quote in
    let low = quote_low a.quote in
    let w = added_within c.loop-p.p r.result.width _ c.loop-p.content (char_piece r.result) c.loop-p.invariant.0 (char_sized r.result (char_least (goal.at.loop-p-preserved c).After-char_at-c)) (char_fits (goal.at.loop-p-preserved c).After-char_at-c) in
    rw (c.with-content-else-b-lt128.ensures, c.char.ensures) (
      w.0,
      w.1,
      c.loop-p.invariant.2
          ∙ step_plain quote low a.src.now c.loop-p.p c.loop-p.content c.loop-p-test.true (no_quote (goal.at.loop-p-preserved c).Else-b-close) c.if-b-eq10.false c.if-b-eq92.false r.result r.ensures,
    )

-- ---- the end of the text
pub returns : goal.returns
returns c =
    let a = c.args in
    let quote = quote_code a.quote in
    let low = quote_low a.quote in
    c.stop-2.ensures
    ∙ step_end quote low a.src.now c.loop-p.p c.loop-p.content c.loop-p.invariant.0.4 c.loop-p-test.false
    ∙ sym c.loop-p.invariant.2
