use Prim.Native.Nat.{◌+◌, ◌^◌, ◌≤◌, ◌<◌}
use mathlib.Core.Path.{ap, ◌∙◌}
use native.Mathlib.Omega.{arith}
use lib.ListN.{length}
use Rattle.utf8.proofs.First.{there_fits, there_least}
use Rattle.escapes.specs.Answers.{meaning_of, says}
use Rattle.quotes.proofs.Bounds.{fit64, right_part, less}
use Rattle.quotes.proofs.Places.{escape_fits}
use Rattle.writing.proofs.Areas.{left_as, finished}
use Rattle.writing.proofs.Values.{value_end, value_quote, value_lf, value_bad, value_escape, value_plain}
use Rattle.writing.proofs.value.write_interpreted.Goals as goal
use Rattle.writing.proofs.value.write_interpreted.Goals.{After-char_at-c, After-escape_at-e, At-loop-p}

-- the text is short of half the numbers
short : (c : At-loop-p) → length c.args.src.now < 2 ^ 63
short c = omega (arith, c.well_formed.0.1)

-- an escape ends within the text
escape_within : (c : After-escape_at-e) → c.loop-p.p + (c.escape_at-e.result.len + 1) ≤ length c.args.src.now
escape_within c = escape_fits _ _ _ (says c.escape_at-e.result) c.loop-p-test.true c.escape_at-e.ensures

-- and so does a character, of a byte or more
char_within : (c : After-char_at-c) → c.loop-p.p + c.char_at-c.result.width ≤ length c.args.src.now
char_within c = there_fits _ _ c.char_at-c.result c.loop-p-test.true c.char_at-c.ensures

char_least : (c : After-char_at-c) → 1 ≤ c.char_at-c.result.width
char_least c = there_least _ _ c.char_at-c.result c.loop-p-test.true c.char_at-c.ensures

pub returns-then-b-eq34 : goal.returns-then-b-eq34
returns-then-b-eq34 c =
    finished c.loop-p.area c.loop-p.n c.loop-p.invariant (value_quote _ c.loop-p.p c.loop-p-test.true c.if-b-eq34.true)

pub returns-then-b-eq10 : goal.returns-then-b-eq10
returns-then-b-eq10 c =
    finished c.loop-p.area c.loop-p.n c.loop-p.invariant (value_lf _ c.loop-p.p c.loop-p-test.true c.if-b-eq34.false c.if-b-eq10.true)

pub returns-in_default : goal.returns-in_default
returns-in_default c =
    let x = c.escape_at-e in
    finished c.loop-p.area c.loop-p.n c.loop-p.invariant (value_bad _ c.loop-p.p c.loop-p-test.true c.if-b-eq34.false c.if-b-eq92.true (says x.result) x.ensures _ (ap meaning_of c.in_default.is))

pub overflow_add-p-then-b-eq92 : goal.overflow_add-p-then-b-eq92
overflow_add-p-then-b-eq92 c =
    record { fits = fit64 _ _ (right_part _ _ _ (escape_within (goal.at.overflow_add-p-then-b-eq92 c).After-escape_at-e)) (short (goal.at.overflow_add-p-then-b-eq92 c).At-loop-p) }

pub overflow_add-p-then-b-eq92-2 : goal.overflow_add-p-then-b-eq92-2
overflow_add-p-then-b-eq92-2 c =
    record { fits = fit64 _ _ (escape_within (goal.at.overflow_add-p-then-b-eq92-2 c).After-escape_at-e) (short (goal.at.overflow_add-p-then-b-eq92-2 c).At-loop-p) }

pub loop-p-preserved-then-b-eq92 : goal.loop-p-preserved-then-b-eq92
loop-p-preserved-then-b-eq92 c =
    let put = c.put_given-n in
    let x = c.escape_at-e in
    left_as c.loop-p.area c.loop-p.n c.loop-p.invariant (value_escape _ c.loop-p.p c.loop-p-test.true c.if-b-eq34.false c.if-b-eq92.true (says x.result) x.ensures _ _ (ap meaning_of c.in-Ok.is)) ∙ put.ensures _

pub overflow_add-p-else-b-eq92 : goal.overflow_add-p-else-b-eq92
overflow_add-p-else-b-eq92 c =
    record { fits = fit64 _ _ (char_within (goal.at.overflow_add-p-else-b-eq92 c).After-char_at-c) (short (goal.at.overflow_add-p-else-b-eq92 c).At-loop-p) }

pub loop-p-smaller : goal.loop-p-smaller
loop-p-smaller c =
    less c.loop-p.p c.char_at-c.result.width _ (char_within (goal.at.loop-p-smaller c).After-char_at-c) (char_least (goal.at.loop-p-smaller c).After-char_at-c)

pub loop-p-preserved : goal.loop-p-preserved
loop-p-preserved c =
    let put = c.put_code-n in
    let x = c.char_at-c in
    left_as c.loop-p.area c.loop-p.n c.loop-p.invariant (value_plain _ c.loop-p.p c.loop-p-test.true c.if-b-eq34.false c.if-b-eq10.false c.if-b-eq92.false x.result x.ensures) ∙ put.ensures _

pub returns : goal.returns
returns c =
    finished c.loop-p.area c.loop-p.n c.loop-p.invariant (value_end _ c.loop-p.p c.loop-p-test.false)
