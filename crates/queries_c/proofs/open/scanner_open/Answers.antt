-- `open::scanner_open` meets its contract: past the test of lengths the source is opened, and each answer has its own numbers.
use Prim.Native.Nat.{◌≤◌}
use mathlib.Core.Path.{◌≡◌, sym, ◌∙◌}
use mathlib.Core.Bool.{false}
use native.Mathlib.Omega.{arith}
use lib.ListN.{length}
use borrow.Author.Tests.{le-leb}
use Rattle.refusal.specs.Short.{too_short}
use Rattle.refusal.proofs.Lengths.{long_enough}
use Rattle.state.specs.Layout.{state_width}
use Rattle.queries_c.specs.Open.{open_numbers}
use Rattle.queries_c.proofs.open.scanner_open.Goals as goal
use Rattle.queries_c.proofs.open.scanner_open.Goals.{Else-too_short}

pub returns-then-too_short : goal.returns-then-too_short
unfolding open_numbers
returns-then-too_short c = rw (c.number.ensures, sym c.too_short.ensures ∙ c.if-too_short.true)

-- past the test of lengths the slices are long enough
long : (e : Else-too_short)
    → let a = e.args in (state_width ≤ length a.state.now) × (1 ≤ length a.answer.now)
long e = long_enough _ _ _ _ e.too_short.ensures e.if-too_short.false

not_short : (e : Else-too_short)
    → let a = e.args in too_short (length a.state.now) state_width (length a.answer.now) 1 ≡ false
not_short e = sym e.too_short.ensures ∙ e.if-too_short.false

pub bounds-answer-0 : goal.bounds-answer-0
bounds-answer-0 c = omega (arith, (long (goal.at.bounds-answer-0 c).Else-too_short).1)

pub bounds-answer-0-in-Err-NotUtf8 : goal.bounds-answer-0-in-Err-NotUtf8
bounds-answer-0-in-Err-NotUtf8 c = omega (arith, (long (goal.at.bounds-answer-0-in-Err-NotUtf8 c).Else-too_short).1)

pub returns-in-Ok : goal.returns-in-Ok
unfolding open_numbers
returns-in-Ok c =
    rw (c.put_state.ensures, le-leb _ _ (long (goal.at.returns-in-Ok c).Else-too_short).0, not_short (goal.at.returns-in-Ok c).Else-too_short, ← c.open.ensures, c.in-Ok.is)

pub returns-in-Err-NotUtf8 : goal.returns-in-Err-NotUtf8
unfolding open_numbers
returns-in-Err-NotUtf8 c =
    rw (c.number-in-Err-NotUtf8.ensures, not_short (goal.at.returns-in-Err-NotUtf8 c).Else-too_short, ← c.open.ensures, c.in-Err-NotUtf8.is, c.in-Err-NotUtf8.field-0-is)

pub returns-in-Err-Refused : goal.returns-in-Err-Refused
unfolding open_numbers
returns-in-Err-Refused c =
    rw (c.number-in-Err-Refused.ensures, not_short (goal.at.returns-in-Err-Refused c).Else-too_short, ← c.open.ensures, c.in-Err-Refused.is, c.in-Err-Refused.field-0-is)
