-- `calls::scanner_scan` meets its contract: past the test of lengths the state in the numbers is scanned from, and a refusal writes neither
-- state nor token.
use Prim.Native.Nat.{◌≤◌}
use mathlib.Core.Path.{◌≡◌, sym, ◌∙◌}
use mathlib.Core.Bool.{false}
use lib.ListN.{length}
use borrow.Author.Tests.{le-leb, ne_eqb}
use Rattle.refusal.specs.Short.{too_short}
use Rattle.refusal.proofs.Lengths.{long_enough}
use Rattle.refusal.proofs.Numbers.{refusal_some}
use Rattle.state.specs.Layout.{state_width}
use Rattle.parts.specs.Layout.{token_width}
use Rattle.scanner_c.specs.Calls.{scan_numbers}
use Rattle.scanner_c.proofs.calls.scanner_scan.Goals as goal
use Rattle.scanner_c.proofs.calls.scanner_scan.Goals.{Else-too_short}

pub returns-then-too_short : goal.returns-then-too_short
unfolding scan_numbers
returns-then-too_short c = rw (c.number.ensures, sym c.too_short.ensures ∙ c.if-too_short.true)

-- past the test of lengths the slices are long enough
not_short : (e : Else-too_short)
    → let a = e.args in
    too_short (length a.state.now) state_width (length a.token.now) token_width ≡ false
not_short e = sym e.too_short.ensures ∙ e.if-too_short.false

long : (e : Else-too_short)
    → let a = e.args in
    (state_width ≤ length a.state.now) × (token_width ≤ length a.token.now)
long e = long_enough _ _ _ _ e.too_short.ensures e.if-too_short.false

pub returns-in-Ok : goal.returns-in-Ok
unfolding scan_numbers
returns-in-Ok c =
    let l = long (goal.at.returns-in-Ok c).Else-too_short in
    rw (c.put_token.ensures, c.put_state.ensures, le-leb _ _ l.0, le-leb _ _ l.1, not_short (goal.at.returns-in-Ok c).Else-too_short, ← c.state_in.ensures, ← c.in-Ok.ensures)

pub returns-in-Err : goal.returns-in-Err
unfolding scan_numbers
returns-in-Err c =
    rw (c.number-in-Err.ensures, not_short (goal.at.returns-in-Err c).Else-too_short, ← c.state_in.ensures, ← c.in-Err.ensures, ne_eqb _ _ (refusal_some c.in-Err.refusal))
