-- `calls::scanner_scan_many` meets its contract: past the test of lengths the scans start from the state in the numbers; where they are not refused, state
-- and count are written.
use Prim.Native.Nat.{ℕ, ◌+◌, ◌≤◌}
use mathlib.Core.Path.{◌≡◌, refl, sym, ap, ◌∙◌}
use mathlib.Core.Bool.{false}
use mathlib.Core.List.{List}
use native.Mathlib.Omega.{arith}
use lib.ListN.{length}
use borrow.Author.Tests.{le-leb, eq-eqb, ne_eqb}
use Rattle.refusal.specs.Short.{too_short}
use Rattle.refusal.proofs.Lengths.{long_enough}
use Rattle.refusal.proofs.Numbers.{refusal_some}
use Rattle.state.specs.Layout.{state_width, state_in}
use Rattle.std.specs.Prelude.{Ok, Err}
use Rattle.batch.specs.Many.{ManyLeft, many_left, scan_many_of}
use Rattle.batch.proofs.Given.{many_kept}
use Rattle.batch_c.specs.Many.{ManyCallLeft, scans_by, scan_many_numbers}
use Rattle.batch_c.proofs.calls.scanner_scan_many.Goals as goal
use Rattle.batch_c.proofs.calls.scanner_scan_many.Goals.{Else-too_short}

-- what the scans leave, where the slices are long enough
module _ (src state table list area tokens answer : List ℕ) (fits : too_short (length state) state_width (length answer) 1 ≡ false)
    (l : ManyLeft) (e : l ≡ scan_many_of src (state_in state) table list area tokens) where
  gave : l.refusal ≡ 0 → scans_by l state answer ≡ scan_many_numbers src state table list area tokens answer
  unfolding scan_many_numbers
  gave z = rw (fits, ← e, eq-eqb _ _ z)

  kept : (l.refusal ≡ 0 → ⊥)
      → ◌≡◌ {A = ManyCallLeft} (record { refusal = l.refusal; state = state; table = l.table; list = l.list; area = l.area; tokens = l.tokens; answer = answer })
      (scan_many_numbers src state table list area tokens answer)
  unfolding scan_many_numbers
  kept f =
      let same = e ∙ many_kept src (state_in state) table list area tokens (rw e at f) in
      rw (fits, ← e, ne_eqb _ _ f, ap (λ (k : ManyLeft). k.table) same, ap (λ (k : ManyLeft). k.list) same, ap (λ (k : ManyLeft). k.area) same, ap (λ (k : ManyLeft). k.tokens) same)

pub returns-then-too_short : goal.returns-then-too_short
unfolding scan_many_numbers
returns-then-too_short c = rw (c.number.ensures, sym c.too_short.ensures ∙ c.if-too_short.true)

-- past the test of lengths the slices are long enough
not_short : (e : Else-too_short) → let a = e.args in too_short (length a.state.now) state_width (length a.answer.now) 1 ≡ false
not_short e = sym e.too_short.ensures ∙ e.if-too_short.false

long : (e : Else-too_short) → let a = e.args in (state_width ≤ length a.state.now) × (1 ≤ length a.answer.now)
long e = long_enough _ _ _ _ e.too_short.ensures e.if-too_short.false

pub bounds-answer-0 : goal.bounds-answer-0
bounds-answer-0 c = omega (arith, (long (goal.at.bounds-answer-0 c).Else-too_short).1)

pub returns-in-Ok : goal.returns-in-Ok
returns-in-Ok c =
    let a = c.args in
    rw (c.put_state.ensures, le-leb _ _ (long (goal.at.returns-in-Ok c).Else-too_short).0)
    (gave a.src.now a.state.now a.table.now a.list.now a.area.now a.tokens.now a.answer.now (not_short (goal.at.returns-in-Ok c).Else-too_short)
    (many_left (state_in a.state.now) (Ok c.in-Ok.ran) c.scan_many.new.table c.scan_many.new.list c.scan_many.new.area c.scan_many.new.tokens)
    (rw (c.state_in.ensures) at c.in-Ok.ensures) refl)

pub returns-in-Err : goal.returns-in-Err
returns-in-Err c =
    let a = c.args in
    rw (c.number-in-Err.ensures)
    (kept a.src.now a.state.now a.table.now a.list.now a.area.now a.tokens.now a.answer.now (not_short (goal.at.returns-in-Err c).Else-too_short)
    (many_left (state_in a.state.now) (Err c.in-Err.refusal) c.scan_many.new.table c.scan_many.new.list c.scan_many.new.area c.scan_many.new.tokens)
    (rw (c.state_in.ensures) at c.in-Err.ensures) (refusal_some c.in-Err.refusal))
