-- `File::position` meets its contract: in a table that fits, the line found is at least 1 and the start before it at most the offset.
use Prim.Native.Nat.{◌-◌, ◌≤◌}
use mathlib.Core.Path.{◌≡◌, sym, ◌∙◌}
use mathlib.Core.Bool.{true}
use native.Mathlib.Omega.{arith}
use Rattle.std.proofs.lemmas.Result.{err_from_is_err_and}
use Rattle.refusal.proofs.Outcomes.{fits_ok, fits_err}
use Rattle.position.specs.Place.{fitting}
use Rattle.position.proofs.Place.{fit, starts_length}
use Rattle.position.proofs.Queries.{position_unfit, position_below, position_above, position_read, Found, found, less_base, below_base}
use Rattle.position.proofs.File.position.Goals as goal
use Rattle.position.proofs.File.position.Goals.{After-line_of-line, In_ok-checked, In_ok-offset}

pub returns-in_err-checked : goal.returns-in_err-checked
returns-in_err-checked c =
    let p = err_from_is_err_and c.from_residual.result c.from_residual.ensures.1 in
    let q = fits_err _ _ c.checked.ensures c.in_err-checked.was in
    rw (p.1, p.2, q.1) (sym (position_unfit _ _ _ q.0))

-- past the check the file fits its table
fitted : (c : In_ok-checked) → let a = c.args in fitting a.self a.table.now ≡ true
fitted c = (fits_ok _ _ c.checked.ensures c.in_ok-checked.was).0

pub returns-in_err-offset : goal.returns-in_err-offset
returns-in_err-offset c =
    let p = err_from_is_err_and c.from_residual-in_err-offset.result c.from_residual-in_err-offset.ensures.1 in
    let q = below_base _ _ _ c.checked_sub.ensures (sym c.ok_or.ensures.value ∙ c.in_err-offset.was) in
    rw (p.1, p.2, q.1) (sym (position_below _ _ _ (fitted (goal.at.returns-in_err-offset c).In_ok-checked) q.0))

-- past it the offset is what is left of the position
left : (c : In_ok-offset) → let a = c.args in (a.self.base ≤ a.p) × (c.in_ok-offset.offset ≡ a.p - a.self.base)
left c = less_base _ _ _ c.checked_sub.ensures (sym c.ok_or.ensures.value ∙ c.in_ok-offset.was)

pub returns-then-offset-self : goal.returns-then-offset-self
returns-then-offset-self c = sym (position_above _ _ _ (fitted (goal.at.returns-then-offset-self c).In_ok-checked) (omega (arith, left (goal.at.returns-then-offset-self c).In_ok-offset)))

pub slice_bounds-line_of-end : goal.slice_bounds-line_of-end
slice_bounds-line_of-end c = sym (starts_length _ _ (fit _ _ (fitted (goal.at.slice_bounds-line_of-end c).In_ok-checked)))

line_found : (c : After-line_of-line) →
    let a = c.args in
    fitting a.self a.table.now ≡ true → Found a.self a.table.now c.in_ok-offset.offset c.line_of-line.result
line_found c e = found _ _ (fit _ _ e) _ c.line_of-line.ensures

pub overflow_sub-column : goal.overflow_sub-column
overflow_sub-column c = omega (arith, line_found (goal.at.overflow_sub-column c).After-line_of-line (fitted (goal.at.overflow_sub-column c).In_ok-checked))

pub offset_bounds-table-line : goal.offset_bounds-table-line
offset_bounds-table-line c = omega (arith, line_found (goal.at.offset_bounds-table-line c).After-line_of-line (fitted (goal.at.offset_bounds-table-line c).In_ok-checked), fit _ _ (fitted (goal.at.offset_bounds-table-line c).In_ok-checked))

pub bounds-table-line : goal.bounds-table-line
bounds-table-line c = omega (arith, line_found (goal.at.bounds-table-line c).After-line_of-line (fitted (goal.at.bounds-table-line c).In_ok-checked), fit _ _ (fitted (goal.at.bounds-table-line c).In_ok-checked))

pub overflow_sub-column-2 : goal.overflow_sub-column-2
overflow_sub-column-2 c = omega (arith, line_found (goal.at.overflow_sub-column-2 c).After-line_of-line (fitted (goal.at.overflow_sub-column-2 c).In_ok-checked))

pub overflow_add-column : goal.overflow_add-column
overflow_add-column c = omega (arith, fit _ _ (fitted (goal.at.overflow_add-column c).In_ok-checked))

pub returns : goal.returns
returns c =
    let l = left (goal.at.returns c).In_ok-offset in
    rw l.1 (sym (position_read _ _ _ (fitted (goal.at.returns c).In_ok-checked) l.0 (rw l.1 at c.if-offset-self.false) (rw l.1 at c.line_of-line.ensures)))
