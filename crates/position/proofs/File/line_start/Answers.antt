-- `File::line_start` meets its contract: a start that is at most the offset, and so at most the size, gives a position.
use mathlib.Core.Path.{◌≡◌, sym}
use mathlib.Core.Bool.{true}
use native.Mathlib.Omega.{arith}
use Rattle.std.proofs.lemmas.Result.{err_from_is_err_and}
use Rattle.refusal.proofs.Outcomes.{fits_ok, fits_err}
use Rattle.position.specs.Place.{fitting}
use Rattle.position.proofs.Place.{fit}
use Rattle.position.proofs.Queries.{start_unfit, start_unread, start_zero, start_past, start_above, start_gave}
use Rattle.position.proofs.File.line_start.Goals as goal
use Rattle.position.proofs.File.line_start.Goals.{In_ok-checked, then-line-eq0-via-then-line-eq0, then-line-eq0-via-else-line-eq0+then-line-self}

pub returns-in_err-checked : goal.returns-in_err-checked
returns-in_err-checked c =
    let p = err_from_is_err_and c.from_residual.result c.from_residual.ensures.1 in
    let q = fits_err _ _ c.checked.ensures c.in_err-checked.was in
    rw (p.1, p.2, q.1) (sym (start_unfit _ _ _ _ q.0))

-- past the check the file fits its table
fitted : (c : In_ok-checked) → let a = c.args in fitting a.self a.table.now ≡ true
fitted c = (fits_ok _ _ c.checked.ensures c.in_ok-checked.was).0

pub returns-then-offset-self : goal.returns-then-offset-self
returns-then-offset-self c = sym (start_unread _ _ _ _ (fitted (goal.at.returns-then-offset-self c).In_ok-checked) c.if-offset-self.true)

pub returns-then-line-eq0 : goal.returns-then-line-eq0
returns-then-line-eq0 c =
    let e = fitted (goal.at.returns-then-line-eq0 c).In_ok-checked in
    elim c.then-line-eq0.branch [
      | then-line-eq0-via-then-line-eq0 w ↦ sym (start_zero _ _ _ _ e c.if-offset-self.false w.if-line-eq0.true)
      | then-line-eq0-via-else-line-eq0+then-line-self w ↦ sym (start_past _ _ _ _ e c.if-offset-self.false (omega (arith, w.if-line-eq0.false)) w.if-line-self.true)
    ]

pub offset_bounds-table-line : goal.offset_bounds-table-line
offset_bounds-table-line c = omega (arith, fit _ _ (fitted (goal.at.offset_bounds-table-line c).In_ok-checked))

pub bounds-table-line : goal.bounds-table-line
bounds-table-line c = omega (arith, fit _ _ (fitted (goal.at.bounds-table-line c).In_ok-checked))

pub returns-then-start-offset : goal.returns-then-start-offset
returns-then-start-offset c =
    sym
    (start_above _ _ _ _ (fitted (goal.at.returns-then-start-offset c).In_ok-checked) c.if-offset-self.false (omega arith) c.if-line-self.false c.if-start-offset.true)

pub overflow_add-result : goal.overflow_add-result
overflow_add-result c = omega (arith, fit _ _ (fitted (goal.at.overflow_add-result c).In_ok-checked))

pub returns : goal.returns
returns c =
    sym
    (start_gave _ _ _ _ (fitted (goal.at.returns c).In_ok-checked) c.if-offset-self.false (omega arith) c.if-line-self.false c.if-start-offset.false)
