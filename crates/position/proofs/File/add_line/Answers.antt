-- `File::add_line` meets its contract: each test of the code is one of the definition's, and a table that fits holds the last start.
use mathlib.Core.Path.{◌≡◌, sym}
use mathlib.Core.Bool.{true}
use native.Mathlib.Omega.{arith}
use Rattle.std.proofs.lemmas.Result.{err_from_is_err_and}
use Rattle.refusal.proofs.Outcomes.{fits_ok, fits_err}
use Rattle.position.specs.Place.{fitting}
use Rattle.position.specs.Adding.{starting}
use Rattle.position.proofs.Place.{fit}
use Rattle.position.proofs.Adding.{starting_low, starting_past, starting_here, add_unfit, add_none, add_full, add_one_more}
use Rattle.position.proofs.File.add_line.Goals as goal
use Rattle.position.proofs.File.add_line.Goals.{In_ok-checked, Else-offset-self, then-offset-table-via-then-offset-table, then-offset-table-via-else-offset-table+then-offset-self}

pub returns-in_err-checked : goal.returns-in_err-checked
returns-in_err-checked c =
    let p = err_from_is_err_and c.from_residual.result c.from_residual.ensures.1 in
    let q = fits_err _ _ c.checked.ensures c.in_err-checked.was in
    rw (p.1, p.2, q.1) (sym (add_unfit _ _ _ q.0))

-- past the check the file fits its table
fitted : (c : In_ok-checked) → let a = c.args in fitting a.self a.table.now ≡ true
fitted c = (fits_ok _ _ c.checked.ensures c.in_ok-checked.was).0

pub overflow_sub-lines : goal.overflow_sub-lines
overflow_sub-lines c = omega (arith, fit _ _ (fitted (goal.at.overflow_sub-lines c).In_ok-checked))

pub offset_bounds-table-lines : goal.offset_bounds-table-lines
offset_bounds-table-lines c = omega (arith, fit _ _ (fitted (goal.at.offset_bounds-table-lines c).In_ok-checked))

pub bounds-table-lines : goal.bounds-table-lines
bounds-table-lines c = omega (arith, fit _ _ (fitted (goal.at.bounds-table-lines c).In_ok-checked))

pub returns-then-offset-table : goal.returns-then-offset-table
returns-then-offset-table c =
    elim c.then-offset-table.branch [
      | then-offset-table-via-then-offset-table w ↦ sym (add_none _ _ _ (fitted (goal.at.returns-then-offset-table c).In_ok-checked) (starting_low _ _ _ w.if-offset-table.true))
      | then-offset-table-via-else-offset-table+then-offset-self w ↦ sym (add_none _ _ _ (fitted (goal.at.returns-then-offset-table c).In_ok-checked) (starting_past _ _ _ w.if-offset-self.true))
    ]

-- past the third test the offset is a start to be recorded
recorded : (c : Else-offset-self) →
    let a = c.args in
    starting a.self a.table.now a.offset ≡ true
recorded c = starting_here _ _ _ c.if-offset-table.false c.if-offset-self.false

pub returns-then-lines-table : goal.returns-then-lines-table
returns-then-lines-table c =
    sym (add_full _ _ _ (fitted (goal.at.returns-then-lines-table c).In_ok-checked) (recorded (goal.at.returns-then-lines-table c).Else-offset-self) c.if-lines-table.true)

pub offset_bounds-table-lines-2 : goal.offset_bounds-table-lines-2
offset_bounds-table-lines-2 c = omega (arith, fit _ _ (fitted (goal.at.offset_bounds-table-lines-2 c).In_ok-checked))

pub bounds-table-lines-2 : goal.bounds-table-lines-2
bounds-table-lines-2 c = omega (arith, fit _ _ (fitted (goal.at.bounds-table-lines-2 c).In_ok-checked))

pub overflow_add-result : goal.overflow_add-result
overflow_add-result c = omega (arith, fit _ _ (fitted (goal.at.overflow_add-result c).In_ok-checked))

pub returns : goal.returns
returns c =
    sym (add_one_more _ _ _ (fitted (goal.at.returns c).In_ok-checked) (recorded (goal.at.returns c).Else-offset-self) c.if-lines-table.false)
