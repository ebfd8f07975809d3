-- `State::fits_lines` meets its contract: its tests are the definition's, but for those that the table answers.
use mathlib.Core.Path.{◌≡◌, sym, ◌∙◌}
use mathlib.Core.Bool.{true, true≢false}
use native.Mathlib.Omega.{arith}
use Rattle.position.specs.Place.{fitting}
use Rattle.position.proofs.Place.{fit}
use Rattle.state.specs.Fits.{file_of, may_be_last}
use Rattle.state.proofs.Lined.{lined_last}
use Rattle.state.proofs.state.State.fits_lines.Goals as goal
use Rattle.state.proofs.state.State.fits_lines.Goals.{Then-may_be_last, then-is_inside, else-is_inside, then-fits, else-fits}

-- past its tests the state is inside, its file fits its table, and its line may be the last
tested : (c : Then-may_be_last) →
    let a = c.args in
    (c.is_inside.result ≡ true) × (fitting (file_of a.self) a.table.now ≡ true) × (may_be_last a.self ≡ true)
tested c =
    elim c.if-fits.branch [
      | then-fits w ↦ elim c.if-is_inside.branch [
        | then-is_inside v ↦ (v.if-is_inside.true, rw v.file.ensures at (sym v.fits.ensures ∙ sym v.value-is ∙ w.if-fits.true), sym w.may_be_last.ensures ∙ sym w.value-is ∙ c.if-may_be_last.true)
        | else-is_inside v ↦ absurd (true≢false (sym w.if-fits.true ∙ v.value-is ∙ v.if-is_inside.false))
      ]
      | else-fits w ↦ absurd (true≢false (sym c.if-may_be_last.true ∙ w.value-is ∙ w.if-fits.false))
    ]

pub overflow_sub-result : goal.overflow_sub-result
overflow_sub-result c = omega (arith, fit _ _ (tested (goal.at.overflow_sub-result c).Then-may_be_last).1)

pub offset_bounds-table-self : goal.offset_bounds-table-self
offset_bounds-table-self c = omega (arith, fit _ _ (tested (goal.at.offset_bounds-table-self c).Then-may_be_last).1)

pub bounds-table-self : goal.bounds-table-self
bounds-table-self c = omega (arith, fit _ _ (tested (goal.at.bounds-table-self c).Then-may_be_last).1)

pub returns-then-may_be_last : goal.returns-then-may_be_last
returns-then-may_be_last c =
    let a = c.args in
    let t = tested (goal.at.returns-then-may_be_last c).Then-may_be_last in
    lined_last a.self a.table.now (sym c.is_inside.ensures ∙ t.0) t.1 t.2
