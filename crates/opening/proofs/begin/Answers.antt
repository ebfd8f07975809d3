-- `begin` meets its contract: each test of the code is one of the definition's.
use mathlib.Core.Path.{◌≡◌, sym, ◌∙◌}
use mathlib.Core.Bool.{true}
use borrow.Author.Tests.{eqb-true, eqb-false}
use Rattle.position.specs.Place.{in_range}
use Rattle.state.specs.Fits.{file_of}
use Rattle.state.specs.State.{fresh}
use Rattle.opening.proofs.Opens.{begin_small, begin_high, begin_full, begin_ready}
use Rattle.opening.proofs.begin.Goals as goal
use Rattle.opening.proofs.begin.Goals.{Else-not-in_range, then-chars-size-via-then-chars-size, then-chars-size-via-else-chars-size+then-not-in_range}

pub returns-then-chars-size : goal.returns-then-chars-size
returns-then-chars-size c =
    elim c.then-chars-size.branch [
      | then-chars-size-via-then-chars-size w ↦ sym (begin_small _ _ _ _ w.if-chars-size.true)
      | then-chars-size-via-else-chars-size+then-not-in_range w ↦
          sym (begin_high _ _ _ _ (rw (← c.new-state.ensures, ← w.file.ensures, ← w.in_range.ensures) w.if-not-in_range.true))
    ]

in_place : (c : Else-not-in_range) → let a = c.args in in_range (file_of (fresh a.base a.size)) ≡ true
in_place c = rw (← c.new-state.ensures, ← c.file.ensures, ← c.in_range.ensures) c.if-not-in_range.false

pub returns-then-is_empty : goal.returns-then-is_empty
returns-then-is_empty c =
    sym (begin_full _ _ _ _ c.if-chars-size.false (in_place (goal.at.returns-then-is_empty c).Else-not-in_range) (eqb-true _ _ (sym c.is_empty.ensures ∙ c.if-is_empty.true)))

pub returns : goal.returns
returns c =
    rw c.new-state.ensures
    (sym (begin_ready _ _ _ _ c.if-chars-size.false (in_place (goal.at.returns c).Else-not-in_range) (eqb-false _ _ (sym c.is_empty.ensures ∙ c.if-is_empty.false))))
