-- `open` meets its contract: the length and the check are the definition's tests, and the rest is `begin`.
use mathlib.Core.Path.{◌≡◌, sym, ap, ◌∙◌}
use Rattle.std.proofs.lemmas.Result.{err_from_is_err_and}
use Rattle.validation.specs.Answers.{checking_of}
use Rattle.opening.specs.Opening.{opening_of, open_of}
use Rattle.opening.specs.Steps.{or_refused}
use Rattle.opening.proofs.Opens.{open_long, open_bad, open_begun}
use Rattle.opening.proofs.open.Goals as goal
use Rattle.opening.proofs.open.Goals.{After-begin}

pub returns-then-src-gt-MAX_SOURCE : goal.returns-then-src-gt-MAX_SOURCE
returns-then-src-gt-MAX_SOURCE c = sym (open_long _ _ _ _ c.if-src-gt-MAX_SOURCE.true)

pub returns-in_err-chars : goal.returns-in_err-chars
returns-in_err-chars c =
    let p = err_from_is_err_and c.from_residual.result c.from_residual.ensures.1 in
    rw (p.1, p.2)
    (sym (open_bad _ _ _ _ c.if-src-gt-MAX_SOURCE.false (ap checking_of (sym c.in_err-chars.was) ∙ c.check.ensures)))

-- what `begin` answers is what the definition says
begun : (c : After-begin) → let a = c.args in opening_of c.begin.new.table (or_refused c.begin.result) ≡ open_of a.src.now a.base a.size a.table.now
begun c =
    c.begin.ensures
    ∙ sym (open_begun _ _ _ _ c.if-src-gt-MAX_SOURCE.false (ap checking_of (sym c.in_ok-chars.was) ∙ c.check.ensures))

pub returns-in_err-begin : goal.returns-in_err-begin
returns-in_err-begin c =
    let p = err_from_is_err_and c.from_residual-in_err-begin.result c.from_residual-in_err-begin.ensures.1 in
    rw (p.1, p.2) (rw c.in_err-begin.was at (begun (goal.at.returns-in_err-begin c).After-begin))

pub returns : goal.returns
returns c = rw c.in_ok-begin.was at (begun (goal.at.returns c).After-begin)
