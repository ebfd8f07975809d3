-- `line_start` meets its contract: where the state fits the lines, its file is asked.
use mathlib.Core.Path.{◌∙◌}
use Rattle.std.proofs.lemmas.Result.{err_from_is_err_and}
use Rattle.refusal.proofs.Outcomes.{fits_ok, fits_err}
use Rattle.queries.specs.Queries.{line_start_in}
use Rattle.queries.proofs.line_start.Goals as goal

pub returns-in_err-file_in : goal.returns-in_err-file_in
unfolding line_start_in
returns-in_err-file_in c =
    let p = err_from_is_err_and c.from_residual.result c.from_residual.ensures.1 in
    let q = fits_err _ _ c.file_in.ensures c.in_err-file_in.was in
    rw (p.1, p.2, q.1, q.0)

pub returns : goal.returns
unfolding line_start_in
returns c =
    let q = fits_ok _ _ c.file_in.ensures c.in_ok-file_in.was in
    c.line_start.ensures ∙ rw (q.1, q.0)
