-- `error` meets its contract: past the test the state fits alone, and the list is asked.
use mathlib.Core.Path.{sym, ◌∙◌}
use Rattle.queries.specs.Queries.{error_in}
use Rattle.queries.proofs.error.Goals as goal

pub returns-then-not-fits_alone : goal.returns-then-not-fits_alone
unfolding error_in
returns-then-not-fits_alone c = rw (sym c.fits_alone.ensures ∙ c.if-not-fits_alone.true)

pub returns : goal.returns
unfolding error_in
returns c = c.get.ensures ∙ rw (sym c.fits_alone.ensures ∙ c.if-not-fits_alone.false)
