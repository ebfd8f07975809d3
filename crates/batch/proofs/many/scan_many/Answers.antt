-- `batch::scan_many` meets its contract.
use mathlib.Core.Path.{sym, ◌∙◌}
use Rattle.batch.proofs.Given.{no_room, first_unfit}
use Rattle.batch.proofs.many.scan_many.Goals as goal

pub returns-then-tokens-lt-NUMBERS : goal.returns-then-tokens-lt-NUMBERS
returns-then-tokens-lt-NUMBERS c = no_room _ _ _ _ _ _ c.if-tokens-lt-NUMBERS.true

pub returns-then-not-fits : goal.returns-then-not-fits
returns-then-not-fits c = first_unfit _ _ _ _ _ _ c.if-tokens-lt-NUMBERS.false (sym c.fits.ensures ∙ c.if-not-fits.true)
