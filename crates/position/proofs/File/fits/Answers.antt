-- `File::fits` meets its contract: each test of the code is one of the definition's.
use Rattle.std.proofs.Common.{arith}
use Rattle.std.proofs.lemmas.Bool.Decides.{nat_tests}
use Rattle.position.specs.Place.{fitting}
use Rattle.position.proofs.File.fits.Goals as goal
use Rattle.position.proofs.File.fits.Goals.{then-in_range, else-in_range, then-self-gt0, else-self-gt0}

pub returns-then-self-table : goal.returns-then-self-table
unfolding fitting
returns-then-self-table c = grind (arith, nat_tests)

pub returns-else-self-table : goal.returns-else-self-table
unfolding fitting
returns-else-self-table c =
    elim c.if-self-gt0.branch [ then-self-gt0 w ↦ grind (arith, nat_tests) | else-self-gt0 w ↦ elim c.if-in_range.branch [ then-in_range v ↦ grind (arith, nat_tests) | else-in_range v ↦ grind (arith, nat_tests) ] ]
